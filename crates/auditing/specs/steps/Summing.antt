-- Adding up what is counted of harts.
use Rattle.std.specs.Prelude.{ℕ, ◌&&◌, ◌+◌, ◌*◌, ◌^◌, ◌<◌, ◌≤◌, not, length}
use Rattle.std.specs.List.{count_by}
use Rattle.auditing.specs.Matches.{Flags}
use Rattle.auditing.specs.Counted.{is_whole}
use Rattle.auditing.specs.declared.aligned_counts.AlignedTotal.{AlignedTotal}

-- The sums with one hart more.
abbrev pub with_hart : AlignedTotal → Flags → AlignedTotal
with_hart total flags = record {
  sent = total.sent + length flags.sent;
  came = total.came + length flags.came;
  lost = total.lost + count_by not flags.sent;
  extra = total.extra + count_by not flags.came;
  whole = total.whole && is_whole flags;
}

-- The sums are not greater than those of so many harts can be.
pub record HasFew (harts : ℕ) (total : AlignedTotal) : Type 0 where
  pub sent : total.sent ≤ harts * 2 ^ 64
  pub came : total.came ≤ harts * 2 ^ 64
  pub lost : total.lost ≤ harts * 2 ^ 64
  pub extra : total.extra ≤ harts * 2 ^ 64

-- One hart more has room.
pub record HasRoom (total : AlignedTotal) : Type 0 where
  pub sent : total.sent < 2 ^ 127
  pub came : total.came < 2 ^ 127
  pub lost : total.lost < 2 ^ 127
  pub extra : total.extra < 2 ^ 127
