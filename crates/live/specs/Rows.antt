-- What is counted of the lines of a live audit, by hart.
use Rattle.std.specs.Prelude.{ℕ, ◌≡◌, ◌+◌, ◌==◌, ◌&&◌, ◌++◌, nat_lt, Bool, true, false, if◌then◌else◌, max}
use Rattle.std.specs.Prelude.{List, [], ◌∷◌, Some, None, length, slice_get}
use Rattle.auditing.specs.Audits.{capped}
use Rattle.auditing.specs.declared.finding.Finding.{Finding}
use Rattle.auditing.specs.declared.finding.Finding.TheVariants as finding
use Rattle.live.specs.Lines.{Line, Decided, TooLate, GivenUp, Missing}
use Rattle.live.specs.declared.rows.LineCounts.{LineCounts}
use Rattle.live.specs.declared.rows.LiveRow.{LiveRow}

-- One more, or 2^64 - 1 where that is as many.
abbrev pub one_more : ℕ → ℕ
one_more count = capped (count + 1)

-- Before the first line.
abbrev pub no_counts : LineCounts
no_counts = record {
  sent = 0;
  came = 0;
  lost = 0;
  repeated = 0;
  late = 0;
  changed = 0;
  strange = 0;
  too_late = 0;
  runs = 0;
  longest = 0;
  latest = 0;
  run = 0;
}

-- This is found of a message that came. One that is in order or late was sent.
abbrev pub found_counts : Finding → LineCounts → LineCounts
found_counts finding.Stranger own = record own { came = one_more own.came; strange = one_more own.strange }
found_counts finding.Changed own = record own { came = one_more own.came; changed = one_more own.changed }
found_counts finding.Repeat own = record own { came = one_more own.came; repeated = one_more own.repeated }
found_counts (finding.Late by) own = record own {
  sent = one_more own.sent;
  came = one_more own.came;
  late = one_more own.late;
  latest = max own.latest by;
}
found_counts (finding.InOrder skips) own = record own { sent = one_more own.sent; came = one_more own.came }

-- A message that came is too late.
abbrev pub late_counts : LineCounts → LineCounts
late_counts own = record own { came = one_more own.came; too_late = one_more own.too_late }

-- A message of SENT is given up. If it came, the run of lost numbers ends; else it is lost, and the run has one number more.
abbrev pub given_counts : Bool → LineCounts → LineCounts
given_counts true own = record own { run = 0 }
given_counts false own = record own {
  sent = one_more own.sent;
  lost = one_more own.lost;
  runs = if own.run == 0 then one_more own.runs else own.runs;
  longest = max own.longest (one_more own.run);
  run = one_more own.run;
}

-- The counts of a hart after a line of it.
abbrev pub counted : Line → LineCounts → LineCounts
counted (Decided one its sent) own = found_counts its own
counted (TooLate one) own = late_counts own
counted (GivenUp slot) own = given_counts slot.came own
counted (Missing hart lost) own = own

-- The hart of a line.
abbrev pub hart_of : Line → ℕ
hart_of (Decided one its sent) = one.message.hart
hart_of (TooLate one) = one.message.hart
hart_of (GivenUp slot) = slot.message.hart
hart_of (Missing hart lost) = hart

-- The counts of a hart after these lines, by those before them.
abbrev pub counts_after : ℕ → LineCounts → List Line → LineCounts
counts_after hart own [] = own
counts_after hart own (line ∷ lines) =
    counts_after hart (if hart_of line == hart then counted line own else own) lines

-- What is counted of a hart in lines.
abbrev pub counts_in : List Line → ℕ → LineCounts
counts_in lines hart = counts_after hart no_counts lines

-- A hart is whole: nothing was lost, and all that came was in order.
abbrev pub is_whole : LineCounts → Bool
is_whole own =
    own.lost == 0 && (own.strange == 0 && (own.changed == 0 && (own.repeated == 0 && (own.late == 0 && own.too_late == 0))))

-- The row of a hart.
abbrev pub row_by : LineCounts → LiveRow
row_by own = record {
  row = record {
    tally = record {
      sent = own.sent;
      came = own.came;
      lost = own.lost;
      repeated = own.repeated;
      late = own.late;
      changed = own.changed;
      whole = is_whole own;
    };
    strange = own.strange;
    runs = own.runs;
    longest = own.longest;
    latest = own.latest;
    exchanged = None;
  };
  too_late = own.too_late;
}

-- The same, by the lines.
abbrev pub row_in : List Line → ℕ → LiveRow
row_in lines hart = row_by (counts_in lines hart)

-- The count of messages of harts that are not known, after this line of a hart.
abbrev pub others_counted : ℕ → Line → ℕ → ℕ
others_counted harts (Decided one its sent) others = if nat_lt one.message.hart harts then others else one_more others
others_counted harts other others = others

-- The same after these lines.
abbrev pub others_after : ℕ → ℕ → List Line → ℕ
others_after harts others [] = others
others_after harts others (line ∷ lines) = others_after harts (others_counted harts line others) lines

-- How many messages of harts that are not known were found in lines, where there are so many harts. Each is a stranger.
abbrev pub others_in : ℕ → List Line → ℕ
others_in harts lines = others_after harts 0 lines

-- What is counted of each hart, and of those that are not known.
pub record LineRows : Type 0 where
  pub counts : List LineCounts
  pub others : ℕ

-- This is counted in these lines.
pub record Counts (lines : List Line) (own : LineRows) : Type 0 where
  pub each : (hart : ℕ) (its : LineCounts) → slice_get own.counts hart ≡ Some its → its ≡ counts_in lines hart
  pub others : own.others ≡ others_in (length own.counts) lines

-- These lines are counted more, and as many harts are known.
pub record CountsMore (old : LineRows) (lines : List Line) (new : LineRows) : Type 0 where
  pub harts : length new.counts ≡ length old.counts
  pub counts : (before : List Line) → Counts before old → Counts (before ++ lines) new
