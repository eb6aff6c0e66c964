-- Sums of what rows count, hart by hart.
use Rattle.std.proofs.Common.{◌≡◌, ℕ, ◌+◌, ◌-◌, ◌*◌, ◌^◌, ◌<◌, ◌≤◌, List, refl, sym, ap, ◌∙◌, arith, add-zero, zero-add, None}
use Rattle.std.specs.Prelude.{◌&&◌}
use Rattle.std.specs.List.{list_all, range_with_len, sum_by}
use Rattle.std.proofs.lemmas.List.Sums.{sum_by-cons}
use Rattle.message.specs.declared.message.Message.{Message}
use Rattle.auditing.specs.HartRows.{row_of}
use Rattle.auditing.specs.Tallies.{tally_of}
use Rattle.auditing.specs.declared.row.HartRow.{HartRow}
use Rattle.path_commands.proofs.HartLines.{next_hart, no_hart, tested_all, tested_more}
use Rattle.path_commands.specs.AuditText.{are_whole, total_of}
use Rattle.path_commands.specs.declared.total.Total.{Total}
use Rattle.path_commands.specs.steps.Summing.{added, none_added, with_one}

-- The counts of the harts so far are summed up; those from this hart on are left.
record IsSum (count : ℕ → ℕ) (so_far from hart harts : ℕ) : Type 0 where
  left : so_far + sum_by count (range_with_len hart (harts - hart)) ≡ sum_by count (range_with_len from (harts - from))
  most : so_far ≤ hart * 2 ^ 64

-- At first none is.
sum_none : (count : ℕ → ℕ) (from harts : ℕ) → IsSum count 0 from from harts
sum_none count from harts = record {
  left = zero-add (sum_by count (range_with_len from (harts - from)));
  most = omega arith;
}

-- One more is.
sum_more : (count : ℕ → ℕ) (so_far from hart harts : ℕ) → hart < harts → harts < 2 ^ 64 → count hart < 2 ^ 64
    → IsSum count so_far from hart harts → IsSum count (with_one so_far (count hart)) from (hart + 1) harts
sum_more count so_far from hart harts within few low has =
    let rest = ap (sum_by count) (next_hart hart harts within)
    ∙ sum_by-cons count hart (range_with_len (hart + 1) (harts - (hart + 1))) in
    let left = has.left in
    let most = has.most in record {
      left = go (sum_by count (range_with_len hart (harts - hart)))
          (sum_by count (range_with_len (hart + 1) (harts - (hart + 1)))) (sum_by count (range_with_len from
          (harts - from)))
          (count hart) low rest left;
      most = at (count hart) low;
    }
  where
    go : (all others whole one : ℕ) → one < 2 ^ 64 → all ≡ one + others → so_far + all ≡ whole
        → with_one so_far one + others ≡ whole
    go all others whole one low rest left = let most = has.most in omega (arith, within, few, low, rest, left, most)

    at : (one : ℕ) → one < 2 ^ 64 → with_one so_far one ≤ (hart + 1) * 2 ^ 64
    at one low = let most = has.most in omega (arith, within, few, low, most)

-- All are.
sum_all : (count : ℕ → ℕ) (so_far from hart harts : ℕ) → harts ≤ hart → IsSum count so_far from hart harts
    → so_far ≡ sum_by count (range_with_len from (harts - from))
sum_all count so_far from hart harts past has =
    sym (ap (λ l. so_far + sum_by count l) (no_hart hart harts past) ∙ add-zero so_far) ∙ has.left

-- Each count of the harts so far is summed up.
pub record IsTotal (sent received : List Message) (total : Total) (from hart harts : ℕ) : Type 0 where
  sent_is : IsSum (λ h. (row_of sent received h).tally.sent) total.sent from hart harts
  came_is : IsSum (λ h. (row_of sent received h).tally.came) total.came from hart harts
  lost_is : IsSum (λ h. (row_of sent received h).tally.lost) total.lost from hart harts
  repeated_is : IsSum (λ h. (row_of sent received h).tally.repeated) total.repeated from hart harts
  late_is : IsSum (λ h. (row_of sent received h).tally.late) total.late from hart harts
  changed_is : IsSum (λ h. (row_of sent received h).tally.changed) total.changed from hart harts
  strange_is : IsSum (λ h. (row_of sent received h).strange) total.strange from hart harts
  none_late : total.too_late ≡ None
  whole_is : (total.whole && list_all (λ h. (tally_of sent received h).whole) (range_with_len hart (harts - hart)))
      ≡ are_whole sent received (range_with_len from (harts - from))

pub total_none : (sent received : List Message) (from harts : ℕ) → IsTotal sent received none_added from from harts
total_none sent received from harts = record {
  sent_is = sum_none _ from harts;
  came_is = sum_none _ from harts;
  lost_is = sum_none _ from harts;
  repeated_is = sum_none _ from harts;
  late_is = sum_none _ from harts;
  changed_is = sum_none _ from harts;
  strange_is = sum_none _ from harts;
  none_late = refl;
  whole_is = refl;
}

-- The counts of a row are below 2^64.
pub record AreFew (row : HartRow) : Type 0 where
  sent : row.tally.sent < 2 ^ 64
  came : row.tally.came < 2 ^ 64
  lost : row.tally.lost < 2 ^ 64
  repeated : row.tally.repeated < 2 ^ 64
  late : row.tally.late < 2 ^ 64
  changed : row.tally.changed < 2 ^ 64
  strange : row.strange < 2 ^ 64

pub few_by : (row : HartRow) → row.tally.sent < 2 ^ 64 → row.tally.came < 2 ^ 64 → row.tally.lost < 2 ^ 64
    → row.tally.repeated < 2 ^ 64 → row.tally.late < 2 ^ 64 → row.tally.changed < 2 ^ 64 → row.strange < 2 ^ 64
    → AreFew row
few_by row a b c d e f g = record {
  sent = a;
  came = b;
  lost = c;
  repeated = d;
  late = e;
  changed = f;
  strange = g;
}

pub total_more : (sent received : List Message) (total : Total) (from hart harts : ℕ) → hart < harts → harts < 2 ^ 64
    → AreFew (row_of sent received hart) → IsTotal sent received total from hart harts
    → IsTotal sent received (added total (row_of sent received hart)) from (hart + 1) harts
total_more sent received total from hart harts within few rows has = record {
  sent_is = sum_more _ total.sent from hart harts within few rows.sent has.sent_is;
  came_is = sum_more _ total.came from hart harts within few rows.came has.came_is;
  lost_is = sum_more _ total.lost from hart harts within few rows.lost has.lost_is;
  repeated_is = sum_more _ total.repeated from hart harts within few rows.repeated has.repeated_is;
  late_is = sum_more _ total.late from hart harts within few rows.late has.late_is;
  changed_is = sum_more _ total.changed from hart harts within few rows.changed has.changed_is;
  strange_is = sum_more _ total.strange from hart harts within few rows.strange has.strange_is;
  none_late = has.none_late;
  whole_is =
      sym (tested_more (λ h. (tally_of sent received h).whole) total.whole hart harts within) ∙ has.whole_is;
}

pub total_all : (sent received : List Message) (total : Total) (from hart harts : ℕ) → harts ≤ hart
    → IsTotal sent received total from hart harts → total ≡ total_of sent received (range_with_len from (harts - from))
total_all sent received total from hart harts past has = λ i. record {
  sent = sum_all _ total.sent from hart harts past has.sent_is i;
  came = sum_all _ total.came from hart harts past has.came_is i;
  lost = sum_all _ total.lost from hart harts past has.lost_is i;
  repeated = sum_all _ total.repeated from hart harts past has.repeated_is i;
  late = sum_all _ total.late from hart harts past has.late_is i;
  changed = sum_all _ total.changed from hart harts past has.changed_is i;
  strange = sum_all _ total.strange from hart harts past has.strange_is i;
  too_late = has.none_late i;
  whole = (sym (tested_all (λ h. (tally_of sent received h).whole) total.whole hart harts past) ∙ has.whole_is) i;
}
