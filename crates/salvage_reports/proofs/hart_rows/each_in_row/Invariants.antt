-- The messages so far, with their rows.
use Rattle.std.proofs.Common.{◌≡◌, List, map, take}
use Rattle.std.specs.Prelude.{All}
use Rattle.std.specs.List.{zip}
use Rattle.std.specs.List.Sorted.{IsNonDecreasingBy, IsPermutation}
use Rattle.salvage_reports.specs.HartRows.{in_row}
use Rattle.salvage_reports.specs.declared.hart_rows.Counted.{Counted}
use Rattle.salvage_reports.specs.steps.Counted.{HasNumber, all_counted, key_in, summed}
use Rattle.salvage_reports.proofs.hart_rows.each_in_row.Given as goal

abbrev pub invariant-loop-at : goal.invariant-loop-at
invariant-loop-at g l =
    (all : List Counted) → IsPermutation (all_counted l.messages l.treated) all → IsNonDecreasingBy key_in all
    → l.sums ≡ summed 0 all → All HasNumber (zip l.messages l.treated)
    → l.all.items ≡ map (in_row (zip l.messages l.treated)) (take l.at (zip l.messages l.treated))
