-- The sums so far, and the last of them.
use Rattle.std.proofs.Common.{◌≡◌, ◌≤◌, ◌*◌, ◌^◌, take}
use Rattle.std.specs.Prelude.{sum_by}
use Rattle.salvage_reports.specs.steps.Counted.{rows_in, summed}
use Rattle.salvage_reports.proofs.hart_rows.all_summed.Given as goal

abbrev pub invariant-loop-at : goal.invariant-loop-at
invariant-loop-at g l = record {
  sums : l.sums.items ≡ summed 0 (take l.at l.all);
  rows : l.rows ≡ sum_by rows_in (take l.at l.all);
  few : l.rows ≤ l.at * 2 ^ 64;
}
