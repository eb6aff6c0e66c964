-- The entries behind these messages have their rows.
use Rattle.std.proofs.Common.{length}
use Rattle.salvaging.specs.steps.Arrivals.{arrivals_in}
use Rattle.salvaging.specs.steps.Grouping.{entries_by}
use Rattle.salvaging.proofs.RowSteps.{RowsSo}
use Rattle.salvaging.proofs.rows.rows_back.Given as goal

abbrev pub invariant-loop-entry : goal.invariant-loop-entry
invariant-loop-entry g l =
    RowsSo (entries_by (arrivals_in l.came)) l.treatments l.far (entries_by (arrivals_in l.rest)) l.first l.at
    l.found.items

abbrev pub decreases-loop-entry : goal.decreases-loop-entry
decreases-loop-entry g l = length l.rest
