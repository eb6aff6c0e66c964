-- The entries behind these messages are looked at.
use Rattle.std.proofs.Common.{length}
use Rattle.salvaging.specs.steps.Arrivals.{arrivals_in}
use Rattle.salvaging.specs.steps.Grouping.{entries_by}
use Rattle.salvaging.proofs.LateSteps.{LateSo}
use Rattle.salvaging.proofs.late.late.Given as goal

abbrev pub invariant-loop-entry : goal.invariant-loop-entry
invariant-loop-entry l =
    LateSo (entries_by (arrivals_in l.came)) l.verdicts l.far l.count l.first (entries_by (arrivals_in l.rest)) l.at

abbrev pub decreases-loop-entry : goal.decreases-loop-entry
decreases-loop-entry l = length l.rest
