-- Of the numbers before these it is counted how many messages they are ahead of, and their places are taken.
use Rattle.std.proofs.Common.{◌≤◌, length}
use Rattle.std.specs.Vec.{vec_capacity}
use Rattle.salvaging.specs.steps.Arrivals.{arrivals_in}
use Rattle.salvaging.specs.steps.Grouping.{entries_by}
use Rattle.salvaging.proofs.AheadSteps.{AheadSo}
use Rattle.salvaging.proofs.far.aheads.Given as goal

abbrev pub invariant-loop-entry : goal.invariant-loop-entry
invariant-loop-entry g l = record {
  so : AheadSo (entries_by (arrivals_in l.came)) (length l.came) l.places l.counts.items
      (entries_by (arrivals_in l.rest)) (length l.rest);
  room : length l.came ≤ vec_capacity l.counts;
}

abbrev pub decreases-loop-entry : goal.decreases-loop-entry
decreases-loop-entry g l = length l.rest
