-- Of the numbers before these it is known how many messages the most that has a neighbour is ahead of.
use Rattle.std.proofs.Common.{◌≤◌, length}
use Rattle.salvaging.specs.steps.Arrivals.{arrivals_in}
use Rattle.salvaging.specs.steps.Grouping.{entries_by}
use Rattle.salvaging.proofs.Neighbours.{NearSo}
use Rattle.salvaging.proofs.far.nearest.Given as goal

abbrev pub invariant-loop-entry : goal.invariant-loop-entry
invariant-loop-entry l = record {
  shorter : length l.rest ≤ length l.came;
  so : NearSo (entries_by (arrivals_in l.came)) (entries_by (arrivals_in l.rest)) l.most l.before l.at;
}

abbrev pub decreases-loop-entry : goal.decreases-loop-entry
decreases-loop-entry l = length l.rest
