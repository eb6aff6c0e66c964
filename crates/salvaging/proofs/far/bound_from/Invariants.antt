-- The bound is reached from the first count.
use Rattle.std.proofs.Common.{◌-◌, ◌^◌}
use Rattle.salvaging.proofs.BoundSteps.{BoundSo}
use Rattle.salvaging.proofs.far.bound_from.Given as goal

abbrev pub invariant-loop-bound : goal.invariant-loop-bound
invariant-loop-bound l = BoundSo l.counts l.first l.bound l.next

abbrev pub decreases-loop-bound : goal.decreases-loop-bound
decreases-loop-bound l = 2 ^ 63 - l.bound
