use Rattle.log_streams.specs.steps.Places.{IsTakenUpTo}
use Rattle.log_streams.proofs.in_order.take_made.Given as goal

-- What was made of the logs so far was taken, and the rest is left.
abbrev pub invariant-loop-one : goal.invariant-loop-one
invariant-loop-one g l = IsTakenUpTo l.fn.all.items l.one-iterator.rest.items l.made.items
