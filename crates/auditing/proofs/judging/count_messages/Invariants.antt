-- The messages so far were counted.
use Rattle.auditing.specs.steps.Indexing.{HasCounted}
use Rattle.auditing.proofs.judging.count_messages.Given as goal

abbrev pub invariant-loop-number : goal.invariant-loop-number
invariant-loop-number g l = HasCounted l.harts l.fn.left l.left l.counts.items l.highest l.number
