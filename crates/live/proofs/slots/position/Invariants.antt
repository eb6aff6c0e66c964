-- No message at a place that was looked at has the number.
use Rattle.live.proofs.Searched.{NoneAround}
use Rattle.live.proofs.slots.position.Given as goal

abbrev pub invariant-loop-away : goal.invariant-loop-away
invariant-loop-away g l = NoneAround l.slots.items l.hart l.number l.near l.away
