use Rattle.rvclass.specs.Fetch.{words_of}
use Rattle.stimulus.specs.Mixed.{Plan, Sent}
use Rattle.stimulus.specs.Order.{drawn_of}
use Rattle.stimulus.specs.steps.Sending.{AreSent}
use Rattle.stimulus.proofs.CaptureLemmas.{Turned}
use Rattle.stimulus.proofs.capturing.send_mixed.Given as goal

-- The turns so far were taken.
abbrev pub invariant-loop : goal.invariant-loop
invariant-loop g l =
    (plan : Plan) (sent : Sent) → AreSent (words_of l.program) plan sent l.fn.senders.items
    → Turned (words_of l.program) plan (sent, drawn_of l.fn.order) l.counter (drawn_of l.order) l.senders.items
    (g.W.Write.contents l.fn.sink) (g.W.Write.contents l.sink)
