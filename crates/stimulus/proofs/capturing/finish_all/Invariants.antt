use Rattle.std.proofs.Common.{◌≡◌, ◌<◌, ℕ, length}
use Rattle.rvclass.specs.Fetch.{words_of}
use Rattle.stimulus.specs.Mixed.{Plan, Sent, after_closing}
use Rattle.stimulus.specs.steps.Sending.{AllSend, AreSent, IsClosed}
use Rattle.stimulus.proofs.capturing.finish_all.Given as goal

-- The harts before this one have closed their traces.
abbrev pub invariant-loop-place : goal.invariant-loop-place
invariant-loop-place g l = record {
  sent : (plan : Plan) (sent : Sent) → AreSent (words_of l.program) plan sent l.fn.senders.items
      → AllSend (words_of l.program) plan sent (after_closing (words_of l.program) plan sent l.place)
      l.senders.items (g.W.Write.contents l.fn.sink) (g.W.Write.contents l.sink);
  closed : (hart : ℕ) → hart < l.place → IsClosed hart l.senders.items;
  count : length l.senders.items ≡ length l.fn.senders.items;
}
