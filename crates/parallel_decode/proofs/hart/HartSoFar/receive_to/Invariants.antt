-- The messages so far were received.
use Rattle.std.proofs.Common.{◌≡◌, List}
use Rattle.rvclass.specs.Fetch.{words_of}
use Rattle.message.specs.declared.message.Message.{Message}
use Rattle.parallel_decode.specs.steps.Ends.{IsReceivedSoFar}
use Rattle.parallel_decode.specs.steps.Starts.{StartAt}
use Rattle.parallel_decode.proofs.hart.HartSoFar.receive_to.Given as goal

abbrev pub invariant-loop-number : goal.invariant-loop-number
invariant-loop-number l =
    ((messages : List Message) → StartAt l.work.bytes.now l.places messages
    → IsReceivedSoFar (words_of l.work.program.now) l.work.announced messages l.fn.self
    → IsReceivedSoFar (words_of l.work.program.now) l.work.announced messages l.self)
    × (l.self.taken ≡ l.number)
