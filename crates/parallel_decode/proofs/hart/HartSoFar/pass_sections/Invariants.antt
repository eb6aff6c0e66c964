-- The messages so far were received.
use Rattle.std.proofs.Common.{All, List}
use Rattle.rvclass.specs.Fetch.{words_of}
use Rattle.message.specs.declared.message.Message.{Message}
use Rattle.parallel_decode.specs.steps.Ends.{IsReceivedSoFar}
use Rattle.parallel_decode.specs.steps.Sections.{IsOfHart}
use Rattle.parallel_decode.specs.steps.Starts.{StartAt}
use Rattle.parallel_decode.proofs.hart.HartSoFar.pass_sections.Given as goal

abbrev pub invariant-loop-number : goal.invariant-loop-number
invariant-loop-number l = (messages : List Message) → StartAt l.work.bytes.now l.places messages
    → All (IsOfHart (words_of l.work.program.now) l.work.announced l.work.bytes.now l.places l.hart) l.sections
    → IsReceivedSoFar (words_of l.work.program.now) l.work.announced messages l.fn.self
    → IsReceivedSoFar (words_of l.work.program.now) l.work.announced messages l.self
