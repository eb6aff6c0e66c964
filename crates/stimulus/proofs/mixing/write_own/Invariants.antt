use Rattle.std.proofs.Common.{List, length}
use Rattle.message.specs.declared.message.Message.{Message}
use Rattle.stimulus.specs.Mixing.{AreInFront}
use Rattle.stimulus.proofs.LeftMessages.{HasLeft}
use Rattle.stimulus.proofs.mixing.write_own.Given as goal

-- The first messages are written, and the bytes of the others are left.
abbrev pub invariant-loop-message : goal.invariant-loop-message
invariant-loop-message g l =
    (messages : List Message) → AreInFront messages l.fn.own
    → HasLeft g.F.Form.text messages l.own (g.W.Write.contents l.fn.sink) (g.W.Write.contents l.sink)

abbrev pub decreases-loop-message : goal.decreases-loop-message
decreases-loop-message g l = length l.own
