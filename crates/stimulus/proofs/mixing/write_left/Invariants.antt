use Rattle.std.proofs.Common.{List}
use Rattle.message.specs.declared.message.Message.{Message}
use Rattle.stimulus.specs.Mixing.{AllAreInFront}
use Rattle.stimulus.proofs.LeftMessages.{HartsLeft}
use Rattle.stimulus.proofs.mixing.write_left.Given as goal

-- The messages of the first harts are written, and the bytes of the others are left.
abbrev pub invariant-loop-own : goal.invariant-loop-own
invariant-loop-own g l =
    (messages : List (List Message)) → AllAreInFront messages l.fn.left.items
    → HartsLeft g.F.Form.text messages l.own-iterator.rest.items (g.W.Write.contents l.fn.sink)
    (g.W.Write.contents l.sink)
