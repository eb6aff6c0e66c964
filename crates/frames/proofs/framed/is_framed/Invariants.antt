-- What is left is messages to the end exactly when all is.
use Rattle.std.proofs.Common.{◌≡◌, length}
use Rattle.message.specs.steps.Filling.{AreBytes}
use Rattle.frames.specs.Framed.{is_framed}
use Rattle.frames.proofs.framed.is_framed.Given as goal

abbrev pub invariant-loop-size : goal.invariant-loop-size
invariant-loop-size l = (is_framed l.bytes ≡ is_framed l.left) × AreBytes l.bytes

abbrev pub decreases-loop-size : goal.decreases-loop-size
decreases-loop-size l = length l.left
