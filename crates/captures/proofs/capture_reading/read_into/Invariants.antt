-- The messages so far were read.
use Rattle.std.proofs.Common.{length}
use Rattle.captures.proofs.WholeCaptures.{HasRead}
use Rattle.captures.proofs.capture_reading.read_into.Given as goal

abbrev pub invariant-loop-message : goal.invariant-loop-message
invariant-loop-message g l = HasRead l.fn.left l.left l.messages.items

abbrev pub decreases-loop-message : goal.decreases-loop-message
decreases-loop-message g l = length l.left
