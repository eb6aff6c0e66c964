use Rattle.std.proofs.Common.{◌≤◌, length}
use Rattle.retire.proofs.boundary.last_byte.Given as goal

-- What is looked at is inside the text.
abbrev pub invariant-loop-end : goal.invariant-loop-end
invariant-loop-end l = l.end ≤ length l.text

abbrev pub decreases-loop-end : goal.decreases-loop-end
decreases-loop-end l = l.end
