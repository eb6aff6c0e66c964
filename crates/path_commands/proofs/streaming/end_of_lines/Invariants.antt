-- What is looked at is inside the block.
use Rattle.std.proofs.Common.{◌≤◌, length}
use Rattle.path_commands.proofs.streaming.end_of_lines.Given as goal

abbrev pub invariant-loop-end : goal.invariant-loop-end
invariant-loop-end l = l.end ≤ length l.block

abbrev pub decreases-loop-end : goal.decreases-loop-end
decreases-loop-end l = l.end
