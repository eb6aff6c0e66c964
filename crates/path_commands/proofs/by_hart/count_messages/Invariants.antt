-- The bytes that are left become fewer.
use Rattle.std.proofs.Common.{length}
use Rattle.path_commands.proofs.by_hart.count_messages.Given as goal

abbrev pub decreases-loop-message : goal.decreases-loop-message
decreases-loop-message l = length l.left
