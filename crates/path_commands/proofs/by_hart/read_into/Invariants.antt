-- The messages so far were read, and are kept by hart.
use Rattle.std.proofs.Common.{◌≡◌, length}
use Rattle.path_commands.proofs.ByHartLemmas.{HasReadByHart}
use Rattle.path_commands.proofs.by_hart.read_into.Given as goal

abbrev pub invariant-loop-message : goal.invariant-loop-message
invariant-loop-message l =
    HasReadByHart l.harts l.fn.left l.left l.lists
    × (l.lists.payloads.by ≡ l.fn.lists.payloads.by)
    × (length l.lists.payloads.lists ≡ length l.fn.lists.payloads.lists)

abbrev pub decreases-loop-message : goal.decreases-loop-message
decreases-loop-message l = length l.left
