-- No more rooms are left than there are harts, and the receiver is as it was.
use Rattle.std.proofs.Common.{◌≡◌, ◌≤◌, length}
use Rattle.bench.proofs.collecting.give_rooms.Given as goal

abbrev pub invariant-loop-room : goal.invariant-loop-room
invariant-loop-room g l = (length l.rooms.items ≤ l.harts) × (l.receiver ≡ l.fn.receiver)

abbrev pub decreases-loop-room : goal.decreases-loop-room
decreases-loop-room g l = length l.rooms.items
