-- The first payloads were fed.
use Rattle.std.proofs.Common.{◌≤◌, length}
use Rattle.ffi.proofs.FedInTurn.{AreFedTo}
use Rattle.ffi.proofs.feeding_all.feed_while_room.Given as goal

abbrev pub invariant-loop-place : goal.invariant-loop-place
invariant-loop-place l =
    AreFedTo l.image l.payloads l.ends l.fn.numbers l.numbers l.kept l.place l.written l.fn.events l.events
    × (l.written ≤ length l.fn.events)
