-- What came so far stands in the front of the room.
use Rattle.std.proofs.Common.{◌≡◌, ◌≤◌, length, take}
use Rattle.std.specs.Io.KnownBytes.{Consumes}
use Rattle.message.specs.steps.Filling.{AreBytes}
use Rattle.message.proofs.reading.fill.Given as goal

abbrev pub invariant-loop : goal.invariant-loop
invariant-loop g l = (length l.room ≡ length l.initial.room) × (l.count ≤ length l.room)
    × Consumes (g.R.Read.remaining l.initial.r) (g.R.Read.remaining l.r) (take l.count l.room) × AreBytes l.room
