-- The number is that of the first among those that are left.
use Rattle.std.proofs.Common.{◌≡◌, ◌-◌, take}
use Rattle.live.specs.Received.{messages_from, number_among}
use Rattle.live.proofs.received_taking.number_of.Given as goal

abbrev pub invariant-loop : goal.invariant-loop
invariant-loop l =
    number_among (take l.count (messages_from l.bytes)) l.hart
    ≡ number_among (take (l.count - l.counter) (messages_from l.left)) l.hart
