use Rattle.std.proofs.Common.{All, take}
use Rattle.payload.specs.Profile.{InProfile}
use Rattle.stimulus.specs.steps.Sending.{Numbered}
use Rattle.stimulus.proofs.sender.Numbers.write_all.Given as goal

-- The messages of the packets before this one are written.
abbrev pub invariant-loop-packet : goal.invariant-loop-packet
invariant-loop-packet g l =
    All InProfile l.packets → Numbered (take l.packet-index l.packets) l.fn.self l.self
    (g.W.Write.contents l.fn.sink) (g.W.Write.contents l.sink)
