use Rattle.std.proofs.Common.{All, take}
use Rattle.payload.specs.Profile.{InProfile}
use Rattle.captures.specs.steps.Adds.{Adds}
use Rattle.captures.proofs.messages.Messages.write_all.Given as goal

-- The messages of the packets before this one are written.
abbrev pub invariant-loop-packet : goal.invariant-loop-packet
invariant-loop-packet g l =
    All InProfile l.packets → Adds g.F.Form.text (take l.packet-index l.packets) l.fn.self l.self
