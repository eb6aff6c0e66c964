-- The mode that packets announce.
use Rattle.std.specs.Prelude.{List, [], ◌∷◌}
use Rattle.payload.specs.declared.mode.Mode.{Mode}
use Rattle.payload.specs.declared.mode.Mode.TheVariants.{Differential}
use Rattle.payload.specs.declared.packet.Packet.{Packet}
use Rattle.payload.specs.declared.packet.Packet.TheVariants as packet
use Rattle.payload.specs.declared.packet.Support.TheVariants as support

-- The mode that a packet announces which opens a trace. For any other packet this is `Differential`. Packets that begin
-- with another packet describe no log, so nothing depends on that value.
abbrev pub mode_announced_by : Packet → Mode
mode_announced_by (packet.Support (support.Open mode)) = mode
mode_announced_by other = Differential

-- The mode of a trace, which its first packet announces. Without packets it is `Differential`.
abbrev pub mode_of : List Packet → Mode
mode_of [] = Differential
mode_of (packet ∷ packets) = mode_announced_by packet
