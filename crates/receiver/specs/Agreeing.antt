-- Packets that open a trace in the mode that was announced before.
use Rattle.std.specs.Prelude.{◌≡◌, Bool, true, false, Option, Some, Ok}
use Rattle.payload.specs.Reading.{reading}
use Rattle.payload.specs.declared.mode.Mode.{Mode}
use Rattle.payload.specs.declared.mode.Mode.TheVariants.{Differential, Full}
use Rattle.payload.specs.declared.packet.Packet.{Packet}
use Rattle.payload.specs.declared.packet.Packet.TheVariants as packet
use Rattle.payload.specs.declared.packet.Support.TheVariants as support
use Rattle.message.specs.declared.message.Message.{Message}

-- The modes are not the same.
abbrev pub differ : Mode → Mode → Bool
differ Differential Differential = false
differ Full Full = false
differ announced mode = true

-- The packet opens a trace in another mode than the one that was announced before, if one was.
abbrev pub opens_another : Option Mode → Packet → Bool
opens_another (Some announced) (packet.Support (support.Open mode)) = differ announced mode
opens_another announced other = false

-- The packet of a message, if its payload is one, opens no trace in another mode than the one that was announced
-- before.
abbrev pub Agrees : Option Mode → Message → Type 0
Agrees announced message = (packet : Packet) → reading message.payload ≡ Ok packet → opens_another announced packet
    ≡ false
