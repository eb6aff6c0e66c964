-- The lines of a listing.
use Rattle.std.specs.Prelude.{ℕ, ◌++◌, Bool, List, Option, Result, codes}
use Rattle.std.specs.Fmt.{decimal}
use Rattle.payload.specs.Reading.{reading}
use Rattle.payload.specs.declared.fault.PackFault.{PackFault}
use Rattle.payload.specs.declared.mode.Mode.{Mode}
use Rattle.payload.specs.declared.packet.Packet.{Packet}
use Rattle.message.specs.declared.message.Message.{Message}
use Rattle.captures.specs.Offsets.{offset_text}
use Rattle.captures.specs.PacketText.{reading_text}
use Rattle.listing.specs.Effect.{Effect}
use Rattle.listing.specs.EffectText.{effect_text}

-- The line of an offset alone.
abbrev pub offset_line : ℕ → List ℕ
offset_line offset = offset_text offset ++ codes "\n"

-- The offset of a message whose payload unpacks to this, and what the dump of a capture says of it: the hart's number,
-- the message's, and the text of the payload, whose address field is named by this mode.
abbrev pub text_with : Mode → ℕ → Message → Result Packet PackFault → List ℕ
text_with mode offset message read =
    offset_text offset ++
    (codes " " ++
    (decimal message.hart ++
    (codes " " ++ (decimal message.number ++ (codes " " ++ reading_text mode read)))))

-- The offset of a message, and what the dump of a capture says of it.
abbrev pub message_text : Mode → ℕ → Message → List ℕ
message_text mode offset message = text_with mode offset message (reading message.payload)

-- The line of a message that is refused.
abbrev pub refused_line : Mode → ℕ → Message → List ℕ
refused_line mode offset message = message_text mode offset message ++ codes "\n"

-- The line of a message with this effect, which says the rows or not.
abbrev pub effect_line : Bool → Option (List ℕ) → Mode → ℕ → Message → Effect → List ℕ
effect_line shows symbols mode offset message effect =
    message_text mode offset message ++ (codes " => " ++ (effect_text shows symbols effect ++ codes "\n"))
