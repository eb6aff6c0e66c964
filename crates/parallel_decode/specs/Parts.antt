-- Parts of a hart's log.
use Rattle.std.specs.Prelude.{ℕ, ◌≡◌, ◌++◌, List}
use Rattle.retire.specs.declared.event.Event.{Event}
use Rattle.rvclass.specs.Words.{Words}
use Rattle.payload.specs.declared.packet.Packet.{Packet}
use Rattle.decoder.specs.Describes.{Describes}
use Rattle.decoder.specs.DecoderStands.{DecoderStands}
use Rattle.decoder.specs.declared.decoding.Decoder.{Decoder}
use Rattle.message.specs.OfHart.{packets_in}
use Rattle.message.specs.declared.message.Message.{Message}
use Rattle.parallel_decode.specs.Places.{AreAt}

-- The decoder has packets, which describe these events alone. With the packets of the messages at these places, this part
-- of a log comes after them.
pub record IsPart (words : Words) (bytes places : List ℕ) (decoder : Decoder) (part : List Event) : Type 0 where
  pub packets : List Packet
  pub before : List Event
  pub stands : DecoderStands words packets before decoder
  pub only : (other : List Event) → Describes words packets other → other ≡ before
  pub messages : List Message
  pub placed : AreAt bytes places messages
  pub described : Describes words (packets ++ packets_in messages) (before ++ part)

-- There is such a part.
abbrev pub HavePart : Words → List ℕ → List ℕ → Decoder → Type 0
HavePart words bytes places decoder = (part : List Event) × IsPart words bytes places decoder part
