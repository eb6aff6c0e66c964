-- The events of a hart that are not handed out yet.
use Rattle.std.specs.Prelude.{ℕ, ◌≡◌, ◌++◌, List, [], Option, Some, None, take}
use Rattle.retire.specs.declared.event.Event.{Event}
use Rattle.rvclass.specs.Fetch.{words_of}
use Rattle.rvclass.specs.Words.{Words}
use Rattle.decoder.specs.DecoderStands.{DecoderStands}
use Rattle.decoder.specs.Describes.{Describes}
use Rattle.decoder.specs.declared.decoding.Decoder.{Decoder}
use Rattle.message.specs.OfHart.{packets_in}
use Rattle.message.specs.declared.message.Message.{Message}
use Rattle.parallel_decode.specs.Placed.{IsPlacedLog}
use Rattle.parallel_decode.specs.declared.events.HartEvents.{HartEvents}

-- The events of the last message that are not handed out, if one is decoded.
abbrev pub left_of : Option (List Event) → List Event
left_of None = []
left_of (Some events) = events

-- The decoder has the packets of so many of these messages, the first of them, and they describe these events alone.
pub record HasDecoded (words : Words) (messages : List Message) (count : ℕ) (front : List Event) (decoder : Decoder)
    : Type 0 where
  pub stands : DecoderStands words (packets_in (take count messages)) front decoder
  pub only : (other : List Event) → Describes words (packets_in (take count messages)) other → other ≡ front

-- The packets at the places describe a log, and these events of it are left, after those that were handed out.
pub record HasLeft (rest : List Event) (events : HartEvents) : Type 0 where
  pub log : List Event
  pub is : IsPlacedLog (words_of events.program.now) events.bytes.now events.places.now log
  pub front : List Event
  pub decoded : HasDecoded (words_of events.program.now) is.messages events.taken front events.decoder
  pub handed : List Event
  pub front_is : front ≡ handed ++ left_of events.left
  pub whole : log ≡ handed ++ rest
