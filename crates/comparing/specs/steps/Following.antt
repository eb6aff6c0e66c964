-- The messages of a hart that are followed to a row.
use Rattle.std.specs.Prelude.{ℕ, ◌≡◌, ◌+◌, ◌++◌, if◌then◌else◌, Bool, List, [], ◌∷◌, Option, Some, None, Result, Ok, length, map}
use Rattle.std.specs.Prelude.{nat_le, option_map}
use Rattle.captures.specs.declared.outcome.CaptureFault.{CaptureFault}
use Rattle.decoder.specs.DecoderStands.{DecoderStands}
use Rattle.decoder.specs.declared.decoding.Decoder.{Decoder}
use Rattle.listing.specs.Placed.{PlacedMessage}
use Rattle.message.specs.OfHart.{packets_in}
use Rattle.payload.specs.declared.fault.PackFault.{PackFault}
use Rattle.payload.specs.declared.packet.Packet.{Packet}
use Rattle.retire.specs.declared.event.Event.{Event}
use Rattle.rvclass.specs.Words.{Words}
use Rattle.comparing.specs.Sources.{ComesBefore, Settles, Step, last_step, messages_in, source_message}
use Rattle.comparing.specs.declared.source.RowSource.{RowSource}
use Rattle.comparing.specs.declared.source.RowSource.TheVariants as source
use Rattle.comparing.specs.declared.source.SourceMessage.{SourceMessage}
use Rattle.comparing.specs.declared.trail.LastMessage.{LastMessage}
use Rattle.comparing.specs.declared.trail.Trail.{Trail}

-- What is held of the last message.
abbrev pub last_of : Step → LastMessage
last_of step = record { message = source_message step.0; waits = step.1.waits; closes = step.1.closes }

-- The number of the last message, if its packet waits.
abbrev pub waited_by : Option LastMessage → Option ℕ
waited_by None = None
waited_by (Some last) = if last.waits then Some last.message.number else None

-- These messages of a hart were followed: one of them is the first after which the row is decoded, or none is yet.
pub data IsFollowed (words : Words) (own : List PlacedMessage) (trail : Trail) : Type 0 where
  Found : (from : RowSource) → trail.found ≡ Some from → Settles words own trail.hart.row from
      → IsFollowed words own trail
  GoesOn : (steps : List Step) (events : List Event) → map (λ (step : Step). step.0) steps ≡ own
      → trail.found ≡ None → ComesBefore words trail.hart.row steps
      → DecoderStands words (packets_in (messages_in steps)) events trail.decoder
      → trail.rows ≡ length events → trail.last ≡ option_map last_of (last_step None steps)
      → IsFollowed words own trail

-- A trail after one more message, which adds so many events.
abbrev pub trail_after : Trail → SourceMessage → ℕ → Bool → Bool → Trail
trail_after trail at added waits closes =
    if nat_le trail.hart.row (trail.rows + added)
    then record trail { found = Some (source.Settles at (trail.rows + added) added (waited_by trail.last)) }
    else record trail {
      rows = trail.rows + added;
      last = Some (record { message = at; waits = waits; closes = closes });
    }

-- A packet was read, and these many events were decoded after others.
pub record IsDecodedOn (words : Words) (packets : List Packet) (events : List Event) (read : Result Packet PackFault)
    (decoder : Decoder) (count : ℕ) : Type 0 where
  pub packet : Packet
  pub added : List Event
  pub is : read ≡ Ok packet
  pub counted : count ≡ length added
  pub stands : DecoderStands words (packets ++ packet ∷ []) (events ++ added) decoder

-- What is behind the last message, where decoding stops at this message of the hart.
abbrev pub behind_last : Option LastMessage → Option (SourceMessage × CaptureFault) → RowSource
behind_last None None = source.Nothing
behind_last None (Some stop) = source.Stops stop.0 stop.1 None
behind_last (Some last) None =
    if last.closes then source.Closes last.message else source.Last last.message last.waits
behind_last (Some last) (Some stop) =
    if last.closes then source.Closes last.message else source.Stops stop.0 stop.1 (waited_by (Some last))

abbrev pub found_or : Option RowSource → RowSource → RowSource
found_or None from = from
found_or (Some found) from = found

-- Where the row comes from.
abbrev pub source_by : Trail → Option (SourceMessage × CaptureFault) → RowSource
source_by trail stop = found_or trail.found (behind_last trail.last stop)
