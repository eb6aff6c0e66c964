-- Which message of a capture a row of a hart comes from.
use Rattle.std.specs.Prelude.{ℕ, ◌≡◌, ◌==◌, ◌≤◌, ◌<◌, ◌++◌, All, if◌then◌else◌, List, [], ◌∷◌, Option, Some, None, filter, length, map}
use Rattle.std.specs.Prelude.{Ok, Result, slice_get}
use Rattle.captures.specs.Whole.{IsFront}
use Rattle.captures.specs.declared.outcome.CaptureFault.{CaptureFault}
use Rattle.decoder.specs.Describes.{Describes}
use Rattle.listing.specs.Effect.{Effect, HaveEffects}
use Rattle.listing.specs.Placed.{PlacedMessage, placed}
use Rattle.message.specs.Header.{header_bytes}
use Rattle.message.specs.declared.fault.MessageFault.{MessageFault}
use Rattle.message.specs.declared.header.Header.{Header}
use Rattle.message.specs.OfHart.{packets_in}
use Rattle.message.specs.declared.message.Message.{Message}
use Rattle.payload.specs.Reading.{reading}
use Rattle.payload.specs.declared.fault.PackFault.{PackFault}
use Rattle.payload.specs.declared.packet.Packet.{Packet}
use Rattle.retire.specs.declared.event.Event.{Event}
use Rattle.rvclass.specs.Words.{Words}
use Rattle.comparing.specs.Counts.{before_stop}
use Rattle.comparing.specs.declared.source.RowSource.{RowSource}
use Rattle.comparing.specs.declared.source.RowSource.TheVariants as source
use Rattle.comparing.specs.declared.source.SourceMessage.{SourceMessage}

-- A message of a hart, and its effect.
abbrev pub Step : Type 0
Step = PlacedMessage × Effect

-- Which message it is.
abbrev pub source_message : PlacedMessage → SourceMessage
source_message one = record { place = one.place; number = one.message.number; offset = one.offset }

-- The messages of steps.
abbrev pub messages_in : List Step → List Message
messages_in steps = map (λ (step : Step). step.0.message) steps

-- These are the first messages of a hart, with their effects, and fewer events than so many come from them.
pub record ComesBefore (words : Words) (row : ℕ) (steps : List Step) : Type 0 where
  pub have : HaveEffects words [] (messages_in steps) (map (λ (step : Step). step.1) steps)
  pub fewer : All (λ (step : Step). step.1.rows < row) steps

-- The last of steps, if there is one.
abbrev pub last_step : Option Step → List Step → Option Step
last_step before [] = before
last_step before (step ∷ steps) = last_step (Some step) steps

-- The number of the message whose packet waited before the message after these, if one waited.
abbrev pub waited : Option Step → Option ℕ
waited None = None
waited (Some step) = if step.1.waits then Some step.0.message.number else None

-- Of these messages of a hart the first after which so many events are decoded: fewer are after each before it.
pub record Settles (words : Words) (own : List PlacedMessage) (row : ℕ) (from : RowSource) : Type 0 where
  pub before : List Step
  pub step : Step
  pub after : List PlacedMessage
  pub whole : own ≡ map (λ (step : Step). step.0) before ++ step.0 ∷ after
  pub have : HaveEffects words [] (messages_in (before ++ step ∷ [])) (map (λ (step : Step). step.1) (before ++ step ∷ []))
  pub fewer : All (λ (step : Step). step.1.rows < row) before
  pub reached : row ≤ step.1.rows
  pub is : from ≡ source.Settles (source_message step.0) step.1.rows (length step.1.added) (waited (last_step None before))

-- Decoding does not go on after these packets with what a payload unpacks to: there is no packet, or no log is described
-- by them and that one.
abbrev pub IsRefused : Words → List Packet → Result Packet PackFault → Type 0
IsRefused words packets read =
    (packet : Packet) → read ≡ Ok packet → (log : List Event) → ¬ Describes words (packets ++ packet ∷ []) log

-- Decoding does not go on with the last of these messages of a hart. Fewer events than so many come from those before it.
pub record EndsRefused (words : Words) (own : List PlacedMessage) (row : ℕ) : Type 0 where
  pub before : List Step
  pub last : PlacedMessage
  pub whole : own ≡ map (λ (step : Step). step.0) before ++ last ∷ []
  pub comes : ComesBefore words row before
  pub refused : IsRefused words (packets_in (messages_in before)) (reading last.message.payload)

-- What is behind the last message of a hart: its end, the message at which decoding stops, or nothing more.
abbrev pub source_behind : Option Step → Option (PlacedMessage × CaptureFault) → RowSource
source_behind None None = source.Nothing
source_behind None (Some stop) = source.Stops (source_message stop.0) stop.1 None
source_behind (Some step) None =
    if step.1.closes then source.Closes (source_message step.0) else source.Last (source_message step.0) step.1.waits
source_behind (Some step) (Some stop) =
    if step.1.closes then source.Closes (source_message step.0) else
    source.Stops (source_message stop.0) stop.1 (waited (Some step))

-- The message, if it is one of the hart, and why decoding stops at it.
abbrev pub own_stop : ℕ → CaptureFault → Option PlacedMessage → Option (PlacedMessage × CaptureFault)
own_stop hart why None = None
own_stop hart why (Some one) = if one.message.hart == hart then Some (one, why) else None

-- The complete message of the hart at which decoding stops, if it stops at one, and why.
abbrev pub stop_of : ℕ → Option (ℕ × CaptureFault) → List PlacedMessage → Option (PlacedMessage × CaptureFault)
stop_of hart None all = None
stop_of hart (Some stop) all = own_stop hart stop.1 (slice_get all stop.0)

-- The messages of a hart, with their places. The first of all messages has this offset.
abbrev pub own_placed : ℕ → ℕ → List Message → List PlacedMessage
own_placed hart first messages =
    filter (λ (one : PlacedMessage). one.message.hart == hart) (placed 0 first messages)

-- Where a row of a hart comes from, among the messages of a capture, where decoding stops there: the first message after
-- which it is decoded, or else what is behind the hart's last one.
pub data IsAmong (words : Words) (first : ℕ) (messages : List Message) (stop : Option (ℕ × CaptureFault)) (hart row : ℕ)
    (from : RowSource) : Type 0 where
  Settled : Settles words (own_placed hart first (before_stop stop messages)) row from
      → IsAmong words first messages stop hart row from
  Unsettled : (steps : List Step) → map (λ (step : Step). step.0) steps ≡ own_placed hart first (before_stop stop messages)
      → ComesBefore words row steps
      → from ≡ source_behind (last_step None steps) (stop_of hart stop (placed 0 first messages))
      → IsAmong words first messages stop hart row from

-- The offset of the first message behind a header, or without one.
abbrev pub first_offset : Option Header → ℕ
first_offset None = 0
first_offset (Some header) = length (header_bytes header)

-- The same among the messages of the bytes of a capture.
pub record IsSource (words : Words) (bytes : List ℕ) (stop : Option (ℕ × CaptureFault)) (hart row : ℕ) (from : RowSource)
    : Type 0 where
  pub header : Option Header
  pub messages : List Message
  pub end : Option MessageFault
  pub front : IsFront bytes header messages end
  pub among : IsAmong words (first_offset header) messages stop hart row from
