-- Where and why collecting stops.
use Rattle.std.specs.Prelude.{ℕ, ◌≡◌, ◌≢◌, ◌↔◌, ◌++◌, List, [], ◌∷◌, IsOk, Ok, Err, length}
use Rattle.retire.specs.declared.event.Event.{Event}
use Rattle.rvclass.specs.Words.{Words}
use Rattle.payload.specs.Reading.{reading}
use Rattle.payload.specs.declared.mode.Mode.{Mode}
use Rattle.payload.specs.declared.packet.Packet.{Packet}
use Rattle.decoder.specs.Describes.{Describes}
use Rattle.decoder.specs.Order.{IsOpen}
use Rattle.decoder.specs.declared.fault.DecodeFault.{DecodeFault}
use Rattle.decoder.specs.declared.fault.DecodeFault.TheVariants.{NotOpened, AfterClose, Memory}
use Rattle.message.specs.Accepted.{newcomers}
use Rattle.message.specs.Harts.{Harts}
use Rattle.message.specs.Lossy.{accepting_lossy, harts_after_lossy}
use Rattle.message.specs.OfHart.{of_hart}
use Rattle.message.specs.declared.fault.DemuxFault.{DemuxFault}
use Rattle.message.specs.declared.message.Message.{Message}
use Rattle.losses.specs.Runs.{last_trace}
use Rattle.losses.specs.DescribedParts.{EachHartDescribes}
use Rattle.losses.specs.declared.fault.LossyFault.{LossyFault}
use Rattle.losses.specs.declared.fault.LossyFault.TheVariants as fault

-- What is expected of each hart after messages, taken one after the other, where messages may be lost.
abbrev pub expected_lossy : Harts → List Message → Harts
expected_lossy expected [] = expected
expected_lossy expected (message ∷ messages) = expected_lossy (harts_after_lossy expected message) messages

-- Each of the messages is accepted, one after the other, where messages may be lost.
abbrev pub AreAcceptedLossy : Harts → List Message → Type 0
AreAcceptedLossy expected [] = Unit {0}
AreAcceptedLossy expected (message ∷ messages) =
    IsOk (accepting_lossy expected message) × AreAcceptedLossy (harts_after_lossy expected message) messages

-- A demultiplexer of so many harts accepts the messages before this place, and they describe some parts of each hart.
-- It refuses the message at this place, for this reason.
pub record IsRefusedAt (words : Words) (mode : Mode) (harts : ℕ) (messages : List Message) (place : ℕ)
    (why : DemuxFault) : Type 0 where
  pub front : List Message
  pub message : Message
  pub later : List Message
  pub whole : messages ≡ front ++ message ∷ later
  pub here : place ≡ length front
  pub taken : AreAcceptedLossy (newcomers harts) front
  pub described : EachHartDescribes words mode harts front
  pub refused : accepting_lossy (expected_lossy (newcomers harts) front) message ≡ Err why

-- The packet of a message is not decoded after these messages, for this reason: no log is described by the trace whose
-- last packet it would be. The reason is NotOpened if and only if the message is its hart's number 0 and its packet
-- opens no trace. It is never AfterClose.
pub record IsNotDecodedLossy (words : Words) (mode : Mode) (messages : List Message) (message : Message)
    (why : DecodeFault)
    : Type 0 where
  pub packet : Packet
  pub read : reading message.payload ≡ Ok packet
  pub not_opened : (why ≡ NotOpened) ↔ ((message.number ≡ 0) × ¬ IsOpen packet)
  pub not_after_close : why ≢ AfterClose
  pub not_described : (log : List Event)
      → ¬ Describes words (last_trace mode (of_hart message.hart (messages ++ message ∷ []))) log

-- A demultiplexer of so many harts accepts the messages up to the one at this place, and those before it describe some
-- parts of each hart. The packet of the message at this place is not decoded, for this reason. The reason is not that
-- an allocation failed.
pub record IsUndecodedAt (words : Words) (mode : Mode) (harts : ℕ) (messages : List Message) (place : ℕ)
    (why : DecodeFault) : Type 0 where
  pub front : List Message
  pub message : Message
  pub later : List Message
  pub whole : messages ≡ front ++ message ∷ later
  pub here : place ≡ length front
  pub taken : AreAcceptedLossy (newcomers harts) (front ++ message ∷ [])
  pub described : EachHartDescribes words mode harts front
  pub not_memory : why ≢ Memory
  pub not_decoded : IsNotDecodedLossy words mode front message why

-- Collecting stops by this fault, with this program and where this mode is handed in. It names the place of the message
-- that is refused or whose packet is not decoded. Of a stop because an allocation failed nothing more is known.
abbrev pub CollectingStopsBy : Words → Mode → ℕ → List Message → LossyFault → Type 0
CollectingStopsBy words mode harts messages (fault.Demux place why) = IsRefusedAt words mode harts messages place why
CollectingStopsBy words mode harts messages (fault.Decode place why) = IsUndecodedAt words mode harts messages place why
CollectingStopsBy words mode harts messages fault.Memory = Unit {0}
