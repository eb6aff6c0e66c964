-- What the bytes of a capture decode to, of all harts or of some: messages of all others are passed over, unjudged.
use Rattle.std.specs.Prelude.{ℕ, ◌≡◌, ◌++◌, All, Bool, true, false, List, [], Option, Some, None, length, replicate}
use Rattle.retire.specs.declared.event.Event.{Event}
use Rattle.rvclass.specs.Words.{Words}
use Rattle.payload.specs.declared.mode.Mode.{Mode}
use Rattle.message.specs.Accepted.{AreAccepted, newcomers}
use Rattle.message.specs.Capture.{capture, message_bytes}
use Rattle.message.specs.Cut.{IsMessage}
use Rattle.message.specs.Header.{IsHeader, IsMarked, header_bytes}
use Rattle.message.specs.declared.fault.MessageFault.{MessageFault}
use Rattle.message.specs.declared.header.Header.{Header}
use Rattle.message.specs.declared.message.Message.{Message}
use Rattle.message.specs.Range.{every_hart, selected, selects}
use Rattle.message.specs.declared.range.HartRange.{HartRange}
use Rattle.receiver.specs.Agreeing.{Agrees}
use Rattle.receiver.specs.Holds.{AreDecoded}
use Rattle.receiver.specs.NotReceived.{IsNotReceived}
use Rattle.receiver.specs.declared.fault.ReceiveFault.{ReceiveFault}
use Rattle.receiver.specs.declared.fault.ReceiveFault.TheVariants as receiving
use Rattle.captures.specs.NoMessage.{BeginsNone, BeginsNoHeader}
use Rattle.captures.specs.declared.outcome.CaptureFault.{CaptureFault}
use Rattle.captures.specs.declared.outcome.CaptureFault.TheVariants as fault

-- The fault of a capture whose next message a receiver refuses, for this reason.
abbrev pub as_capture_fault : ReceiveFault → CaptureFault
as_capture_fault (receiving.Demux why) = fault.Demux why
as_capture_fault receiving.Mode = fault.Mode
as_capture_fault (receiving.Decode why) = fault.Decode why

-- The bytes begin with a message that is refused after these messages, for this reason. There are so many harts, and
-- the header announces this mode, if there is a header.
pub record BeginsRefused (words : Words) (harts : ℕ) (announced : Option Mode) (messages : List Message)
    (bytes : List ℕ) (why : ReceiveFault) : Type 0 where
  pub message : Message
  pub rest : List ℕ
  pub ranges : IsMessage message
  pub begins : bytes ≡ message_bytes message ++ rest
  pub refused : IsNotReceived words harts announced messages message why

-- The bytes begin with a message of these harts that is refused after these messages, for this reason.
pub record BeginsRefusedOf (range : HartRange) (words : Words) (harts : ℕ) (announced : Option Mode)
    (messages : List Message) (bytes : List ℕ) (why : ReceiveFault) : Type 0 where
  pub begins : BeginsRefused words harts announced messages bytes why
  pub of_range : selects range begins.message.hart ≡ true

-- Why decoding stops after these messages, before these bytes: there is no complete message, or one of these harts that
-- is refused.
abbrev pub StopsDecodingOf : HartRange → Words → ℕ → Option Mode → List Message → List ℕ → CaptureFault → Type 0
StopsDecodingOf range words harts announced messages bytes (fault.Message why) = BeginsNone bytes why
StopsDecodingOf range words harts announced messages bytes (fault.Demux why) =
    BeginsRefusedOf range words harts announced messages bytes (receiving.Demux why)
StopsDecodingOf range words harts announced messages bytes (fault.Decode why) =
    BeginsRefusedOf range words harts announced messages bytes (receiving.Decode why)
StopsDecodingOf range words harts announced messages bytes fault.Mode =
    BeginsRefusedOf range words harts announced messages bytes receiving.Mode

-- Where decoding stops, and why: at the end of the bytes, or before the message with this number, counted from 0 over
-- the messages of all harts. Only those of these harts were decoded.
abbrev pub StopsOf : HartRange → Words → ℕ → Option Mode → List Message → List ℕ → Option (ℕ × CaptureFault) → Type 0
StopsOf range words harts announced messages bytes None = bytes ≡ []
StopsOf range words harts announced messages bytes (Some stop) =
    (stop.0 ≡ length messages)
    × StopsDecodingOf range words harts announced (selected range messages) bytes stop.1

-- The bytes are those of messages and some rest. Of the messages of these harts it holds: a demultiplexer of so many
-- harts accepts them, one after the other; none of them opens a trace in another mode than the announced one, if one is
-- announced; lists and flags are what they decode to. Decoding stops before the rest.
pub record AreHartsDecoded (range : HartRange) (words : Words) (harts : ℕ) (announced : Option Mode) (bytes : List ℕ)
    (lists : List (List Event)) (closed : List Bool) (stop : Option (ℕ × CaptureFault)) : Type 0 where
  pub messages : List Message
  pub rest : List ℕ
  pub ranges : All IsMessage messages
  pub whole : bytes ≡ capture messages ++ rest
  pub accepted : AreAccepted (newcomers harts) (selected range messages)
  pub agree : All (Agrees announced) (selected range messages)
  pub decoded : AreDecoded (λ hart. words) harts (selected range messages) lists closed
  pub stops : StopsOf range words harts announced messages rest stop

-- The bytes of a capture decode to these lists and flags, where messages of these harts alone are looked at. Bytes of
-- version 1, which do not begin with the mark, are messages of so many harts. Bytes of version 2 are a header, which
-- announces the mode, and messages of as many harts as it counts. Where the header is cut short or bad, nothing is
-- decoded of so many harts, and decoding stops at once.
pub data IsDecodedOf (range : HartRange) (words : Words) (harts : ℕ) (bytes : List ℕ) (lists : List (List Event))
    (closed : List Bool) (stop : Option (ℕ × CaptureFault)) : Type 0 where
  Version1 : ¬ IsMarked bytes → AreHartsDecoded range words harts None bytes lists closed stop
      → IsDecodedOf range words harts bytes lists closed stop
  Version2 : (header : Header) (rest : List ℕ) → IsHeader header → bytes ≡ header_bytes header ++ rest
      → AreHartsDecoded range words header.harts (Some header.mode) rest lists closed stop
      → IsDecodedOf range words harts bytes lists closed stop
  NoHeader : (why : MessageFault) → BeginsNoHeader bytes why → stop ≡ Some (0, fault.Message why)
      → lists ≡ replicate harts [] → closed ≡ replicate harts false
      → IsDecodedOf range words harts bytes lists closed stop

-- The same of all harts.
abbrev pub IsDecoded : Words → ℕ → List ℕ → List (List Event) → List Bool → Option (ℕ × CaptureFault) → Type 0
IsDecoded words = IsDecodedOf every_hart words
