-- What a receiver holds of messages.
use Rattle.std.specs.Prelude.{ℕ, ◌≡◌, Bool, List, Some, length, slice_get}
use Rattle.retire.specs.declared.event.Event.{Event}
use Rattle.rvclass.specs.Words.{Words}
use Rattle.payload.specs.ClosedTrace.{last_is_closing}
use Rattle.payload.specs.declared.packet.Packet.{Packet}
use Rattle.decoder.specs.Describes.{Describes}
use Rattle.decoder.specs.DecoderStands.{DecoderStands}
use Rattle.decoder.specs.declared.decoding.Decoder.{Decoder}
use Rattle.message.specs.Accepted.{AreAccepted, expected_after, newcomers}
use Rattle.message.specs.OfHart.{packets_of}
use Rattle.message.specs.declared.message.Message.{Message}
use Rattle.receiver.specs.Received.{Received}

-- A receiver of so many harts accepted just these messages, one after the other.
pub record HasAccepted (harts : ℕ) (messages : List Message) (received : Received) : Type 0 where
  pub accepted : AreAccepted (newcomers harts) messages
  pub expected : received.expected ≡ expected_after (newcomers harts) messages

-- What is held of a hart is what these packets describe, by this program. Its decoder stands for the packets and its
-- list, and it is marked as closed if and only if the last of the packets closes the trace.
pub record HoldsHart (words : Words) (hart : ℕ) (packets : List Packet) (received : Received) : Type 0 where
  pub stands : (decoder : Decoder) (list : List Event) → slice_get received.decoders hart ≡ Some decoder
      → slice_get received.lists hart ≡ Some list → DecoderStands words packets list decoder
  pub closed : (is_closed : Bool) → slice_get received.closed hart ≡ Some is_closed → is_closed
      ≡ last_is_closing packets

-- What is held of each of so many harts is what the packets of its messages among these describe, by the hart's own
-- program.
pub record Holds (programs : ℕ → Words) (harts : ℕ) (messages : List Message) (received : Received) : Type 0 where
  pub decoders_count : length received.decoders ≡ harts
  pub lists_count : length received.lists ≡ harts
  pub closed_count : length received.closed ≡ harts
  pub each : (hart : ℕ) → HoldsHart (programs hart) hart (packets_of hart messages) received

-- A receiver of so many harts received just these messages: it accepted them, one after the other, and holds what they
-- describe.
pub record HasReceived (programs : ℕ → Words) (harts : ℕ) (messages : List Message) (received : Received) : Type 0 where
  pub accepts : HasAccepted harts messages received
  pub holds : Holds programs harts messages received

-- The lists of so many harts are what these messages describe, each by the program of its hart. A hart is marked as
-- closed if and only if the last of its packets among them closes the trace.
pub record AreDecoded (programs : ℕ → Words) (harts : ℕ) (messages : List Message) (lists : List (List Event))
    (closed : List Bool) : Type 0 where
  pub lists_count : length lists ≡ harts
  pub closed_count : length closed ≡ harts
  pub described : (hart : ℕ) (list : List Event) → slice_get lists hart ≡ Some list
      → Describes (programs hart) (packets_of hart messages) list
  pub are_closed : (hart : ℕ) (is_closed : Bool) → slice_get closed hart ≡ Some is_closed
      → is_closed ≡ last_is_closing (packets_of hart messages)
