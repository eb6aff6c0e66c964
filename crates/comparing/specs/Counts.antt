-- How many messages each hart has before decoding stops, and how many bytes their payloads have.
use Rattle.std.specs.Prelude.{ℕ, ◌≡◌, ◌+◌, List, [], ◌∷◌, Option, Some, None, length, slice_get, take}
use Rattle.captures.specs.Whole.{IsFront}
use Rattle.captures.specs.declared.outcome.CaptureFault.{CaptureFault}
use Rattle.message.specs.OfHart.{of_hart}
use Rattle.message.specs.declared.fault.MessageFault.{MessageFault}
use Rattle.message.specs.declared.header.Header.{Header}
use Rattle.message.specs.declared.message.Message.{Message}
use Rattle.comparing.specs.declared.hart_count.HartCount.{HartCount}

-- The first messages, up to the one at which decoding stops; where it comes to the end, all.
abbrev pub before_stop : Option (ℕ × CaptureFault) → List Message → List Message
before_stop None messages = messages
before_stop (Some stop) messages = take stop.0 messages

-- How many bytes the payloads of messages have together.
abbrev pub payload_bytes : List Message → ℕ
payload_bytes [] = 0
payload_bytes (message ∷ messages) = length message.payload + payload_bytes messages

-- How many messages a hart has among these, and how many bytes their payloads have.
abbrev pub count_of : List Message → ℕ → HartCount
count_of messages hart = record {
  taken = length (of_hart hart messages);
  bytes = payload_bytes (of_hart hart messages);
}

-- These are the counts of so many harts among these messages.
pub record AreCounts (harts : ℕ) (messages : List Message) (counts : List HartCount) : Type 0 where
  pub many : length counts ≡ harts
  pub each : (hart : ℕ) (count : HartCount) → slice_get counts hart ≡ Some count → count ≡ count_of messages hart

-- These are the counts of so many harts among the messages of a capture before decoding stops.
pub record AreCounted (bytes : List ℕ) (harts : ℕ) (stop : Option (ℕ × CaptureFault)) (counts : List HartCount)
    : Type 0 where
  pub header : Option Header
  pub messages : List Message
  pub end : Option MessageFault
  pub front : IsFront bytes header messages end
  pub are : AreCounts harts (before_stop stop messages) counts
