-- Where the messages of bytes begin.
use Rattle.std.specs.Prelude.{ℕ, ◌≡◌, ◌≢◌, ◌⊎◌, ◌≤◌, ◌++◌, true, All, List, [], ◌∷◌, Ok, Some, drop, length, slice_get}
use Rattle.std.specs.declared.vec.Vec.{Vec}
use Rattle.message.specs.Range.{selects}
use Rattle.message.specs.declared.range.HartRange.{HartRange}
use Rattle.payload.specs.Reading.{reading}
use Rattle.payload.specs.declared.packet.Packet.{Packet}
use Rattle.message.specs.Capture.{capture, message_bytes}
use Rattle.message.specs.Cut.{IsMessage}
use Rattle.message.specs.OfHart.{of_hart}
use Rattle.message.specs.declared.message.Message.{Message}

-- The payload of the message is a packet.
pub record IsRead (message : Message) : Type 0 where
  pub packet : Packet
  pub read : reading message.payload ≡ Ok packet

-- The message begins at this place of the bytes, and its payload is a packet.
pub record IsAt (bytes : List ℕ) (place : ℕ) (message : Message) : Type 0 where
  pub rest : List ℕ
  pub within : place ≤ length bytes
  pub begins : drop place bytes ≡ message_bytes message ++ rest
  pub ranges : IsMessage message
  pub read : IsRead message

-- A message begins at this place of the bytes, and its payload is this packet.
pub record HasPacketAt (bytes : List ℕ) (place : ℕ) (packet : Packet) : Type 0 where
  pub message : Message
  pub is_at : IsAt bytes place message
  pub read : reading message.payload ≡ Ok packet

-- The messages are at these places, one at each, by what it is to be at a place.
abbrev pub EachAt : (ℕ → Message → Type 0) → List ℕ → List Message → Type 0
EachAt Is [] [] = Unit {0}
EachAt Is (place ∷ places) (message ∷ messages) = Is place message × EachAt Is places messages
EachAt Is places messages = ⊥

-- The messages begin at these places, and their payloads are packets.
abbrev pub AreAt : List ℕ → List ℕ → List Message → Type 0
AreAt bytes places messages = EachAt (IsAt bytes) places messages

-- If the message is of one of these harts, its payload is a packet.
abbrev pub IsReadOf : HartRange → Message → Type 0
IsReadOf range message = selects range message.hart ≡ true → IsRead message

-- The bytes begin with so many messages. The payloads of those of these harts are packets.
pub record AreFirst (range : HartRange) (bytes : List ℕ) (count : ℕ) (messages : List Message) : Type 0 where
  pub rest : List ℕ
  pub ranges : All IsMessage messages
  pub read : All (IsReadOf range) messages
  pub whole : bytes ≡ capture messages ++ rest
  pub counted : count ≡ length messages

-- The lists have the places of each hart's messages, by what it is to be at a place.
abbrev pub AreListed : {A : Type 0} → (ℕ → Message → Type 0) → List (Vec ℕ A) → List Message → Type 0
AreListed {A} Is places messages = (hart : ℕ) (own : Vec ℕ A) → slice_get places hart ≡ Some own
    → EachAt Is own.items (of_hart hart messages)

-- The messages of each hart begin at the places of its list, and their payloads are packets.
abbrev pub ArePlaced : {A : Type 0} → List ℕ → List (Vec ℕ A) → List Message → Type 0
ArePlaced bytes places messages = AreListed (IsAt bytes) places messages

-- A place was added to the list of a hart, if there is one, and the other lists are as they were.
abbrev pub IsAdded : {A : Type 0} → ℕ → ℕ → List (Vec ℕ A) → List (Vec ℕ A) → Type 0
IsAdded {A} hart place old new = (other : ℕ) (own : Vec ℕ A) → slice_get new other ≡ Some own
    → (before : Vec ℕ A) × (slice_get old other ≡ Some before)
    × (((other ≡ hart) × (own.items ≡ before.items ++ place ∷ [])) ⊎ ((other ≢ hart) × (own.items ≡ before.items)))
