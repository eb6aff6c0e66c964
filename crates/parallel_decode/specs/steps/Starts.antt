-- Where messages begin, whatever their payloads are.
use Rattle.std.specs.Prelude.{ℕ, ◌≡◌, ◌≤◌, ◌++◌, List, drop, length}
use Rattle.std.specs.declared.vec.Vec.{Vec}
use Rattle.message.specs.Capture.{message_bytes}
use Rattle.message.specs.Cut.{IsMessage}
use Rattle.message.specs.declared.message.Message.{Message}
use Rattle.parallel_decode.specs.Places.{AreListed, EachAt}

-- The message begins at this place of the bytes.
pub record StartsAt (bytes : List ℕ) (place : ℕ) (message : Message) : Type 0 where
  pub rest : List ℕ
  pub within : place ≤ length bytes
  pub begins : drop place bytes ≡ message_bytes message ++ rest
  pub ranges : IsMessage message

-- The messages begin at these places, one at each.
abbrev pub StartAt : List ℕ → List ℕ → List Message → Type 0
StartAt bytes places messages = EachAt (StartsAt bytes) places messages

-- The lists have the places of each hart's messages.
abbrev pub AreStarts : {A : Type 0} → List ℕ → List (Vec ℕ A) → List Message → Type 0
AreStarts bytes places messages = AreListed (StartsAt bytes) places messages
