-- Bytes that begin no whole message.
use Rattle.std.specs.Prelude.{◌≡◌, ◌⊎◌, ◌<◌, ◌≤◌, ◌^◌, ℕ, ◌++◌, List, length, slice_index}
use Rattle.payload.specs.Bytes.{IsBytes}
use Rattle.payload.specs.Limits.{most_bytes}
use Rattle.message.specs.Capture.{message_bytes}
use Rattle.message.specs.declared.message.Message.{Message}

-- The numbers of a message are within their ranges, and its payload is 1 to 18 bytes.
pub record IsMessage (m : Message) : Type 0 where
  pub hart : m.hart < 2 ^ 16
  pub number : m.number < 2 ^ 64
  pub some : 1 ≤ length m.payload
  pub few : length m.payload ≤ most_bytes
  pub bytes : IsBytes m.payload

-- The bytes are a beginning of a message: one byte of it at least, and not all.
pub record IsCut (bytes : List ℕ) : Type 0 where
  pub message : Message
  pub rest : List ℕ
  pub ranges : IsMessage message
  pub whole : bytes ++ rest ≡ message_bytes message
  pub some : 1 ≤ length bytes
  pub more : 1 ≤ length rest

-- The byte for a payload's length is 0 or above 18.
abbrev pub IsBadLength : ℕ → Type 0
IsBadLength count = (count ≡ 0) ⊎ (most_bytes < count)

-- The bytes begin with a whole head, whose byte for the payload's length is bad.
abbrev pub HasBadLength : List ℕ → Type 0
HasBadLength bytes = (11 ≤ length bytes) × IsBadLength (slice_index bytes 10)
