-- Messages that are known again, whatever bytes are around them, this project's own format.
use Rattle.std.specs.Prelude.{ℕ, ◌≡◌, ◌<◌, ◌+◌, ◌^◌, ◌++◌, ◌&&◌, not, nat_lt, Bool, if◌then◌else◌, List, Option, Some}
use Rattle.std.specs.Prelude.{None, length, take, drop, slice_index}
use Rattle.byteorder.specs.Endian.{little_number}
use Rattle.payload.specs.Limits.{most_bytes}
use Rattle.message.specs.Capture.{message_bytes}
use Rattle.message.specs.Cut.{IsMessage}
use Rattle.message.specs.declared.message.Message.{Message}

-- The number from which on no message is known again.
abbrev pub end_of_frames : ℕ
end_of_frames = 2 ^ 32

-- A message that is known again, where the harts below a count are known: it is within its ranges, its hart is known,
-- and its number is below 2^32.
pub record IsFrame (known : ℕ) (m : Message) : Type 0 where
  pub ranges : IsMessage m
  pub hart : m.hart < known
  pub number : m.number < end_of_frames

-- A frame begins the bytes: they are those of a message that is known again, and then any others.
pub record BeginsFrame (known : ℕ) (bytes : List ℕ) : Type 0 where
  pub message : Message
  pub rest : List ℕ
  pub frame : IsFrame known message
  pub whole : bytes ≡ message_bytes message ++ rest

-- Where bytes begin with a message, its payload's length, its hart, its number and its payload.
abbrev pub length_in : List ℕ → ℕ
length_in bytes = slice_index bytes 10

abbrev pub hart_in : List ℕ → ℕ
hart_in bytes = little_number 2 bytes

abbrev pub number_in : List ℕ → ℕ
number_in bytes = little_number 8 (drop 2 bytes)

abbrev pub payload_in : List ℕ → List ℕ
payload_in bytes = take (length_in bytes) (drop 11 bytes)

-- The message that bytes begin with, and how many bytes it has: 11, and those of its payload.
abbrev pub frame_in : List ℕ → Message
frame_in bytes = record { hart = hart_in bytes; number = number_in bytes; payload = payload_in bytes }

abbrev pub frame_size : List ℕ → ℕ
frame_size bytes = 11 + length_in bytes

-- Whether a complete message begins the bytes: its payload's length is 1 to 18, and there are as many bytes as it has.
abbrev pub is_complete : List ℕ → Bool
is_complete bytes =
    nat_lt 0 (length_in bytes)
    && (not (nat_lt most_bytes (length_in bytes)) && not (nat_lt (length bytes) (frame_size bytes)))

-- Whether a frame begins the bytes: a complete message, whose hart is known and whose number is below 2^32.
abbrev pub is_frame : ℕ → List ℕ → Bool
is_frame known bytes =
    is_complete bytes && (nat_lt (hart_in bytes) known && nat_lt (number_in bytes) end_of_frames)

-- The complete message that bytes begin with, if they begin with one.
abbrev pub message_in : List ℕ → Option Message
message_in bytes = if is_complete bytes then Some (frame_in bytes) else None

-- How many bytes it has.
abbrev pub message_size : List ℕ → Option ℕ
message_size bytes = if is_complete bytes then Some (frame_size bytes) else None

-- A complete message begins the bytes.
pub record BeginsMessage (message : Message) (bytes : List ℕ) : Type 0 where
  pub rest : List ℕ
  pub ranges : IsMessage message
  pub whole : bytes ≡ message_bytes message ++ rest
