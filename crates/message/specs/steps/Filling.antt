-- Reading until a buffer is full.
use Rattle.std.specs.Prelude.{◌<◌, ◌≤◌, ℕ, List, length, take, slice_index, Option}
use Rattle.std.specs.Io.KnownBytes.{Consumes, IsAtEnd}

-- Each number of the list is a byte.
abbrev pub AreBytes : List ℕ → Type 0
AreBytes xs = (k : ℕ) → slice_index xs k < 256

-- So many bytes of the input were read into the start of a buffer. They are fewer than the buffer has only where
-- nothing of the input remains.
pub record Fills (old new : Option (List ℕ)) (room : List ℕ) (count : ℕ) : Type 0 where
  pub within : count ≤ length room
  pub consumed : Consumes old new (take count room)
  pub bytes : AreBytes room
  pub ended : count < length room → IsAtEnd new
