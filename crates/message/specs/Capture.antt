-- The bytes of messages, this project's own format.
use Rattle.std.specs.Prelude.{ℕ, ◌++◌, List, [], ◌∷◌, length}
use Rattle.byteorder.specs.Endian.{little_bytes}
use Rattle.message.specs.declared.message.Message.{Message}

-- What comes before a payload: the hart in 2 bytes, the number in 8, both little endian, and the payload's length in
-- one.
abbrev pub head_bytes : Message → List ℕ
head_bytes m = little_bytes 2 m.hart ++ (little_bytes 8 m.number ++ (length m.payload ∷ []))

-- The bytes of a message.
abbrev pub message_bytes : Message → List ℕ
message_bytes m = head_bytes m ++ m.payload

-- The capture of messages: the bytes of each, in order.
abbrev pub capture : List Message → List ℕ
capture [] = []
capture (m ∷ ms) = message_bytes m ++ capture ms
