-- Messages with their places in a capture.
use Rattle.std.specs.Prelude.{ℕ, ◌+◌, List, [], ◌∷◌, filter, length}
use Rattle.message.specs.Range.{selects}
use Rattle.message.specs.declared.range.HartRange.{HartRange}
use Rattle.message.specs.Capture.{message_bytes}
use Rattle.message.specs.declared.message.Message.{Message}

-- A message, how many messages come before it in the capture, and the offset of its first byte.
pub record PlacedMessage : Type 0 where
  pub place : ℕ
  pub offset : ℕ
  pub message : Message

-- All of these messages. The first has this place and this offset.
abbrev pub placed : ℕ → ℕ → List Message → List PlacedMessage
placed place offset [] = []
placed place offset (message ∷ messages) =
    record { place = place; offset = offset; message = message }
    ∷ placed (place + 1) (offset + length (message_bytes message)) messages

-- Those of these harts among them. The first of all has this place and this offset.
abbrev pub placed_of : HartRange → ℕ → ℕ → List Message → List PlacedMessage
placed_of only place offset messages =
    filter (λ (one : PlacedMessage). selects only one.message.hart) (placed place offset messages)
