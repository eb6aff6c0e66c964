-- Bytes that are messages to their end.
use Rattle.std.specs.Prelude.{ℕ, ◌-◌, ◌&&◌, Bool, true, List, [], ◌∷◌}
use Prim.Native.Nat.{zero, suc}
use Rattle.frames.specs.Frame.{frame_size, is_complete}

-- So many bytes in front belong to a message. After them complete messages follow one another to the end.
abbrev pub framed_after : ℕ → List ℕ → Bool
framed_after within [] = true
framed_after (suc within) (b ∷ bytes) = framed_after within bytes
framed_after zero (b ∷ bytes) = is_complete (b ∷ bytes) && framed_after (frame_size (b ∷ bytes) - 1) bytes

-- The bytes are complete messages, one after the other, to the end.
abbrev pub is_framed : List ℕ → Bool
is_framed bytes = framed_after zero bytes
