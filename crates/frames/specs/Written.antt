-- The spans of messages that were written, alone or among other bytes.
use Rattle.std.specs.Prelude.{ℕ, ◌+◌, ◌++◌, Contains, IsTrue, List, [], ◌∷◌, length, drop}
use Rattle.message.specs.Capture.{message_bytes}
use Rattle.message.specs.declared.message.Message.{Message}
use Rattle.frames.specs.Frame.{is_frame}
use Rattle.frames.specs.declared.span.Span.{Span}
use Rattle.frames.specs.declared.span.Span.TheVariants.{Frame, Bytes}

-- The frames of messages one after the other, the first at this offset.
abbrev pub frames_from : ℕ → List Message → List Span
frames_from offset [] = []
frames_from offset (m ∷ ms) = Frame offset m ∷ frames_from (offset + length (message_bytes m)) ms

-- A message, and the bytes right before it that are of no message.
pub record Scattered : Type 0 where
  pub before : List ℕ
  pub message : Message

-- Messages among other bytes: each after the bytes before it, and the last bytes after them.
abbrev pub scattered_bytes : List Scattered → List ℕ → List ℕ
scattered_bytes [] last = last
scattered_bytes (s ∷ more) last = s.before ++ (message_bytes s.message ++ scattered_bytes more last)

-- The offsets of the messages, where the first byte is at this one.
abbrev pub offsets_from : ℕ → List Scattered → List ℕ
offsets_from offset [] = []
offsets_from offset (s ∷ more) =
    (offset + length s.before) ∷ offsets_from (offset + length s.before + length (message_bytes s.message)) more

-- A run of bytes at this offset, or no span where there are none.
abbrev pub run_at : ℕ → List ℕ → List Span
run_at offset [] = []
run_at offset (b ∷ bytes) = Bytes offset (length (b ∷ bytes)) ∷ []

-- The spans of messages among other bytes: each message at its place, and the bytes between.
abbrev pub scattered_from : ℕ → List Scattered → List ℕ → List Span
scattered_from offset [] last = run_at offset last
scattered_from offset (s ∷ more) last =
    run_at offset s.before
    ++ (Frame (offset + length s.before) s.message
    ∷ scattered_from (offset + length s.before + length (message_bytes s.message)) more last)

-- No frame begins at any place of the bytes but at the offsets listed, where the first byte is at this one.
abbrev pub NoOtherFrame : ℕ → ℕ → List ℕ → List ℕ → Type 0
NoOtherFrame known offset bytes offsets =
    (k : ℕ) → IsTrue (is_frame known (drop k bytes)) → Contains offsets (offset + k)
