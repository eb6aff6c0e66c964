-- The messages that are taken among the bytes that came, and the bytes between them.
use Rattle.std.specs.Prelude.{ℕ, ◌+◌, ◌-◌, Bool, true, false, if◌then◌else◌, List, [], ◌∷◌}
use Prim.Native.Nat.{zero, suc}
use Rattle.frames.specs.Frame.{frame_in, frame_size}
use Rattle.frames.specs.Spans.{with_byte}
use Rattle.frames.specs.declared.span.Span.{Span}
use Rattle.frames.specs.declared.span.Span.TheVariants.{Frame}
use Rattle.frames.specs.GuidedTaken as taken
use Rattle.frames.specs.GuidedTaken.{is_taken}

-- What is known of each message by what was sent.
abbrev pub Sees : Type 0
Sees = taken.Sees

-- The spans of bytes of which the first is at this offset. So many bytes in front belong to a message that was taken.
-- After them, a message that is taken is a span, and goes on to its last byte; where none is, one byte is passed over.
-- The flag says that the byte before was passed over.
abbrev pub spans_after : Sees → Bool → ℕ → ℕ → List ℕ → List Span
spans_after sees astray within offset [] = []
spans_after sees astray (suc within) offset (b ∷ bytes) = spans_after sees astray within (offset + 1) bytes
spans_after sees astray zero offset (b ∷ bytes) =
    if is_taken sees astray (b ∷ bytes)
    then Frame offset (frame_in (b ∷ bytes)) ∷ spans_after sees false (frame_size (b ∷ bytes) - 1) (offset + 1) bytes
    else with_byte offset (spans_after sees true zero (offset + 1) bytes)

-- The spans of bytes of which the first is at this offset.
abbrev pub spans_from : Sees → ℕ → List ℕ → List Span
spans_from sees offset bytes = spans_after sees false zero offset bytes

-- Bytes that are left, and where the first of them is.
pub record Left : Type 0 where
  pub offset : ℕ
  pub bytes : List ℕ

-- The spans that are left.
abbrev pub spans_left : Sees → Left → List Span
spans_left sees left = spans_from sees left.offset left.bytes
