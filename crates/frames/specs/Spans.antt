-- The frames that are taken, and the bytes between them.
use Rattle.std.specs.Prelude.{ℕ, ◌+◌, ◌-◌, if◌then◌else◌, List, [], ◌∷◌}
use Prim.Native.Nat.{zero, suc}
use Rattle.frames.specs.Frame.{frame_in, frame_size}
use Rattle.frames.specs.Taken.{is_taken}
use Rattle.frames.specs.declared.span.Span.{Span}
use Rattle.frames.specs.declared.span.Span.TheVariants.{Frame, Bytes}

-- The spans where a byte that is passed over, at this offset, is before these: it lengthens the run of bytes that they
-- begin with, or else is a run by itself.
abbrev pub with_byte : ℕ → List Span → List Span
with_byte offset [] = Bytes offset 1 ∷ []
with_byte offset (Frame place message ∷ spans) = Bytes offset 1 ∷ Frame place message ∷ spans
with_byte offset (Bytes place count ∷ spans) = Bytes offset (count + 1) ∷ spans

-- The spans of bytes of which the first is at this offset. So many bytes in front belong to a frame that was taken.
-- After them, a frame that is taken is a span, and goes on to its last byte; where none begins, one byte is passed
-- over.
abbrev pub spans_after : ℕ → ℕ → ℕ → List ℕ → List Span
spans_after known taken offset [] = []
spans_after known (suc taken) offset (b ∷ bytes) = spans_after known taken (offset + 1) bytes
spans_after known zero offset (b ∷ bytes) =
    if is_taken known (b ∷ bytes)
    then Frame offset (frame_in (b ∷ bytes)) ∷ spans_after known (frame_size (b ∷ bytes) - 1) (offset + 1) bytes
    else with_byte offset (spans_after known zero (offset + 1) bytes)

-- The spans of bytes of which the first is at this offset, where the harts below a count are known.
abbrev pub spans_from : ℕ → ℕ → List ℕ → List Span
spans_from known offset bytes = spans_after known zero offset bytes
