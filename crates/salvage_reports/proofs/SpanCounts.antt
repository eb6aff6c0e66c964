-- Bytes have no more spans than they are.
use Rattle.std.proofs.Common.{◌≤◌, ◌+◌, ◌-◌, ℕ, zero, suc, Bool, true, false, List, [], ◌∷◌, Option, arith, drop, length}
use Rattle.std.specs.Prelude.{if◌then◌else◌}
use Rattle.std.proofs.lemmas.List.{length-drop}
use Rattle.frames.specs.Frame.{frame_in, frame_size}
use Rattle.frames.specs.Spans.{spans_after, with_byte}
use Rattle.frames.specs.Taken.{is_taken}
use Rattle.frames.specs.declared.span.Span.{Span}
use Rattle.frames.specs.declared.span.Span.TheVariants.{Frame, Bytes}
use Rattle.message.specs.declared.header.Header.{Header}
use Rattle.frames.specs.Start.{first_place, known_harts, spans_of}

-- A byte that is passed over makes one span more at most.
one_more : (offset : ℕ) (spans : List Span) → length (with_byte offset spans) ≤ 1 + length spans
one_more offset [] = omega arith
one_more offset (Frame place message ∷ spans) = omega arith
one_more offset (Bytes place count ∷ spans) = omega arith

spans_counted : (known taken offset : ℕ) (bytes : List ℕ)
    → length (spans_after known taken offset bytes) ≤ length bytes
spans_counted known zero offset [] = omega arith
spans_counted known (suc taken) offset [] = omega arith
spans_counted known (suc taken) offset (b ∷ bytes) =
    let more = spans_counted known taken (offset + 1) bytes in
    omega (arith, more)
spans_counted known zero offset (b ∷ bytes) =
    by (is_taken known (b ∷ bytes))
    (spans_counted known (frame_size (b ∷ bytes) - 1) (offset + 1) bytes)
    (spans_counted known zero (offset + 1) bytes)
  where
    by : (t : Bool)
        → length (spans_after known (frame_size (b ∷ bytes) - 1) (offset + 1) bytes) ≤ length bytes
        → length (spans_after known zero (offset + 1) bytes) ≤ length bytes
        → length (if t
        then Frame offset (frame_in (b ∷ bytes))
        ∷ spans_after known (frame_size (b ∷ bytes) - 1) (offset + 1) bytes
        else with_byte offset (spans_after known zero (offset + 1) bytes)) ≤ length (b ∷ bytes)
    by true behind other = omega (arith, behind)
    by false behind other =
        let few = one_more offset (spans_after known zero (offset + 1) bytes) in
        omega (arith, few, other)

-- So has a capture.
pub few_spans : (header : Option Header) (bytes : List ℕ) → length (spans_of header bytes) ≤ length bytes
few_spans header bytes =
    let first = first_place header in
    let few = spans_counted (known_harts header) zero first (drop first bytes) in
    let rest = length-drop first bytes in
    omega (arith, few, rest)
