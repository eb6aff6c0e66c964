-- The message that is taken.
use Rattle.std.proofs.Common.{◌≡◌, ◌≤◌, ◌+◌, Bool, true, false, if◌then◌else◌, ℕ, List, ◌∷◌, Some, None, length, drop}
use Rattle.std.proofs.Common.{refl, ap, arith, length-take-le}
use Rattle.std.proofs.lemmas.List.{length-drop}
use Rattle.std.proofs.lemmas.Option.{same_Some}
use Rattle.frames.proofs.FrameLemmas.{Complete, complete}
use Rattle.frames.specs.Frame.{frame_in, frame_size, is_complete, length_in, message_size}
use Rattle.frames.specs.declared.span.Span.TheVariants.{Frame}
use Rattle.message.specs.Capture.{message_bytes}
use Rattle.frames.proofs.PassageLemmas.{next-frame}
use Rattle.frames.specs.Passages.{spans_from}
use Rattle.frames.specs.GuidedTaken.{Sees, is_taken_first}

-- Bytes that begin with a message of so many bytes begin with a complete one.
module _ (bytes : List ℕ) (count : ℕ) (begins : Some count ≡ message_size bytes) where
  both : (c : Bool) → is_complete bytes ≡ c → Some count ≡ (if c then Some (frame_size bytes) else None)
      → (is_complete bytes ≡ true) × (count ≡ frame_size bytes)
  both true is e = (is, same_Some count (frame_size bytes) e)
  both false is e = cc

  pub its : (is_complete bytes ≡ true) × (count ≡ frame_size bytes)
  its = both (is_complete bytes) refl begins

  -- It is within the bytes, and its payload within its range.
  pub whole : Complete bytes
  whole = complete bytes its.0

  -- It has as many bytes.
  pub size : length (message_bytes (frame_in bytes)) ≡ count
  size =
      let fits = whole.fits in
      let left = length-drop 11 bytes in
      let long = length-take-le (length_in bytes) (drop 11 bytes) (omega (arith, left, fits)) in
      let bytes_of : length (message_bytes (frame_in bytes)) ≡ 11 + length (frame_in bytes).payload = omega arith in
      let same = its.1 in
      omega (arith, bytes_of, long, same)

-- Bytes of which no size is known begin with none.
pub none_begins : (bytes : List ℕ) → None ≡ message_size bytes → is_complete bytes ≡ false
none_begins bytes none = by (is_complete bytes) refl none
  where
    by : (c : Bool) → is_complete bytes ≡ c → None ≡ (if c then Some (frame_size bytes) else None)
        → is_complete bytes ≡ false
    by true is e = cc
    by false is e = is

-- Where it is taken, it is the first span from its place on.
pub next_taken : (sees : Sees) (at count : ℕ) (bytes rest : List ℕ) → rest ≡ drop at bytes
    → Some count ≡ message_size rest → is_taken_first sees rest ≡ true
    → spans_from sees at (drop at bytes)
    ≡ Frame at (frame_in rest) ∷ spans_from sees (at + count) (drop (at + count) bytes)
next_taken sees at count bytes rest here begins taken =
    next-frame sees at count bytes rest (frame_in rest) here taken (its rest count begins).1 refl

-- It ends within the bytes.
pub ends_within : (at count : ℕ) (bytes rest : List ℕ) → rest ≡ drop at bytes → at ≤ length bytes
    → count ≤ length rest → at + count ≤ length bytes
ends_within at count bytes rest here some within =
    let left = length-drop at bytes in
    let same = ap length here in
    omega (arith, left, same, some, within)
