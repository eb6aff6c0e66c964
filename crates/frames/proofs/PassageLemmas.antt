-- The first span of bytes, and the spans after it.
use Rattle.std.proofs.Common.{◌≡◌, ◌⊎◌, ◌<◌, ◌≤◌, ◌+◌, ◌-◌, ℕ, zero, suc, Bool, true, false, if◌then◌else◌, List, []}
use Rattle.std.proofs.Common.{◌∷◌, drop, length, refl, ap, ap₂, sym, ◌∙◌, arith, inl, inr}
use Rattle.std.proofs.lemmas.Bool.{or_left}
use Rattle.std.proofs.lemmas.List.{drop-drop}
use Rattle.frames.specs.Frame.{frame_in, frame_size}
use Rattle.frames.specs.Spans.{with_byte}
use Rattle.frames.specs.declared.span.Span.{Span}
use Rattle.frames.specs.declared.span.Span.TheVariants.{Frame, Bytes}
use Rattle.message.proofs.Answering.{not_both}
use Rattle.message.specs.declared.message.Message.{Message}
use Rattle.frames.specs.Passages.{Sees, spans_after, spans_from}
use Rattle.frames.specs.GuidedTaken.{is_kept, is_taken, is_taken_anywhere, is_taken_first}

-- A message that is taken anywhere is taken.
pub anywhere-taken : (sees : Sees) (astray : Bool) (xs : List ℕ) → is_taken_anywhere sees xs ≡ true
    → is_taken sees astray xs ≡ true
anywhere-taken sees true xs taken = taken
anywhere-taken sees false xs taken = or_left (is_taken_anywhere sees xs) (is_kept sees xs) taken

-- What belongs to a message that was taken is passed over at once.
pub spans-rest : (sees : Sees) (astray : Bool) (n offset : ℕ) (xs : List ℕ)
    → spans_after sees astray n offset xs ≡ spans_after sees astray zero (offset + n) (drop n xs)
spans-rest sees astray zero offset xs =
    let e : offset ≡ offset + 0 = omega arith in ap (λ (o : ℕ). spans_after sees astray zero o xs) e
spans-rest sees astray (suc n) offset [] = refl
spans-rest sees astray (suc n) offset (b ∷ bytes) =
    let e : offset + 1 + n ≡ offset + suc n = omega arith in
    spans-rest sees astray n (offset + 1) bytes ∙ ap (λ (o : ℕ). spans_after sees astray zero o (drop n bytes)) e

-- What the spans of bytes are, by whether a message that begins them is taken.
abbrev pub by_first : Sees → ℕ → ℕ → List ℕ → Bool → List Span
by_first sees offset b bytes taken =
    if taken
    then Frame offset (frame_in (b ∷ bytes)) ∷ spans_after sees false (frame_size (b ∷ bytes) - 1) (offset + 1) bytes
    else with_byte offset (spans_after sees true zero (offset + 1) bytes)

-- A message that is taken is the first span.
pub spans-frame : (sees : Sees) (astray : Bool) (offset : ℕ) (xs : List ℕ) → is_taken sees astray xs ≡ true
    → spans_after sees astray zero offset xs
    ≡ Frame offset (frame_in xs) ∷ spans_from sees (offset + frame_size xs) (drop (frame_size xs) xs)
spans-frame sees true offset [] taken = absurd (not_both false taken refl)
spans-frame sees false offset [] taken = absurd (not_both false taken refl)
spans-frame sees astray offset (b ∷ bytes) taken =
    let xs = b ∷ bytes in
    let size = frame_size xs in
    let whole : suc (size - 1) ≡ size = omega arith in
    let place : offset + 1 + (size - 1) ≡ offset + size = omega arith in
    let rest : spans_after sees false (size - 1) (offset + 1) bytes ≡ spans_from sees (offset + size) (drop size xs) =
    spans-rest sees false (size - 1) (offset + 1) bytes
    ∙ ap₂ (spans_from sees) place (ap (λ (n : ℕ). drop n xs) whole) in
    ap (by_first sees offset b bytes) taken
    ∙ ap (λ (l : List Span). Frame offset (frame_in xs) ∷ l) rest

-- Where none is taken, one byte is passed over.
spans-byte : (sees : Sees) (astray : Bool) (offset b : ℕ) (bytes : List ℕ) → is_taken sees astray (b ∷ bytes) ≡ false
    → spans_after sees astray zero offset (b ∷ bytes) ≡ with_byte offset (spans_after sees true zero (offset + 1) bytes)
spans-byte sees astray offset b bytes none = ap (by_first sees offset b bytes) none

-- The bytes end there, or a message begins there that is taken anywhere.
abbrev pub Ends : Sees → ℕ → List ℕ → Type 0
Ends sees count xs = (count ≡ length xs) ⊎ (is_taken_anywhere sees (drop count xs) ≡ true)

-- A byte before the end, or before a message that is taken anywhere, is a run by itself.
alone : (sees : Sees) (offset : ℕ) (bytes : List ℕ) → (length bytes ≡ 0) ⊎ (is_taken_anywhere sees bytes ≡ true)
    → with_byte offset (spans_after sees true zero (offset + 1) bytes)
    ≡ Bytes offset 1 ∷ spans_from sees (offset + 1) bytes
alone sees offset [] ends = refl
alone sees offset (x ∷ bytes) (inl none) = absurd (omega (arith, none))
alone sees offset (x ∷ bytes) (inr sent) =
    let xs = x ∷ bytes in
    let here = spans-frame sees true (offset + 1) xs sent in
    let again = spans-frame sees false (offset + 1) xs (anywhere-taken sees false xs sent) in
    ap (with_byte offset) here ∙ ap (λ (l : List Span). Bytes offset 1 ∷ l) (sym again)

-- Bytes up to the next message that is taken anywhere, or to the end, are the first span, where no message that begins
-- them is taken.
pub spans-run : (sees : Sees) (astray : Bool) (count offset : ℕ) (xs : List ℕ)
    → 1 ≤ count → count ≤ length xs → is_taken sees astray xs ≡ false
    → ((k : ℕ) → 1 ≤ k → k < count → is_taken_anywhere sees (drop k xs) ≡ false) → Ends sees count xs
    → spans_after sees astray zero offset xs ≡ Bytes offset count ∷ spans_from sees (offset + count) (drop count xs)
spans-run sees astray zero offset xs some within none passed ends = absurd (omega (arith, some))
spans-run sees astray (suc count) offset [] some within none passed ends = absurd (omega (arith, within))
spans-run sees astray (suc zero) offset (b ∷ bytes) some within none passed ends =
    spans-byte sees astray offset b bytes none ∙ alone sees offset bytes (ended ends)
  where
    ended : Ends sees 1 (b ∷ bytes) → (length bytes ≡ 0) ⊎ (is_taken_anywhere sees bytes ≡ true)
    ended (inl all) = inl (omega (arith, all))
    ended (inr sent) = inr sent
spans-run sees astray (suc (suc count)) offset (b ∷ bytes) some within none passed ends =
    let more : (k : ℕ) → 1 ≤ k → k < suc count → is_taken_anywhere sees (drop k bytes) ≡ false =
    λ k first less. passed (suc k) (omega arith) (omega (arith, less)) in
    let rest = spans-run sees true (suc count) (offset + 1) bytes (omega arith) (omega (arith, within))
    (passed 1 (omega arith) (omega arith)) more (ended ends) in
    let counted : suc count + 1 ≡ suc (suc count) = omega arith in
    let place : offset + 1 + suc count ≡ offset + suc (suc count) = omega arith in
    spans-byte sees astray offset b bytes none ∙ ap (with_byte offset) rest
    ∙ ap₂ (λ (n : ℕ) (o : ℕ). Bytes offset n ∷ spans_from sees o (drop (suc count) bytes)) counted place
  where
    ended : Ends sees (suc (suc count)) (b ∷ bytes) → Ends sees (suc count) bytes
    ended (inl all) = inl (omega (arith, all))
    ended (inr sent) = inr sent

-- The same from a place of bytes on.
pub next-frame : (sees : Sees) (at size : ℕ) (bytes rest : List ℕ) (m : Message) → rest ≡ drop at bytes
    → is_taken_first sees rest ≡ true → size ≡ frame_size rest → m ≡ frame_in rest
    → spans_from sees at (drop at bytes) ≡ Frame at m ∷ spans_from sees (at + size) (drop (at + size) bytes)
next-frame sees at size bytes rest m here taken sized is =
    let long : frame_size rest ≡ size = sym sized in
    ap (spans_from sees at) (sym here) ∙ spans-frame sees false at rest taken
    ∙ ap₂ (λ (n : Message) (k : ℕ). Frame at n ∷ spans_from sees (at + k) (drop k rest)) (sym is) long
    ∙ ap (λ (l : List ℕ). Frame at m ∷ spans_from sees (at + size) l) (ap (drop size) here ∙ drop-drop size at bytes)

pub next-run : (sees : Sees) (at count : ℕ) (bytes rest : List ℕ) → rest ≡ drop at bytes
    → is_taken_first sees rest ≡ false → 1 ≤ count → count ≤ length rest
    → ((k : ℕ) → 1 ≤ k → k < count → is_taken_anywhere sees (drop k rest) ≡ false) → Ends sees count rest
    → spans_from sees at (drop at bytes) ≡ Bytes at count ∷ spans_from sees (at + count) (drop (at + count) bytes)
next-run sees at count bytes rest here none some within passed ends =
    ap (spans_from sees at) (sym here) ∙ spans-run sees false count at rest some within none passed ends
    ∙ ap (λ (l : List ℕ). Bytes at count ∷ spans_from sees (at + count) l)
    (ap (drop count) here ∙ drop-drop count at bytes)
