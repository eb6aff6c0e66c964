-- The first span of bytes, and the spans after it.
use Rattle.std.proofs.Common.{◌≡◌, ◌⊎◌, ◌<◌, ◌≤◌, ◌+◌, ◌-◌, ℕ, zero, suc, Bool, true, false, if◌then◌else◌, List, []}
use Rattle.std.proofs.Common.{◌∷◌, drop, length, min, refl, ap, ap₂, sym, ◌∙◌, arith, inl, inr}
use Rattle.std.proofs.Math.Nat.{min-eq_left, min-eq_right}
use Rattle.std.proofs.lemmas.Bool.{cases_lt}
use Rattle.std.proofs.lemmas.List.{drop-drop, length-drop, nil_from_length}
use Rattle.message.proofs.Answering.{not_both}
use Rattle.message.specs.declared.message.Message.{Message}
use Rattle.frames.specs.Frame.{frame_in, frame_size}
use Rattle.frames.specs.Taken.{is_taken}
use Rattle.frames.specs.Spans.{spans_after, spans_from, with_byte}
use Rattle.frames.specs.declared.span.Span.{Span}
use Rattle.frames.specs.declared.span.Span.TheVariants.{Frame, Bytes}

-- What belongs to a frame that was taken is passed over at once.
pub spans-rest : (known n offset : ℕ) (xs : List ℕ)
    → spans_after known n offset xs ≡ spans_from known (offset + n) (drop n xs)
spans-rest known zero offset xs =
    let e : offset ≡ offset + 0 = omega arith in ap (λ (o : ℕ). spans_from known o xs) e
spans-rest known (suc n) offset [] = refl
spans-rest known (suc n) offset (b ∷ bytes) =
    let e : offset + 1 + n ≡ offset + suc n = omega arith in
    spans-rest known n (offset + 1) bytes ∙ ap (λ (o : ℕ). spans_from known o (drop n bytes)) e

-- A frame that is taken is the first span.
pub spans-frame : (known offset : ℕ) (xs : List ℕ) → is_taken known xs ≡ true
    → spans_from known offset xs
    ≡ Frame offset (frame_in xs) ∷ spans_from known (offset + frame_size xs) (drop (frame_size xs) xs)
spans-frame known offset [] taken = absurd (not_both false taken refl)
spans-frame known offset (b ∷ bytes) taken =
    let xs = b ∷ bytes in
    let size = frame_size xs in
    let whole : suc (size - 1) ≡ size = omega arith in
    let place : offset + 1 + (size - 1) ≡ offset + size = omega arith in
    let after : spans_after known (size - 1) (offset + 1) bytes ≡ spans_from known (offset + size) (drop size xs) =
    spans-rest known (size - 1) (offset + 1) bytes
    ∙ ap₂ (spans_from known) place (ap (λ (n : ℕ). drop n xs) whole) in
    ap (λ (t : Bool). if t then Frame offset (frame_in xs) ∷ spans_after known (size - 1) (offset + 1) bytes
    else with_byte offset (spans_from known (offset + 1) bytes)) taken
    ∙ ap (λ (l : List Span). Frame offset (frame_in xs) ∷ l) after

-- Where none is taken, one byte is passed over.
pub spans-byte : (known offset b : ℕ) (bytes : List ℕ) → is_taken known (b ∷ bytes) ≡ false
    → spans_from known offset (b ∷ bytes) ≡ with_byte offset (spans_from known (offset + 1) bytes)
spans-byte known offset b bytes none =
    let xs = b ∷ bytes in
    let size = frame_size xs in
    ap (λ (t : Bool). if t then Frame offset (frame_in xs) ∷ spans_after known (size - 1) (offset + 1) bytes
    else with_byte offset (spans_from known (offset + 1) bytes)) none

-- The bytes end there, or a frame begins there that is taken.
abbrev pub Ends : ℕ → ℕ → List ℕ → Type 0
Ends known count xs = (count ≡ length xs) ⊎ (is_taken known (drop count xs) ≡ true)

-- A byte before the end, or before a frame that is taken, is a run by itself.
alone : (known offset b : ℕ) (bytes : List ℕ) → (length bytes ≡ 0) ⊎ (is_taken known bytes ≡ true)
    → with_byte offset (spans_from known (offset + 1) bytes) ≡ Bytes offset 1 ∷ spans_from known (offset + 1) bytes
alone known offset b [] ends = refl
alone known offset b (x ∷ bytes) (inl none) = absurd (omega (arith, none))
alone known offset b (x ∷ bytes) (inr taken) =
    let first = spans-frame known (offset + 1) (x ∷ bytes) taken in
    ap (with_byte offset) first ∙ ap (λ (l : List Span). Bytes offset 1 ∷ l) (sym first)

-- Bytes up to the next frame that is taken, or to the end, are the first span.
pub spans-run : (known count offset : ℕ) (xs : List ℕ)
    → 1 ≤ count → count ≤ length xs → ((k : ℕ) → k < count → is_taken known (drop k xs) ≡ false)
    → Ends known count xs
    → spans_from known offset xs ≡ Bytes offset count ∷ spans_from known (offset + count) (drop count xs)
spans-run known zero offset xs some within passed ends = absurd (omega (arith, some))
spans-run known (suc count) offset [] some within passed ends = absurd (omega (arith, within))
spans-run known (suc zero) offset (b ∷ bytes) some within passed ends =
    spans-byte known offset b bytes (passed 0 (omega arith)) ∙ alone known offset b bytes (ended ends)
  where
    ended : Ends known 1 (b ∷ bytes) → (length bytes ≡ 0) ⊎ (is_taken known bytes ≡ true)
    ended (inl all) = inl (omega (arith, all))
    ended (inr taken) = inr taken
spans-run known (suc (suc count)) offset (b ∷ bytes) some within passed ends =
    let more : (k : ℕ) → k < suc count → is_taken known (drop k bytes) ≡ false =
    λ k less. passed (suc k) (omega (arith, less)) in
    let rest = spans-run known (suc count) (offset + 1) bytes (omega arith) (omega (arith, within)) more (ended ends) in
    let counted : suc count + 1 ≡ suc (suc count) = omega arith in
    let place : offset + 1 + suc count ≡ offset + suc (suc count) = omega arith in
    spans-byte known offset b bytes (passed 0 (omega arith)) ∙ ap (with_byte offset) rest
    ∙ ap₂ (λ (n : ℕ) (o : ℕ). Bytes offset n ∷ spans_from known o (drop (suc count) bytes)) counted place
  where
    ended : Ends known (suc (suc count)) (b ∷ bytes) → Ends known (suc count) bytes
    ended (inl all) = inl (omega (arith, all))
    ended (inr taken) = inr taken

-- The same from a place of bytes on.
pub next-frame : (known at size : ℕ) (bytes rest : List ℕ) (m : Message) → rest ≡ drop at bytes
    → is_taken known rest ≡ true → size ≡ frame_size rest → m ≡ frame_in rest
    → spans_from known at (drop at bytes) ≡ Frame at m ∷ spans_from known (at + size) (drop (at + size) bytes)
next-frame known at size bytes rest m here taken sized is =
    let long : frame_size rest ≡ size = sym sized in
    ap (spans_from known at) (sym here) ∙ spans-frame known at rest taken
    ∙ ap₂ (λ (n : Message) (k : ℕ). Frame at n ∷ spans_from known (at + k) (drop k rest)) (sym is) long
    ∙ ap (λ (l : List ℕ). Frame at m ∷ spans_from known (at + size) l) (ap (drop size) here ∙ drop-drop size at bytes)

pub next-run : (known at count : ℕ) (bytes rest : List ℕ) → rest ≡ drop at bytes → is_taken known rest ≡ false
    → 1 ≤ count → count ≤ length rest → ((k : ℕ) → 1 ≤ k → k < count → is_taken known (drop k rest) ≡ false)
    → Ends known count rest
    → spans_from known at (drop at bytes) ≡ Bytes at count ∷ spans_from known (at + count) (drop (at + count) bytes)
next-run known at count bytes rest here none some within passed ends =
    ap (spans_from known at) (sym here) ∙ spans-run known count at rest some within each ends
    ∙ ap (λ (l : List ℕ). Bytes at count ∷ spans_from known (at + count) l)
    (ap (drop count) here ∙ drop-drop count at bytes)
  where
    each : (k : ℕ) → k < count → is_taken known (drop k rest) ≡ false
    each zero less = none
    each (suc k) less = passed (suc k) (omega arith) less

-- What there is from a place on is nothing from a place after the last byte, and so the same from the end on.
pub least_place : {X : Type 0} (left : ℕ → List ℕ → List X) → ((at : ℕ) → left at [] ≡ []) → (from : ℕ)
    (bytes : List ℕ) → left (min from (length bytes)) (drop (min from (length bytes)) bytes) ≡ left from (drop from bytes)
least_place left nothing from bytes =
    elim (cases_lt from (length bytes)) [
      | inl within ↦
          let least : min from (length bytes) ≡ from = min-eq_left (omega (arith, within)) in
          ap (λ (at : ℕ). left at (drop at bytes)) least
      | inr past ↦
          let least : min from (length bytes) ≡ length bytes = min-eq_right past in
          let gone = length-drop from bytes in
          let all = length-drop (length bytes) bytes in
          let none : drop from bytes ≡ [] = nil_from_length (drop from bytes) (omega (arith, gone, past)) in
          let end : drop (length bytes) bytes ≡ [] = nil_from_length (drop (length bytes) bytes) (omega (arith, all)) in
          ap (λ (at : ℕ). left at (drop at bytes)) least ∙ ap (left (length bytes)) end ∙ nothing (length bytes)
          ∙ sym (nothing from) ∙ sym (ap (left from) none)
    ]
