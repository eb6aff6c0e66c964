-- Which known messages are passed over, place by place.
use Rattle.std.proofs.Common.{◌≡◌, ◌⊎◌, ◌<◌, ◌≤◌, ◌+◌, ◌-◌, ◌||◌, ℕ, zero, suc, Bool, true, false, not, List, [], ◌∷◌}
use Rattle.std.proofs.Common.{drop, length, refl, ap, subst, arith, inl, inr, length-take-le}
use Rattle.std.proofs.lemmas.Bool.{and_cases, and_parts, cases_lt, or_cases, or_parts, not-false}
use Rattle.std.proofs.lemmas.List.{length-drop}
use Rattle.message.proofs.Answering.{not_both}
use Rattle.message.specs.Capture.{message_bytes}
use Rattle.message.specs.declared.message.Message.{Message}
use Rattle.frames.proofs.FrameLemmas.{complete}
use Rattle.frames.proofs.PassageLemmas.{by_first}
use Rattle.frames.proofs.TakenLemmas.{inside-here}
use Rattle.frames.specs.Frame.{frame_in, frame_size, is_complete, length_in}
use Rattle.frames.specs.GuidedTaken.{Sees, is_clear, is_kept, is_known_at, is_same, is_sent_at, is_taken}
use Rattle.frames.specs.GuidedTaken.{is_taken_anywhere}
use Rattle.frames.specs.Passages.{spans_after}
use Rattle.frames.specs.PassedOver.{FirmArePassedOver, IsInside, IsInsideFirm, IsTakenAt, KnownArePassedOver}
use Rattle.frames.specs.Spans.{with_byte}
use Rattle.frames.specs.Taken.{has_firm_inside, is_firm, is_sure}
use Rattle.frames.specs.declared.span.Span.{Span}
use Rattle.frames.specs.declared.span.Span.TheVariants.{Frame, Bytes}

-- A message that is taken is complete.
anywhere_complete : (sees : Sees) (xs : List ℕ) → is_taken_anywhere sees xs ≡ true → is_complete xs ≡ true
anywhere_complete sees xs taken = by (or_cases (is_sent_at sees xs) (is_sure (is_known_at sees) xs) taken)
  where
    by : (is_sent_at sees xs ≡ true) ⊎ (is_sure (is_known_at sees) xs ≡ true) → is_complete xs ≡ true
    by (inl sent) = (and_parts (is_complete xs) _ sent).0
    by (inr sure) = (and_parts (is_complete xs) _ (and_parts (is_known_at sees xs) _ sure).0).0

taken_complete : (sees : Sees) (astray : Bool) (xs : List ℕ) → is_taken sees astray xs ≡ true → is_complete xs ≡ true
taken_complete sees true xs taken = anywhere_complete sees xs taken
taken_complete sees false xs taken = by (or_cases (is_taken_anywhere sees xs) (is_kept sees xs) taken)
  where
    by : (is_taken_anywhere sees xs ≡ true) ⊎ (is_kept sees xs ≡ true) → is_complete xs ≡ true
    by (inl anywhere) = anywhere_complete sees xs anywhere
    by (inr kept) = (and_parts (is_complete xs) _ kept).0

-- It has as many bytes as its length says.
taken_size : (xs : List ℕ) → is_complete xs ≡ true → length (message_bytes (frame_in xs)) ≡ frame_size xs
taken_size xs is =
    let c = complete xs is in
    let fits = c.fits in
    let left = length-drop 11 xs in
    let long = length-take-le (length_in xs) (drop 11 xs) (omega (arith, left, fits)) in
    let bytes_of : length (message_bytes (frame_in xs)) ≡ 11 + length (frame_in xs).payload = omega arith in
    omega (arith, bytes_of, long)

-- A known message that is not taken is not firm, and a firm one begins inside it.
not_anywhere : (sees : Sees) (xs : List ℕ) → is_taken_anywhere sees xs ≡ false → is_known_at sees xs ≡ true
    → (is_firm (is_known_at sees) xs ≡ false) × (has_firm_inside (is_known_at sees) xs ≡ true)
not_anywhere sees xs none known =
    by (and_cases (is_known_at sees xs) _ (or_parts (is_sent_at sees xs) (is_sure (is_known_at sees) xs) none).1)
  where
    by : (is_known_at sees xs ≡ false)
        ⊎ ((is_firm (is_known_at sees) xs || not (has_firm_inside (is_known_at sees) xs)) ≡ false)
        → (is_firm (is_known_at sees) xs ≡ false) × (has_firm_inside (is_known_at sees) xs ≡ true)
    by (inl unknown) = absurd (not_both (is_known_at sees xs) known unknown)
    by (inr neither) =
        let parts = or_parts (is_firm (is_known_at sees) xs) (not (has_firm_inside (is_known_at sees) xs)) neither in
        (parts.0, not-false (has_firm_inside (is_known_at sees) xs) parts.1)

not_taken : (sees : Sees) (astray : Bool) (xs : List ℕ) → is_taken sees astray xs ≡ false → is_known_at sees xs ≡ true
    → (is_firm (is_known_at sees) xs ≡ false) × (has_firm_inside (is_known_at sees) xs ≡ true)
not_taken sees true xs none known = not_anywhere sees xs none known
not_taken sees false xs none known =
    not_anywhere sees xs (or_parts (is_taken_anywhere sees xs) (is_kept sees xs) none).0 known

-- A byte that is passed over changes nothing of the messages after it.
taken_on : (at offset : ℕ) (spans : List Span) → IsTakenAt at spans → IsTakenAt at (with_byte offset spans)
taken_on at offset [] is = is
taken_on at offset (Frame place message ∷ spans) is = is
taken_on at offset (Bytes place count ∷ spans) is = is

inside_on : (at offset : ℕ) (spans : List Span) → IsInside at spans → IsInside at (with_byte offset spans)
inside_on at offset [] is = is
inside_on at offset (Frame place message ∷ spans) is = is
inside_on at offset (Bytes place count ∷ spans) is = is

-- What may be of a known message at a place of bytes.
abbrev Cases : Sees → ℕ → List ℕ → List Span → Type 0
Cases sees at xs spans =
    IsTakenAt at spans
    ⊎ (IsInside at spans
    ⊎ ((is_firm (is_known_at sees) xs ≡ false) × (has_firm_inside (is_known_at sees) xs ≡ true)))

known_after : (sees : Sees) (astray : Bool) (n offset k : ℕ) (bytes : List ℕ) → n ≤ k → k < length bytes
    → is_known_at sees (drop k bytes) ≡ true
    → Cases sees (offset + k) (drop k bytes) (spans_after sees astray n offset bytes)
known_after sees astray n offset k [] past less known = absurd (omega (arith, less))
known_after sees astray (suc n) offset zero (b ∷ bytes) past less known = absurd (omega (arith, past))
known_after sees astray (suc n) offset (suc k) (b ∷ bytes) past less known =
    let e : offset + 1 + k ≡ offset + suc k = omega arith in
    subst (λ (at : ℕ). Cases sees at (drop k bytes) (spans_after sees astray n (offset + 1) bytes)) e
    (known_after sees astray n (offset + 1) k bytes (omega (arith, past)) (omega (arith, less)) known)
known_after sees astray zero offset zero (b ∷ bytes) past less known =
    here (is_taken sees astray (b ∷ bytes)) refl
  where
    here : (t : Bool) → is_taken sees astray (b ∷ bytes) ≡ t
        → Cases sees (offset + 0) (b ∷ bytes) (by_first sees offset b bytes t)
    here true taken = inl (inl (let e : offset ≡ offset + 0 = omega arith in e))
    here false none = inr (inr (not_taken sees astray (b ∷ bytes) none known))
known_after sees astray zero offset (suc k) (b ∷ bytes) past less known =
    by
    (λ beyond. known_after sees false (frame_size (b ∷ bytes) - 1) (offset + 1) k bytes beyond
    (omega (arith, less)) known)
    (known_after sees true zero (offset + 1) k bytes (omega arith) (omega (arith, less)) known)
    (is_taken sees astray (b ∷ bytes)) refl
  where
    place : offset + 1 + k ≡ offset + suc k
    place = omega arith

    later : Cases sees (offset + 1 + k) (drop k bytes)
        (spans_after sees false (frame_size (b ∷ bytes) - 1) (offset + 1) bytes)
        → Cases sees (offset + suc k) (drop k bytes) (by_first sees offset b bytes true)
    later (inl taken) =
        inl (inr (subst (λ (at : ℕ). IsTakenAt at
        (spans_after sees false (frame_size (b ∷ bytes) - 1) (offset + 1) bytes)) place taken))
    later (inr (inl inside)) =
        inr (inl (inr (subst (λ (at : ℕ). IsInside at
        (spans_after sees false (frame_size (b ∷ bytes) - 1) (offset + 1) bytes)) place inside)))
    later (inr (inr neither)) = inr (inr neither)

    behind : Cases sees (offset + 1 + k) (drop k bytes) (spans_after sees true zero (offset + 1) bytes)
        → Cases sees (offset + suc k) (drop k bytes) (by_first sees offset b bytes false)
    behind (inl taken) =
        inl (taken_on (offset + suc k) offset (spans_after sees true zero (offset + 1) bytes)
        (subst (λ (at : ℕ). IsTakenAt at (spans_after sees true zero (offset + 1) bytes)) place taken))
    behind (inr (inl inside)) =
        inr (inl (inside_on (offset + suc k) offset (spans_after sees true zero (offset + 1) bytes)
        (subst (λ (at : ℕ). IsInside at (spans_after sees true zero (offset + 1) bytes)) place inside)))
    behind (inr (inr neither)) = inr (inr neither)

    by : (frame_size (b ∷ bytes) - 1 ≤ k
        → Cases sees (offset + 1 + k) (drop k bytes)
        (spans_after sees false (frame_size (b ∷ bytes) - 1) (offset + 1) bytes))
        → Cases sees (offset + 1 + k) (drop k bytes) (spans_after sees true zero (offset + 1) bytes)
        → (t : Bool) → is_taken sees astray (b ∷ bytes) ≡ t
        → Cases sees (offset + suc k) (drop k bytes) (by_first sees offset b bytes t)
    by ahead aside false none = behind aside
    by ahead aside true taken =
        elim (cases_lt (suc k) (frame_size (b ∷ bytes))) [
          | inl within ↦
              let long = taken_size (b ∷ bytes) (taken_complete sees astray (b ∷ bytes) taken) in
              inr (inl (inl (omega arith, omega (arith, within, long))))
          | inr beyond ↦ later (ahead (omega (arith, beyond)))
        ]

pub known_passed_over : KnownArePassedOver
known_passed_over = λ sees offset k bytes less known.
    known_after sees false zero offset k bytes (omega arith) less known

-- A message that is taken is firm, where a firm one begins inside it and none is known by its number.
anywhere_firm : (sees : Sees) (xs : List ℕ) → ((message : Message) → is_same (sees message) ≡ false)
    → is_taken_anywhere sees xs ≡ true → has_firm_inside (is_known_at sees) xs ≡ true
    → is_firm (is_known_at sees) xs ≡ true
anywhere_firm sees xs none taken inside = by (or_cases (is_sent_at sees xs) (is_sure (is_known_at sees) xs) taken)
  where
    firm : (is_firm (is_known_at sees) xs ≡ true) ⊎ (not (has_firm_inside (is_known_at sees) xs) ≡ true)
        → is_firm (is_known_at sees) xs ≡ true
    firm (inl is) = is
    firm (inr clear) = absurd (not_both (not (has_firm_inside (is_known_at sees) xs)) clear (ap not inside))

    by : (is_sent_at sees xs ≡ true) ⊎ (is_sure (is_known_at sees) xs ≡ true) → is_firm (is_known_at sees) xs ≡ true
    by (inl sent) =
        absurd (not_both (is_same (sees (frame_in xs))) (and_parts (is_complete xs) _ sent).1 (none (frame_in xs)))
    by (inr sure) =
        firm (or_cases (is_firm (is_known_at sees) xs) (not (has_firm_inside (is_known_at sees) xs))
        (and_parts (is_known_at sees xs) _ sure).1)

taken_firm : (sees : Sees) (astray : Bool) (xs : List ℕ) → ((message : Message) → is_same (sees message) ≡ false)
    → is_taken sees astray xs ≡ true → has_firm_inside (is_known_at sees) xs ≡ true
    → is_firm (is_known_at sees) xs ≡ true
taken_firm sees true xs none taken inside = anywhere_firm sees xs none taken inside
taken_firm sees false xs none taken inside = by (or_cases (is_taken_anywhere sees xs) (is_kept sees xs) taken)
  where
    by : (is_taken_anywhere sees xs ≡ true) ⊎ (is_kept sees xs ≡ true) → is_firm (is_known_at sees) xs ≡ true
    by (inl anywhere) = anywhere_firm sees xs none anywhere inside
    by (inr kept) =
        absurd (not_both (is_clear sees xs)
        (and_parts (is_clear sees xs) _ (and_parts (is_complete xs) _ kept).1).0 (ap not inside))

abbrev FirmCases : Sees → ℕ → ℕ → List ℕ → List Span → Type 0
FirmCases sees offset k bytes spans = IsTakenAt (offset + k) spans ⊎ IsInsideFirm sees offset k bytes spans

module _ (sees : Sees) (none : (message : Message) → is_same (sees message) ≡ false) where
  -- One byte further in front.
  shifted : (offset k b : ℕ) (bytes : List ℕ) (spans wider : List Span)
      → ((at : ℕ) → IsTakenAt at spans → IsTakenAt at wider) → FirmCases sees (offset + 1) k bytes spans
      → FirmCases sees offset (suc k) (b ∷ bytes) wider
  shifted offset k b bytes spans wider on (inl taken) =
      let e : offset + 1 + k ≡ offset + suc k = omega arith in
      inl (subst (λ (at : ℕ). IsTakenAt at wider) e (on (offset + 1 + k) taken))
  shifted offset k b bytes spans wider on (inr (j, before, within, taken, firm)) =
      let e : offset + 1 + j ≡ offset + suc j = omega arith in
      inr (
        suc j,
        omega (arith, before),
        omega (arith, within),
        subst (λ (at : ℕ). IsTakenAt at wider) e (on (offset + 1 + j) taken),
        firm,
      )

  firm_after : (astray : Bool) (n offset k : ℕ) (bytes : List ℕ) → n ≤ k → k < length bytes
      → is_firm (is_known_at sees) (drop k bytes) ≡ true
      → FirmCases sees offset k bytes (spans_after sees astray n offset bytes)
  firm_after astray n offset k [] past less firm = absurd (omega (arith, less))
  firm_after astray (suc n) offset zero (b ∷ bytes) past less firm = absurd (omega (arith, past))
  firm_after astray (suc n) offset (suc k) (b ∷ bytes) past less firm =
      shifted offset k b bytes (spans_after sees astray n (offset + 1) bytes)
      (spans_after sees astray n (offset + 1) bytes) (λ at is. is)
      (firm_after astray n (offset + 1) k bytes (omega (arith, past)) (omega (arith, less)) firm)
  firm_after astray zero offset zero (b ∷ bytes) past less firm = here (is_taken sees astray (b ∷ bytes)) refl
    where
      here : (t : Bool) → is_taken sees astray (b ∷ bytes) ≡ t
          → FirmCases sees offset 0 (b ∷ bytes) (by_first sees offset b bytes t)
      here true taken = inl (inl (let e : offset ≡ offset + 0 = omega arith in e))
      here false untaken =
          let known = (and_parts (is_known_at sees (b ∷ bytes)) _ firm).0 in
          absurd (not_both (is_firm (is_known_at sees) (b ∷ bytes)) firm
          (not_taken sees astray (b ∷ bytes) untaken known).0)
  firm_after astray zero offset (suc k) (b ∷ bytes) past less firm =
      by
      (λ beyond. firm_after false (frame_size (b ∷ bytes) - 1) (offset + 1) k bytes beyond (omega (arith, less)) firm)
      (firm_after true zero (offset + 1) k bytes (omega arith) (omega (arith, less)) firm)
      (is_taken sees astray (b ∷ bytes)) refl
    where
      by : (frame_size (b ∷ bytes) - 1 ≤ k
          → FirmCases sees (offset + 1) k bytes
          (spans_after sees false (frame_size (b ∷ bytes) - 1) (offset + 1) bytes))
          → FirmCases sees (offset + 1) k bytes (spans_after sees true zero (offset + 1) bytes)
          → (t : Bool) → is_taken sees astray (b ∷ bytes) ≡ t
          → FirmCases sees offset (suc k) (b ∷ bytes) (by_first sees offset b bytes t)
      by ahead aside false untaken =
          shifted offset k b bytes (spans_after sees true zero (offset + 1) bytes)
          (with_byte offset (spans_after sees true zero (offset + 1) bytes))
          (λ at is. taken_on at offset (spans_after sees true zero (offset + 1) bytes) is) aside
      by ahead aside true taken =
          elim (cases_lt (suc k) (frame_size (b ∷ bytes))) [
            | inl within ↦
                let inside = inside-here (is_known_at sees) (suc k) (b ∷ bytes) (omega arith) within firm in
                inr (
                  0,
                  omega arith,
                  omega (arith, within),
                  inl (let e : offset ≡ offset + 0 = omega arith in e),
                  taken_firm sees astray (b ∷ bytes) none taken inside,
                )
            | inr beyond ↦
                shifted offset k b bytes (spans_after sees false (frame_size (b ∷ bytes) - 1) (offset + 1) bytes)
                (by_first sees offset b bytes true) (λ at is. inr is) (ahead (omega (arith, beyond)))
          ]

pub firm_passed_over : FirmArePassedOver
firm_passed_over = λ sees offset k bytes none less firm.
    firm_after sees none false zero offset k bytes (omega arith) less firm
