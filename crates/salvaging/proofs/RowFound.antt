-- The row of a number, by a search among rows from the greatest number on.
use Rattle.std.proofs.Common.{◌≡◌, ◌⊎◌, inl, inr, ℕ, zero, suc, ◌+◌, ◌<◌, ◌≤◌, ◌++◌, true, false, Contains, List}
use Rattle.std.proofs.Common.{[], ◌∷◌, get_or, length, refl, sym, ap, subst, ◌∙◌, arith}
use Rattle.std.specs.Prelude.{nat_lt}
use Rattle.std.proofs.lemmas.Bool.{cases_lt, lt-ltb, ltb-true, ltb-false}
use Rattle.std.proofs.lemmas.List.{length_push}
use Rattle.losses.specs.Apart.{AreRising}
use Rattle.salvaging.specs.Treatments.{Row}
use Rattle.salvaging.specs.declared.rows.NumberRow.{NumberRow}
use Rattle.salvaging.specs.steps.Rows.{AreRowsBack, numbers_in, row_by}
use Rattle.salvaging.proofs.Members.{IsIn, contains_of_in, in_of_contains}

-- Of a list with one more at its end.
front_at : (front : List NumberRow) (last : NumberRow) (k : ℕ) (d : NumberRow) → k < length front
    → get_or (front ++ last ∷ []) k d ≡ get_or front k d
front_at [] last k d within = absurd (omega (arith, within))
front_at (one ∷ front) last zero d within = refl
front_at (one ∷ front) last (suc k) d within = front_at front last k d (omega (arith, within))

last_at : (front : List NumberRow) (last : NumberRow) (d : NumberRow)
    → get_or (front ++ last ∷ []) (length front) d ≡ last
last_at [] last d = refl
last_at (one ∷ front) last d = last_at front last d

-- A place of such a list is one of the front, or the last.
place_of : (front found : List NumberRow) (last : NumberRow) (k : ℕ) → found ≡ front ++ last ∷ [] → k < length found
    → (k < length front) ⊎ (k ≡ length front)
place_of front found last k is within = by_place (cases_lt k (length front))
  where
    by_place : (k < length front) ⊎ (length front ≤ k) → (k < length front) ⊎ (k ≡ length front)
    by_place (inl below) = inl below
    by_place (inr over) =
        let long = ap length is ∙ length_push front last in inr (omega (arith, over, within, long))

-- Each of the rows is one of these.
in_rows : (all : List Row) (found : List NumberRow) (k : ℕ) (d : NumberRow) → AreRowsBack all found → k < length found
    → IsIn (row_by (get_or found k d)) all
in_rows [] found k d none within =
    let short = ap length none in absurd (omega (arith, within, short))
in_rows (row ∷ all) found k d (front, last, is, same, back) within =
    by_place (place_of front found last k is within) (λ below. in_rows all front k d back below)
  where
    by_place : (k < length front) ⊎ (k ≡ length front) → (k < length front → IsIn (row_by (get_or front k d)) all)
        → IsIn (row_by (get_or found k d)) (row ∷ all)
    by_place (inl below) later =
        inr (subst (λ r. IsIn (row_by r) all) (sym (front_at front last k d below) ∙ sym (ap (λ l. get_or l k d) is))
        (later below))
    by_place (inr end) later =
        inl (ap row_by (ap (λ l. get_or l k d) is ∙ ap (λ n. get_or (front ++ last ∷ []) n d) end ∙ last_at front last d)
        ∙ same)

-- Each of these stands somewhere.
pub record RowStands (found : List NumberRow) (row : Row) : Type 0 where
  pub at : ℕ
  pub within : at < length found
  pub here : (d : NumberRow) → row_by (get_or found at d) ≡ row

row_stands : (all : List Row) (found : List NumberRow) (row : Row) → AreRowsBack all found → IsIn row all
    → RowStands found row
row_stands [] found row none there = absurd there
row_stands (first ∷ all) found row (front, last, is, same, back) (inl here) =
    let long = ap length is ∙ length_push front last in
    record {
      at = length front;
      within = omega (arith, long);
      here = λ d. ap row_by (ap (λ l. get_or l (length front) d) is ∙ last_at front last d) ∙ same ∙ sym here;
    }
row_stands (first ∷ all) found row (front, last, is, same, back) (inr there) =
    let later = row_stands all front row back there in
    let within = later.within in
    let long = ap length is ∙ length_push front last in
    record {
      at = later.at;
      within = omega (arith, within, long);
      here = λ d. ap row_by (ap (λ l. get_or l later.at d) is ∙ front_at front last later.at d later.within)
          ∙ later.here d;
    }

-- No number is below the first.
no_lower : (from : ℕ) (all : List Row) (found : List NumberRow) (k : ℕ) (d : NumberRow) → AreRowsBack all found
    → AreRising from (numbers_in all) → k < length found → from ≤ (get_or found k d).number
no_lower from [] found k d none rising within =
    let short = ap length none in absurd (omega (arith, within, short))
no_lower from (row ∷ all) found k d (front, last, is, same, back) (low, rising) within =
    by_place (place_of front found last k is within)
    (λ below. no_lower (row.number + 1) all front k d back rising below)
  where
    by_place : (k < length front) ⊎ (k ≡ length front) → (k < length front → row.number + 1 ≤ (get_or front k d).number)
        → from ≤ (get_or found k d).number
    by_place (inl below) later =
        let more = later below in
        let here : (get_or found k d).number ≡ (get_or front k d).number =
        ap (λ (r : NumberRow). r.number) (ap (λ l. get_or l k d) is ∙ front_at front last k d below) in
        omega (arith, low, more, here)
    by_place (inr end) later =
        let here : (get_or found k d).number ≡ row.number =
        ap (λ (r : NumberRow). r.number) (ap (λ l. get_or l k d) is ∙ ap (λ n. get_or (front ++ last ∷ []) n d) end
        ∙ last_at front last d) ∙ ap (λ (r : Row). r.number) same in
        omega (arith, low, here)

-- The numbers fall.
falls : (from : ℕ) (all : List Row) (found : List NumberRow) (i j : ℕ) (d : NumberRow) → AreRowsBack all found
    → AreRising from (numbers_in all) → i < j → j < length found
    → (get_or found j d).number < (get_or found i d).number
falls from [] found i j d none rising before within =
    let short = ap length none in absurd (omega (arith, within, short))
falls from (row ∷ all) found i j d (front, last, is, same, back) (low, rising) before within =
    by_place (place_of front found last j is within)
    (λ below. falls (row.number + 1) all front i j d back rising before below)
  where
    at_front : (k : ℕ) → k < length front → (get_or found k d).number ≡ (get_or front k d).number
    at_front k below =
        ap (λ (r : NumberRow). r.number) (ap (λ l. get_or l k d) is ∙ front_at front last k d below)

    by_place : (j < length front) ⊎ (j ≡ length front)
        → (j < length front → (get_or front j d).number < (get_or front i d).number)
        → (get_or found j d).number < (get_or found i d).number
    by_place (inl below) later =
        let more = later below in
        let one = at_front j below in
        let other = at_front i (omega (arith, before, below)) in
        omega (arith, more, one, other)
    by_place (inr end) later =
        let sooner : i < length front = omega (arith, before, end) in
        let more = no_lower (row.number + 1) all front i d back rising sooner in
        let other = at_front i sooner in
        let here : (get_or found j d).number ≡ row.number =
        ap (λ (r : NumberRow). r.number) (ap (λ l. get_or l j d) is ∙ ap (λ n. get_or (front ++ last ∷ []) n d) end
        ∙ last_at front last d) ∙ ap (λ (r : Row). r.number) same in
        omega (arith, more, other, here)

module _ (all : List Row) (found : List NumberRow) (number : ℕ) (back : AreRowsBack all found)
    (rising : AreRising 0 (numbers_in all)) where
  -- Those before a greater one are greater.
  pub rows_parted : (i j : ℕ) (d : NumberRow) → i ≤ j → j < length found
      → nat_lt number (get_or found j d).number ≡ true → nat_lt number (get_or found i d).number ≡ true
  rows_parted i j d upto within test = by_place (cases_lt i j)
    where
      by_place : (i < j) ⊎ (j ≤ i) → nat_lt number (get_or found i d).number ≡ true
      by_place (inl before) =
          let fall = falls 0 all found i j d back rising before within in
          let above = ltb-true number (get_or found j d).number test in
          lt-ltb number (get_or found i d).number (omega (arith, fall, above))
      by_place (inr over) =
          let same : j ≡ i = omega (arith, upto, over) in
          subst (λ k. nat_lt number (get_or found k d).number ≡ true) same test

  module _ (i : ℕ) (before : (k : ℕ) (d : NumberRow) → k < i → nat_lt number (get_or found k d).number ≡ true)
      (behind : (k : ℕ) (d : NumberRow) → i ≤ k → k < length found → nat_lt number (get_or found k d).number ≡ false)
      (row : Row) (there : Contains all row) (is : row.number ≡ number) where
    not_sooner : (k : ℕ) (d : NumberRow) → (get_or found k d).number ≡ number → i ≤ k
    not_sooner k d here = by_side (cases_lt k i)
      where
        by_side : (k < i) ⊎ (i ≤ k) → i ≤ k
        by_side (inr fine) = fine
        by_side (inl sooner) =
            let above = ltb-true number (get_or found k d).number (before k d sooner) in
            absurd (omega (arith, above, here))

    -- There is a row at the place that is found.
    pub row_within : i < length found
    row_within =
        let s = row_stands all found row back (in_of_contains all row there) in
        by_found found s.at s.within (λ d. not_sooner s.at d (ap (λ (r : Row). r.number) (s.here d) ∙ is))
      where
        by_found : (rs : List NumberRow) (at : ℕ) → at < length rs → ((d : NumberRow) → i ≤ at) → i < length rs
        by_found [] at within over = absurd (omega (arith, within))
        by_found (one ∷ rs) at within over = let sooner = over one in omega (arith, within, sooner)

    same_number : (k : ℕ) (d : NumberRow) → (get_or found k d).number ≡ number → i ≤ k → k < length found
        → (get_or found i d).number ≤ number → (i < k) ⊎ (k ≤ i) → (get_or found i d).number ≡ number
    same_number k d here over inside low (inl sooner) =
        let fall = falls 0 all found i k d back rising sooner inside in omega (arith, fall, here, low)
    same_number k d here over inside low (inr under) =
        let same : k ≡ i = omega (arith, over, under) in
        subst (λ n. (get_or found n d).number ≡ number) same here

    -- It is that of the number.
    pub row_found : (d : NumberRow) → Contains all (record { number = number; treated = (get_or found i d).treated })
    row_found d =
        let s = row_stands all found row back (in_of_contains all row there) in
        let here : (get_or found s.at d).number ≡ number = ap (λ (r : Row). r.number) (s.here d) ∙ is in
        let over : i ≤ s.at = not_sooner s.at d here in
        let low = ltb-false number (get_or found i d).number (behind i d (omega arith) row_within) in
        let same = same_number s.at d here over s.within low (cases_lt i s.at) in
        subst (λ n. Contains all (record { number = n; treated = (get_or found i d).treated })) same
        (contains_of_in all (row_by (get_or found i d)) (in_rows all found i d back row_within))
