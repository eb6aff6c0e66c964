-- Two lists side by side, item by item.
use Rattle.std.proofs.Common.{◌≡◌, ◌∙◌, ◌+◌, ◌<◌, ◌≤◌, ◌++◌, ℕ, zero, suc, List, [], ◌∷◌, ap, arith, get_or}
use Rattle.std.proofs.Common.{length, map, take}
use Rattle.std.proofs.lemmas.List.{map_push, take_all, take_more}
use Rattle.std.proofs.lemmas.Slice.Zip.{get_or-zip}
use Rattle.std.specs.Prelude.{min}
use Rattle.std.specs.List.{zip}

module _ {A B : Type 0} where
  pair_inside : (xs : List A) (ys : List B) (i : ℕ) → i < length xs → i < length ys → i < length (zip xs ys)
  pair_inside [] ys i first second = absurd (omega (arith, first))
  pair_inside (x ∷ xs) [] i first second = absurd (omega (arith, second))
  pair_inside (x ∷ xs) (y ∷ ys) zero first second = omega arith
  pair_inside (x ∷ xs) (y ∷ ys) (suc i) first second =
      omega (arith, pair_inside xs ys i (omega (arith, first)) (omega (arith, second)))

  pairs_first : (xs : List A) (ys : List B) → length (zip xs ys) ≤ length xs
  pairs_first [] ys = omega arith
  pairs_first (x ∷ xs) [] = omega arith
  pairs_first (x ∷ xs) (y ∷ ys) = omega (arith, pairs_first xs ys)

  pairs_second : (xs : List A) (ys : List B) → length (zip xs ys) ≤ length ys
  pairs_second [] ys = omega arith
  pairs_second (x ∷ xs) [] = omega arith
  pairs_second (x ∷ xs) (y ∷ ys) = omega (arith, pairs_second xs ys)

  module _ (xs : List A) (ys : List B) (i : ℕ) (x : A) (y : B) (first : i < length xs) (second : i < length ys) where
    -- The first pairs and one more.
    pub next_pair : take (i + 1) (zip xs ys) ≡ take i (zip xs ys) ++ (get_or xs i x, get_or ys i y) ∷ []
    next_pair =
        take_more (zip xs ys) i (x, y) (pair_inside xs ys i first second)
        ∙ ap (λ pair. take i (zip xs ys) ++ pair ∷ []) (get_or-zip xs ys i (x, y) first second)

    -- What is made of them.
    pub one_more : {C : Type 0} (f : A × B → C) → map f (take (i + 1) (zip xs ys))
        ≡ map f (take i (zip xs ys)) ++ f (get_or xs i x, get_or ys i y) ∷ []
    one_more f = ap (map f) next_pair ∙ map_push f (take i (zip xs ys)) (get_or xs i x, get_or ys i y)

  -- All pairs.
  pub all_within : (xs : List A) (ys : List B) (i : ℕ) → i ≡ min (length xs) (length ys) → take i (zip xs ys) ≡ zip xs ys
  all_within xs ys i end = take_all i (zip xs ys) (omega (arith, end, pairs_first xs ys, pairs_second xs ys))
