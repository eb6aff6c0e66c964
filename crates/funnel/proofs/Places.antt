-- What stands at a place of a list that another list, or one element, stands behind.
use Rattle.std.proofs.Common.{◌≡◌, ◌⊎◌, inl, inr, ⊎_elim, ℕ, zero, suc, List, [], ◌∷◌, ◌++◌, Some, length, get_or}
use Rattle.std.proofs.Common.{replicate, slice_get, refl, sym, ap}
use mathlib.Core.Option.{some, some-ne-none}
use lib.ListN.{get_elem?}
use Rattle.std.proofs.lemmas.Option.{same_Some}

-- What stands at a place still stands there with more behind it.
pub slice_get-front : {X : Type 0} (front more : List X) (n : ℕ) (x : X) → slice_get front n ≡ Some x
    → slice_get (front ++ more) n ≡ Some x
slice_get-front [] more n x is = cc
slice_get-front (a ∷ front) more zero x is = is
slice_get-front (a ∷ front) more (suc n) x is = slice_get-front front more n x is

-- With one element more, what stands at a place stood there before, or is that element.
pub slice_get-next : {X : Type 0} (front : List X) (last : X) (n : ℕ) (x : X)
    → slice_get (front ++ last ∷ []) n ≡ Some x
    → (slice_get front n ≡ Some x) ⊎ ((n ≡ length front) × (last ≡ x))
slice_get-next [] last zero x is = inr (refl, same_Some last x is)
slice_get-next [] last (suc n) x is = cc
slice_get-next (a ∷ front) last zero x is = inl is
slice_get-next (a ∷ front) last (suc n) x is = behind (slice_get-next front last n x is)
  where
    behind : (slice_get front n ≡ Some x) ⊎ ((n ≡ length front) × (last ≡ x))
        → (slice_get front n ≡ Some x) ⊎ ((suc n ≡ suc (length front)) × (last ≡ x))
    behind (inl before) = inl before
    behind (inr here) = inr (ap suc here.0, here.1)

-- With one element more, what stands at a place stood there before, or is that element.
pub get_elem-next : {X : Type 0} (front : List X) (last x : X) (n : ℕ) → get_elem? (front ++ last ∷ []) n ≡ some x
    → (get_elem? front n ≡ some x) ⊎ ((n ≡ length front) × (last ≡ x))
get_elem-next [] last x zero is = inr (refl, cc)
get_elem-next [] last x (suc n) is = absurd (some-ne-none x (sym is))
get_elem-next (a ∷ front) last x zero is = inl is
get_elem-next (a ∷ front) last x (suc n) is =
    ⊎_elim (λ t. inl t) (λ (t : (n ≡ length front) × (last ≡ x)). inr (ap suc t.0, t.1))
    (get_elem-next front last x n is)

-- Each element of a list of one value repeated is that value, and so is what is read behind it.
pub get_or-repeated : {X : Type 0} (count n : ℕ) (x : X) → get_or (replicate count x) n x ≡ x
get_or-repeated zero n x = refl
get_or-repeated (suc count) zero x = refl
get_or-repeated (suc count) (suc n) x = get_or-repeated count n x
