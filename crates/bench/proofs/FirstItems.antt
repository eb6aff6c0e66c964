-- The first items of a list.
use Rattle.std.proofs.Common.{◌≡◌, ℕ, zero, suc, List, [], ◌∷◌, ◌++◌, Some, length, take, slice_get, refl}

module _ {X : Type 0} where
  -- Where a list is the first items of another, so is its front.
  pub take-front : (front rest items : List X) (n : ℕ) → front ++ rest ≡ take n items
      → front ≡ take (length front) items
  take-front [] rest items n first = refl
  take-front (x ∷ front) rest items zero first = cc
  take-front (x ∷ front) rest [] (suc n) first = cc
  take-front (x ∷ front) rest (y ∷ items) (suc n) first =
      let head : x ≡ y = cc in
      let tail : front ++ rest ≡ take n items = cc in
      let more : front ≡ take (length front) items = take-front front rest items n tail in
      cc

  -- Where a list and an item behind it are the first items of another, the item stands there behind so many.
  pub take-last : (front : List X) (item : X) (items : List X) (n : ℕ) → front ++ item ∷ [] ≡ take n items
      → slice_get items (length front) ≡ Some item
  take-last [] item items zero first = cc
  take-last [] item [] (suc n) first = cc
  take-last [] item (y ∷ items) (suc n) first = cc
  take-last (x ∷ front) item items zero first = cc
  take-last (x ∷ front) item [] (suc n) first = cc
  take-last (x ∷ front) item (y ∷ items) (suc n) first =
      let tail : front ++ item ∷ [] ≡ take n items = cc in
      take-last front item items n tail
