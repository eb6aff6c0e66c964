-- What stands at a place of a list.
use Rattle.std.proofs.Common.{◌≡◌, ◌<◌, ℕ, zero, suc, All, List, [], ◌∷◌, ◌++◌, Some, length, slice_get, refl, subst}
use Rattle.std.proofs.Common.{arith}
use Rattle.std.proofs.lemmas.List.Elements.{All-get_or}
use Rattle.std.proofs.lemmas.Option.{slice_get_within, get_or_from_slice_get}

-- What holds of each element holds of the one at a place.
pub All-slice_get : {X : Type 0} (P : X → Type 0) (xs : List X) (n : ℕ) (x : X) → slice_get xs n ≡ Some x → All P xs
    → P x
All-slice_get P xs n x at all =
    subst P (get_or_from_slice_get xs n x x at) (All-get_or P xs n x (slice_get_within xs n x at) all)

-- What stands right behind a list.
pub slice_get-behind : {X : Type 0} (front : List X) (x : X) (more : List X)
    → slice_get (front ++ x ∷ more) (length front) ≡ Some x
slice_get-behind [] x more = refl
slice_get-behind (a ∷ front) x more = slice_get-behind front x more

-- Each place within a list has something.
pub slice_get-some : {X : Type 0} (xs : List X) (n : ℕ) → n < length xs → (x : X) × (slice_get xs n ≡ Some x)
slice_get-some [] n within = absurd (omega arith)
slice_get-some (x ∷ xs) zero within = (x, refl)
slice_get-some (x ∷ xs) (suc n) within = slice_get-some xs n (omega arith)
