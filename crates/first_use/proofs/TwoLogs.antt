-- What holds of both items of a list of two holds of each.
use Rattle.std.proofs.Common.{◌≡◌, zero, suc, All, List, length, get_or, sym, subst, arith}
use Rattle.std.proofs.lemmas.Option.{get_or_from_slice_get, slice_get-get_or}

pub all_of_two : {A : Type 0} (P : A → Type 0) (xs : List A) (a b : A) → length xs ≡ 2
    → P (get_or xs 0 a) → P (get_or xs 1 b) → All P xs
all_of_two P xs a b two first second zero d within =
    subst P (sym (get_or_from_slice_get xs 0 _ d (slice_get-get_or xs 0 a within))) first
all_of_two P xs a b two first second (suc zero) d within =
    subst P (sym (get_or_from_slice_get xs 1 _ d (slice_get-get_or xs 1 b within))) second
all_of_two P xs a b two first second (suc (suc k)) d within = absurd (omega (arith, two, within))
