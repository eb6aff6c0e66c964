-- Lists whose members belong together, place by place.
use Rattle.std.proofs.Common.{◌≡◌, ℕ, ◌+◌, List, [], ◌∷◌, ◌++◌, length, get_or, arith, subst, sym, ⊎_elim}
use Rattle.std.proofs.lemmas.Bool.{cases_lt}
use Rattle.std.proofs.lemmas.List.{get_or_append_left, get_or_push}
use Rattle.side_by_side.specs.Places.{HoldsBelow}

-- One member more belongs to the one at its place.
pub holds_more : {A B : Type 0} (R : ℕ → A → B → Type 0) (xs : List A) (ys : List B) (y : B) (i : ℕ) → length ys ≡ i
    → HoldsBelow R i xs ys → ((a : A) → R i (get_or xs i a) y) → HoldsBelow R (i + 1) xs (ys ++ y ∷ [])
holds_more R xs ys y i long before here place a b within =
    ⊎_elim
    (λ old. subst (R place (get_or xs place a)) (sym (get_or_append_left ys (y ∷ []) b place (omega arith)))
    (before place a b old))
    (λ last. let is : i ≡ place = omega arith in
    subst (λ place. R place (get_or xs place a) (get_or (ys ++ y ∷ []) place b)) is
    (subst (R i (get_or xs i a)) (sym (get_or_push ys y b i long)) (here a)))
    (cases_lt place i)
