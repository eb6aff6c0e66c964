-- Which elements a list contains, by recursion over it.
use Rattle.std.proofs.Common.{◌≡◌, ◌⊎◌, inl, inr, ℕ, suc, ◌++◌, List, [], ◌∷◌, All, Contains, length, refl, sym}
use Rattle.std.proofs.Common.{subst, ◌∙◌, arith}
use Rattle.std.proofs.lemmas.List.Elements.{All-contains, All-cons, All-nil, All-weaker, Contains-append_right}
use Rattle.std.proofs.lemmas.List.Elements.{Contains-append_left, Contains-push}
use Rattle.losses.specs.WholeStretches.{NumberCame}

-- A list with an item at its end is not empty.
pub no_item : {X : Type 0} (xs : List X) (x : X) → ¬ (xs ++ x ∷ [] ≡ [])
no_item [] x is = cc
no_item (y ∷ xs) x is = cc

-- It is one of these.
abbrev pub IsIn : {X : Type 0} → X → List X → Type 0
IsIn x [] = ⊥
IsIn x (y ∷ ys) = (x ≡ y) ⊎ IsIn x ys

pub all_in : {X : Type 0} (xs : List X) → All (λ x. IsIn x xs) xs
all_in [] = All-nil (λ x. IsIn x [])
all_in (x ∷ xs) =
    All-cons (λ y. IsIn y (x ∷ xs)) x xs (inl refl)
    (All-weaker (λ y. IsIn y xs) (λ y. IsIn y (x ∷ xs)) (λ y one. inr one) xs (all_in xs))

pub in_of_contains : {X : Type 0} (xs : List X) (x : X) → Contains xs x → IsIn x xs
in_of_contains xs x contains = All-contains (λ y. IsIn y xs) xs x (all_in xs) contains

pub contains_of_in : {X : Type 0} (xs : List X) (x : X) → IsIn x xs → Contains xs x
contains_of_in [] x one = absurd one
contains_of_in (y ∷ xs) x (inl is) =
    Contains-append_left (y ∷ []) xs x (subst (Contains (y ∷ [])) (sym is) (Contains-push [] y))
contains_of_in (y ∷ xs) x (inr one) = Contains-append_right (y ∷ []) xs x (contains_of_in xs x one)

-- The others, without one that is among them.
abbrev pub without_one : {X : Type 0} (x : X) (xs : List X) → IsIn x xs → List X
without_one x [] one = absurd one
without_one x (y ∷ xs) (inl is) = xs
without_one x (y ∷ xs) (inr one) = y ∷ without_one x xs one

pub one_less : {X : Type 0} (x : X) (xs : List X) → (one : IsIn x xs)
    → length xs ≡ suc (length (without_one x xs one))
one_less x [] one = absurd one
one_less x (y ∷ xs) (inl is) = refl
one_less x (y ∷ xs) (inr one) = let less = one_less x xs one in omega (arith, less)

pub others_stay : {X : Type 0} (x : X) (xs : List X) → (one : IsIn x xs) → (other : X) → IsIn other xs
    → ¬ (other ≡ x) → IsIn other (without_one x xs one)
others_stay x [] one other too apart = absurd one
others_stay x (y ∷ xs) (inl is) other (inl here) apart = absurd (apart (here ∙ sym is))
others_stay x (y ∷ xs) (inl is) other (inr too) apart = too
others_stay x (y ∷ xs) (inr one) other (inl here) apart = inl here
others_stay x (y ∷ xs) (inr one) other (inr too) apart = inr (others_stay x xs one other too apart)

-- Of numbers.
pub came_of_in : (number : ℕ) (numbers : List ℕ) → IsIn number numbers → NumberCame number numbers
came_of_in number [] one = one
came_of_in number (first ∷ numbers) (inl is) = inl is
came_of_in number (first ∷ numbers) (inr one) = inr (came_of_in number numbers one)

pub in_of_came : (number : ℕ) (numbers : List ℕ) → NumberCame number numbers → IsIn number numbers
in_of_came number [] one = one
in_of_came number (first ∷ numbers) (inl is) = inl is
in_of_came number (first ∷ numbers) (inr one) = inr (in_of_came number numbers one)

pub came_of_contains : (numbers : List ℕ) (number : ℕ) → Contains numbers number → NumberCame number numbers
came_of_contains numbers number contains = came_of_in number numbers (in_of_contains numbers number contains)

pub contains_of_came : (numbers : List ℕ) (number : ℕ) → NumberCame number numbers → Contains numbers number
contains_of_came numbers number came = contains_of_in numbers number (in_of_came number numbers came)
