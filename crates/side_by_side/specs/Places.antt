-- What is at the same place of two lists.
use Rattle.std.specs.Prelude.{ℕ, ◌<◌, List, slice_index_or}

-- At each place below this one, the relation holds of the place and the items there of both lists.
abbrev pub HoldsBelow : {A B : Type 0} → (ℕ → A → B → Type 0) → ℕ → List A → List B → Type 0
HoldsBelow {A} {B} R high xs ys = (place : ℕ) (x : A) (y : B) → place < high
    → R place (slice_index_or xs place x) (slice_index_or ys place y)
