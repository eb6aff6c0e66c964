-- For which harts an allocation failed, by their outcomes.
use Rattle.std.proofs.Common.{◌≡◌, ◌<◌, ℕ, true, false, List, Option, Some, get_or, length, slice_get, refl, sym, ap}
use Rattle.std.proofs.Common.{subst, ◌∙◌}
use Rattle.std.specs.Prelude.{IsSomeAnd, IsTrue}
use Rattle.std.specs.Option.{option_map}
use Rattle.std.proofs.lemmas.Option.{slice_get-map, slice_get_read}
use Rattle.bench.specs.Collected.{Collected, HasOutcome, IsRefusedHart, Taken}
use Rattle.bench.specs.Got.{Got}
use Rattle.bench.specs.declared.outcome.HartOutcome.{HartOutcome}
use Rattle.bench.specs.steps.Collecting.{taken_in, taken_of_outcome}

-- What stands at a place of the outcomes.
pub taken_at : {A : Type 0} (harts : List (HartOutcome A)) (at hart : ℕ) (outcome : HartOutcome A) → at ≡ hart
    → at < length harts
    → outcome ≡ get_or harts at outcome → slice_get (taken_in harts) hart ≡ Some (taken_of_outcome outcome)
taken_at harts at hart outcome here within is =
    ap (slice_get (taken_in harts)) (sym here) ∙ slice_get-map taken_of_outcome harts at
    ∙ ap (option_map taken_of_outcome) (slice_get_read harts (length harts) at outcome refl within is)

-- Memory for a hart was refused, if there is such a one.
abbrev pub IsRefused : Option Taken → Type 0
IsRefused at = IsSomeAnd at (λ (taken : Taken). IsTrue taken.refused)

pub apart : false ≡ true → ⊥
apart is = cc

-- An allocation failed for a hart of which so much came.
pub came_refused : (hart : ℕ) (got : Got) (collected : Collected) → HasOutcome hart got true collected
    → IsRefusedHart hart collected
came_refused hart got collected came =
    subst IsRefused (sym came.taken) refl

-- It was not for one of which all came.
pub came_not_refused : (hart : ℕ) (got : Got) (collected : Collected) → HasOutcome hart got false collected
    → IsRefusedHart hart collected → ⊥
came_not_refused hart got collected came refused =
    apart (subst IsRefused came.taken refused)
