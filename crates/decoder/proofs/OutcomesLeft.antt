-- The outcomes that are left once some are used.
use Rattle.std.proofs.Common.{◌≡◌, ℕ, zero, suc, ◌+◌, Bool, List, [], ◌∷◌, length, drop, Some, None, refl}
use Rattle.std.proofs.Common.{sym, ap, ◌∙◌, arith}
use Rattle.std.specs.Prelude.{nat_le, slice_get}
use Rattle.std.proofs.lemmas.Bool.Decides.{nat_tests}
use Rattle.rvclass.specs.declared.class.Class.{Class}
use Rattle.rvclass.specs.declared.class.Class.TheVariants.{Branch}
use Rattle.decoder.specs.steps.WalkSteps.{is_empty, type_on}

-- None is left where as many are used as there are.
pub is_empty-drop : (taken : List Bool) (count used : ℕ) → count ≡ length taken →
    nat_le count used ≡ is_empty (drop used taken)
is_empty-drop taken count used counted = ap (λ n. nat_le n used) counted ∙ go taken used
  where
    go : (taken : List Bool) (used : ℕ) → nat_le (length taken) used ≡ is_empty (drop used taken)
    go [] zero = refl
    go [] (suc used) = grind (arith, nat_tests)
    go (x ∷ taken) zero = grind (arith, nat_tests)
    go (x ∷ taken) (suc used) =
        let less : nat_le (suc (length taken)) (suc used) ≡ nat_le (length taken) used = grind (arith, nat_tests) in
        less ∙ go taken used

-- The oldest of those that are left is the one at the place that so many lead to.
drop_some : (taken : List Bool) (used : ℕ) (outcome : Bool) → slice_get taken used ≡ Some outcome →
    drop used taken ≡ outcome ∷ drop (suc used) taken
drop_some [] zero outcome h = cc
drop_some [] (suc used) outcome h = cc
drop_some (x ∷ taken) zero outcome h = let is : x ≡ outcome = cc in ap (λ o. o ∷ taken) is
drop_some (x ∷ taken) (suc used) outcome h = drop_some taken used outcome h

drop_none : (taken : List Bool) (used : ℕ) → slice_get taken used ≡ None → drop used taken ≡ []
drop_none [] zero h = refl
drop_none [] (suc used) h = refl
drop_none (x ∷ taken) zero h = cc
drop_none (x ∷ taken) (suc used) h = drop_none taken used h

pub type_on-some : (class : Class) (to : ℕ) (taken : List Bool) (used : ℕ) (outcome is_taken : Bool) →
    class ≡ Branch to → Some outcome ≡ slice_get taken used → outcome ≡ is_taken →
    type_on (Branch to) (is_taken ∷ drop (used + 1) taken) ≡ type_on class (drop used taken)
type_on-some class to taken used outcome is_taken is get o =
    let more : suc used ≡ used + 1 = omega arith in
    sym (ap (λ c. type_on c (drop used taken)) is ∙ ap (type_on (Branch to)) (drop_some taken used outcome (sym get))
    ∙ ap (λ b. type_on (Branch to) (b ∷ drop (suc used) taken)) o
    ∙ ap (λ n. type_on (Branch to) (is_taken ∷ drop n taken)) more)

pub type_on-none : (class : Class) (to : ℕ) (taken : List Bool) (used : ℕ) → class ≡ Branch to →
    None ≡ slice_get taken used → None ≡ type_on class (drop used taken)
type_on-none class to taken used is get =
    sym (ap (λ c. type_on c (drop used taken)) is ∙ ap (type_on (Branch to)) (drop_none taken used (sym get)))
