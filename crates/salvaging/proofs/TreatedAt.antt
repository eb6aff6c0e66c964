-- What is done with the message at a place, by the first that is like it.
use Rattle.std.proofs.Common.{◌≡◌, ◌⊎◌, inl, inr, ℕ, zero, suc, ◌+◌, ◌<◌, ◌≤◌, true, false, Contains, List}
use Rattle.std.proofs.Common.{[], ◌∷◌, Option, Some, slice_get, refl, sym, ap, subst, ◌∙◌, arith, take}
use Rattle.std.specs.List.Sorted.{IsPermutation}
use Rattle.std.proofs.lemmas.Bool.{cases_lt, eq-eqb, eqb-true}
use Rattle.message.specs.declared.message.Message.{Message}
use Rattle.salvaging.specs.Copies.{HasLike}
use Rattle.salvaging.specs.Treatments.{Row}
use Rattle.salvaging.specs.steps.Arrivals.{Arrival, AreOrdered, placed_from}
use Rattle.salvaging.specs.steps.Looking.{IsFirstLike, is_place}
use Rattle.salvaging.specs.steps.Rows.{numbers_in}
use Rattle.salvaging.proofs.GroupedMessages.{is_there, placed_at, stands}
use Rattle.salvaging.proofs.Members.{IsIn, contains_of_in, in_of_contains}

pub in_front : (messages : List Message) (place k : ℕ) (message : Message) → slice_get messages k ≡ Some message → k < place
    → IsIn message (take place messages)
in_front [] place k message at below = cc
in_front (first ∷ messages) zero k message at below = absurd (omega (arith, below))
in_front (first ∷ messages) (suc place) zero message at below = let same : message ≡ first = cc in inl same
in_front (first ∷ messages) (suc place) (suc k) message at below =
    inr (in_front messages place k message at (omega (arith, below)))

-- A message before a place stands somewhere before it.
pub record StandsBefore (messages : List Message) (place : ℕ) (message : Message) : Type 0 where
  pub at : ℕ
  pub below : at < place
  pub here : slice_get messages at ≡ Some message

stands_before : (messages : List Message) (place : ℕ) (message : Message) → IsIn message (take place messages)
    → StandsBefore messages place message
stands_before [] zero message there = absurd there
stands_before [] (suc place) message there = absurd there
stands_before (first ∷ messages) zero message there = absurd there
stands_before (first ∷ messages) (suc place) message (inl is) =
    record { at = 0; below = omega arith; here = ap Some (sym is) }
stands_before (first ∷ messages) (suc place) message (inr there) =
    let later = stands_before messages place message there in
    let below = later.below in
    record { at = suc later.at; below = omega (arith, below); here = later.here }

-- A row has a number that is among theirs.
pub numbered : (all : List Row) (number : ℕ) → Contains (numbers_in all) number
    → (row : Row) × Contains all row × (row.number ≡ number)
numbered all number there =
    let found = by_list all (in_of_contains (numbers_in all) number there) in
    (found.0, contains_of_in all found.0 found.1, found.2)
  where
    by_list : (rows : List Row) → IsIn number (numbers_in rows) → (row : Row) × IsIn row rows × (row.number ≡ number)
    by_list [] there = absurd there
    by_list (row ∷ rows) (inl is) = (row, inl refl, sym is)
    by_list (row ∷ rows) (inr there) =
        let later = by_list rows there in (later.0, inr later.1, later.2)

module _ (messages : List Message) (arrivals : List Arrival) (permuted : IsPermutation (placed_from 0 messages) arrivals)
    (ordered : AreOrdered arrivals) (place : ℕ) (message : Message) (here : slice_get messages place ≡ Some message) where
  -- A message is one of the arrivals.
  pub arrives : (k : ℕ) (other : Message) → slice_get messages k ≡ Some other
      → Contains arrivals (record { place = k; message = other })
  arrives k other at =
      let here : 0 + k ≡ k = omega arith in
      contains_of_in arrivals (record { place = k; message = other })
      (is_there messages arrivals permuted ordered (record { place = k; message = other })
      (subst (λ n. IsIn (record { place = n; message = other }) (placed_from 0 messages)) here
      (placed_at 0 messages k other at)))

  module _ (found : Option ℕ) (f : IsFirstLike arrivals message found) where
    -- It is a copy where another is the first.
    pub later_copy : is_place found place ≡ false → HasLike (take place messages) message
    later_copy test =
        let first = f.first in
        let upto = f.earliest (record { place = place; message = message }) (arrives place message here) refl refl in
        let apart : ¬ (first.place ≡ place) =
        λ same. let yes_is : true ≡ false = sym (ap (λ o. is_place o place) f.found_is ∙ eq-eqb first.place place same)
        ∙ test in cc in
        let below : first.place < place = by_place first.place upto apart (cases_lt first.place place) in
        let at = stands messages arrivals permuted ordered first (in_of_contains arrivals first f.there) in (
          first.message,
          contains_of_in (take place messages) first.message (in_front messages place first.place first.message at below),
          (sym f.number, sym f.payload),
        )
      where
        by_place : (k : ℕ) → k ≤ place → ¬ (k ≡ place) → (k < place) ⊎ (place ≤ k) → k < place
        by_place k upto apart (inl below) = below
        by_place k upto apart (inr over) = absurd (apart (omega (arith, upto, over)))

    -- It is none where it is the first itself.
    pub no_copy : is_place found place ≡ true → ¬ HasLike (take place messages) message
    no_copy test (like, there, alike) =
        let first = f.first in
        let same : first.place ≡ place =
        eqb-true first.place place (sym (ap (λ o. is_place o place) f.found_is) ∙ test) in
        let s = stands_before messages place like (in_of_contains (take place messages) like there) in
        let upto = f.earliest (record { place = s.at; message = like }) (arrives s.at like s.here) (sym alike.0)
        (sym alike.1) in
        let below = s.below in
        omega (arith, same, upto, below)
