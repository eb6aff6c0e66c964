-- Places that were looked at.
use Rattle.std.proofs.Common.{◌≡◌, ◌⊎◌, inl, inr, ℕ, ◌+◌, ◌<◌, ◌≤◌, true, false, List, length, ap}
use Rattle.std.proofs.lemmas.Bool.{both_ways, cases_lt}
use Rattle.std.proofs.lemmas.Option.{slice_get_past}
use Rattle.live.specs.declared.held.SentMessage.{SentMessage}
use Rattle.live.specs.steps.Searching.{is_at, is_slot}

-- No message at a place less than so many away from a place has the number.
pub record NoneAround (slots : List SentMessage) (hart number near away : ℕ) : Type 0 where
  pub none : (place : ℕ) → near ≤ place + away → place < near + away → is_at slots hart number place ≡ false

-- A message that was found is at a place in view.
pub at_within : (slots : List SentMessage) (hart number place : ℕ) → is_at slots hart number place ≡ true
    → place < length slots
at_within slots hart number place is = go (cases_lt place (length slots))
  where
    go : (place < length slots) ⊎ (length slots ≤ place) → place < length slots
    go (inl inside) = inside
    go (inr past) = let none = ap (is_slot hart number) (slice_get_past slots place past) in absurd (both_ways _ none is)
