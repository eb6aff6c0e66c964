-- Entries in the order of their numbers, and where one is among them.
use Rattle.std.proofs.Common.{◌≡◌, ◌≢◌, ◌⊎◌, inl, inr, ℕ, ◌+◌, ◌<◌, ◌≤◌, ◌++◌}
use Rattle.std.proofs.Common.{List, [], ◌∷◌, None, map, refl, sym, ap, arith}
use Rattle.losses.specs.Apart.{AreRising}
use Rattle.salvaging.specs.EndsByNumbers.{IsUsedAfter}
use Rattle.salvaging.specs.Entries.{Entry, Used, Doubtful, entry_number, next_used}
use Rattle.salvaging.proofs.Members.{IsIn, contains_of_in}

abbrev pub Rise : ℕ → List Entry → Type 0
Rise from entries = AreRising from (map entry_number entries)

-- An item of a list, and what is before and after it.
pub record IsAt (x : Entry) (xs : List Entry) : Type 0 where
  pub front : List Entry
  pub later : List Entry
  pub whole : xs ≡ front ++ x ∷ later

pub at_of_in : (x : Entry) (xs : List Entry) → IsIn x xs → IsAt x xs
at_of_in x [] one = absurd one
at_of_in x (y ∷ xs) (inl is) = record { front = []; later = xs; whole = ap (λ e. e ∷ xs) (sym is) }
at_of_in x (y ∷ xs) (inr one) =
    let at = at_of_in x xs one in
    record { front = y ∷ at.front; later = at.later; whole = ap (λ l. y ∷ l) at.whole }

pub in_front : (x : Entry) (front later : List Entry) → IsIn x front → IsIn x (front ++ later)
in_front x [] later one = absurd one
in_front x (y ∷ front) later (inl is) = inl is
in_front x (y ∷ front) later (inr one) = inr (in_front x front later one)

pub in_later : (x : Entry) (front later : List Entry) → IsIn x later → IsIn x (front ++ later)
in_later x [] later one = one
in_later x (y ∷ front) later one = inr (in_later x front later one)

pub in_either : (x : Entry) (front later : List Entry) → IsIn x (front ++ later) → IsIn x front ⊎ IsIn x later
in_either x [] later one = inr one
in_either x (y ∷ front) later (inl is) = inl (inl is)
in_either x (y ∷ front) later (inr one) = more (in_either x front later one)
  where
    more : IsIn x front ⊎ IsIn x later → IsIn x (y ∷ front) ⊎ IsIn x later
    more (inl there) = inl (inr there)
    more (inr there) = inr there

-- Numbers rise from one entry to those after it.
pub rise_least : (from : ℕ) (entries : List Entry) → Rise from entries → (x : Entry) → IsIn x entries
    → from ≤ entry_number x
rise_least from [] rises x one = absurd one
rise_least from (y ∷ entries) rises x (inl is) =
    let least = rises.0 in
    let same = ap entry_number is in
    omega (arith, least, same)
rise_least from (y ∷ entries) rises x (inr one) =
    let least = rises.0 in
    let more = rise_least (entry_number y + 1) entries rises.1 x one in
    omega (arith, least, more)

pub rise_later : (from : ℕ) (front : List Entry) (entry : Entry) (later : List Entry)
    → Rise from (front ++ entry ∷ later) → (x : Entry) → IsIn x later → entry_number entry < entry_number x
rise_later from [] entry later rises x one =
    let more = rise_least (entry_number entry + 1) later rises.1 x one in
    omega (arith, more)
rise_later from (y ∷ front) entry later rises x one =
    rise_later (entry_number y + 1) front entry later rises.1 x one

pub rise_front : (from : ℕ) (front : List Entry) (entry : Entry) (later : List Entry)
    → Rise from (front ++ entry ∷ later) → (x : Entry) → IsIn x front → entry_number x < entry_number entry
rise_front from [] entry later rises x one = absurd one
rise_front from (y ∷ front) entry later rises x (inl is) =
    let more = rise_least (entry_number y + 1) (front ++ entry ∷ later) rises.1 entry
    (in_later entry front (entry ∷ later) (inl refl)) in
    let same = ap entry_number is in
    omega (arith, more, same)
rise_front from (y ∷ front) entry later rises x (inr one) =
    rise_front (entry_number y + 1) front entry later rises.1 x one

-- A greater number is that of an entry after it, and an equal one is its own.
pub after_it : (from : ℕ) (front : List Entry) (entry : Entry) (later : List Entry) → Rise from (front ++ entry ∷ later)
    → (x : Entry) → IsIn x (front ++ entry ∷ later) → entry_number entry < entry_number x → IsIn x later
after_it from front entry later rises x one above = by_place (in_either x front (entry ∷ later) one)
  where
    by_place : IsIn x front ⊎ IsIn x (entry ∷ later) → IsIn x later
    by_place (inl there) =
        let below = rise_front from front entry later rises x there in
        absurd (omega (arith, below, above))
    by_place (inr (inl is)) =
        let same = ap entry_number is in
        absurd (omega (arith, same, above))
    by_place (inr (inr there)) = there

pub it_itself : (from : ℕ) (front : List Entry) (entry : Entry) (later : List Entry) → Rise from
    (front ++ entry ∷ later)
    → (x : Entry) → IsIn x (front ++ entry ∷ later) → entry_number x ≡ entry_number entry → x ≡ entry
it_itself from front entry later rises x one same = by_place (in_either x front (entry ∷ later) one)
  where
    by_place : IsIn x front ⊎ IsIn x (entry ∷ later) → x ≡ entry
    by_place (inl there) =
        let below = rise_front from front entry later rises x there in
        absurd (omega (arith, below, same))
    by_place (inr (inl is)) = is
    by_place (inr (inr there)) =
        let above = rise_later from front entry later rises x there in
        absurd (omega (arith, above, same))

-- A used entry among others.
pub some_used : (entries : List Entry) (number place : ℕ) (payload : List ℕ) → IsIn (Used number place payload) entries
    → next_used entries ≢ None
some_used [] number place payload one none = absurd one
some_used (Used other there bytes ∷ entries) number place payload one none = cc
some_used (Doubtful other first second ∷ entries) number place payload (inl is) none = cc
some_used (Doubtful other first second ∷ entries) number place payload (inr one) none =
    some_used entries number place payload one none

pub used_after : (front entries : List Entry) (number : ℕ) → Rise (number + 1) entries → next_used entries ≢ None
    → IsUsedAfter number (front ++ entries)
used_after front entries number rises some = by_list entries (number + 1) rises some (λ x one. one)
  where
    by_list : (rest : List Entry) (from : ℕ) → Rise from rest → next_used rest ≢ None
        → ((x : Entry) → IsIn x rest → IsIn x entries) → IsUsedAfter number (front ++ entries)
    by_list [] from rises_on some_on among = absurd (some_on refl)
    by_list (Used later place payload ∷ rest) from rises_on some_on among =
        let one = among (Used later place payload) (inl refl) in
        let least = rise_least (number + 1) entries rises (Used later place payload) one in (
          later,
          place,
          payload,
          omega (arith, least),
          contains_of_in (front ++ entries) (Used later place payload)
              (in_later (Used later place payload) front entries one),
        )
    by_list (Doubtful later first second ∷ rest) from rises_on some_on among =
        by_list rest (later + 1) rises_on.1 some_on (λ x one. among x (inr one))
