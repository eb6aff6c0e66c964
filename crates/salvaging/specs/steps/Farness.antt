-- How the far numbers of a hart are found.
use Rattle.std.specs.Prelude.{ℕ, ◌≡◌, ◌⊎◌, ◌<◌, ◌≤◌, ◌+◌, ◌*◌, ◌==◌, nat_lt, All, Bool, Contains, true, false, List, [], ◌∷◌}
use Rattle.std.specs.Prelude.{◌++◌, Option, Some, None, max}
use Rattle.salvaging.specs.Entries.{Entry, entry_number}
use Rattle.salvaging.specs.Far.{ahead, has_neighbour}

-- The number comes right after this one, if there is one.
abbrev pub follows : Option ℕ → ℕ → Bool
follows None number = false
follows (Some before) number = before + 1 == number

-- This number comes right before the first of these entries.
abbrev pub is_followed : ℕ → List Entry → Bool
is_followed number [] = false
is_followed number (entry ∷ entries) = number + 1 == entry_number entry

-- The number of the last of these entries; this one where there is none.
abbrev pub last_number : Option ℕ → List Entry → Option ℕ
last_number before [] = before
last_number before (entry ∷ entries) = last_number (Some (entry_number entry)) entries

-- No entry that has a neighbour is ahead of more messages, and one is ahead of as many, or it is 0.
pub record IsNearest (entries : List Entry) (most : ℕ) : Type 0 where
  pub all : All (λ entry. has_neighbour entries entry ≡ true → ahead entries entry ≤ most) entries
  pub one : (most ≡ 0)
      ⊎ ((entry : Entry) × Contains entries entry × (has_neighbour entries entry ≡ true) × (ahead entries entry ≡ most))

-- No count up to the limit is greater, and it is one of them, or 0.
pub record IsGreatestUpTo (counts : List ℕ) (limit most : ℕ) : Type 0 where
  pub within : most ≤ limit
  pub all : All (λ count. count ≤ limit → count ≤ most) counts
  pub one : (most ≡ 0) ⊎ Contains counts most

-- By these steps the last count is reached from the first: each is one of the counts, up to twice the one before it.
abbrev pub Reaches : List ℕ → ℕ → List ℕ → ℕ → Type 0
Reaches counts first [] last = last ≡ first
Reaches counts first (next ∷ steps) last =
    Contains counts next × (next ≤ 2 * first) × Reaches counts next steps last

-- The bound is reached from the first count, and no count is above it and up to twice as much.
pub record IsBound (counts : List ℕ) (first bound : ℕ) : Type 0 where
  pub steps : List ℕ
  pub reached : Reaches counts first steps bound
  pub least : first ≤ bound
  pub apart : All (λ count. (count ≤ bound) ⊎ (2 * bound < count)) counts

-- The count is more than twice the bound.
abbrev pub is_above : ℕ → ℕ → Bool
is_above bound count = nat_lt (2 * bound) count

-- The greater of two counts, if the second one counts.
abbrev pub greater_of : ℕ → ℕ → Bool → ℕ
greater_of most count false = most
greater_of most count true = max most count

-- The numbers, with this one where it is asked for.
abbrev pub with_number : Bool → ℕ → List ℕ → List ℕ
with_number true number numbers = numbers ++ number ∷ []
with_number false number numbers = numbers
