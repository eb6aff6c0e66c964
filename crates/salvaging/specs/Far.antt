-- Far numbers: those that came so early that they are not believed.
use Rattle.std.specs.Prelude.{ℕ, ◌≡◌, ◌≤◌, ◌<◌, ◌+◌, ◌*◌, ◌==◌, ◌&&◌, ◌||◌, nat_lt, All, Bool, true, false, List, [], ◌∷◌}
use Rattle.std.specs.Prelude.{◌⊎◌, Contains, Some, count_by, map, not, slice_get}
use Rattle.std.specs.List.{list_any}
use Rattle.message.specs.declared.message.Message.{Message}
use Rattle.salvaging.specs.Entries.{Entry, Used, Doubtful, AreEntries, entry_number, is_used}

-- The entry is used, its number is smaller than this one, and its message came after this place.
abbrev pub comes_behind : ℕ → ℕ → Entry → Bool
comes_behind number place (Used lower later payload) = nat_lt lower number && nat_lt place later
comes_behind number place (Doubtful lower first second) = false

-- How many messages the message of an entry is ahead of, where its hart has these entries: those used messages that have
-- smaller numbers and came after it.
abbrev pub ahead : List Entry → Entry → ℕ
ahead entries (Used number place payload) = count_by (comes_behind number place) entries
ahead entries (Doubtful number first second) = 0

-- The entry has the number right below this one, or right above it.
abbrev pub is_beside : ℕ → Entry → Bool
is_beside number entry = entry_number entry + 1 == number || number + 1 == entry_number entry

-- A message of the hart has the number right below that of the entry, or right above it.
abbrev pub has_neighbour : List Entry → Entry → Bool
has_neighbour entries entry = list_any (is_beside (entry_number entry)) entries

-- These entries among those of a hart are far from the others. Each is used, stands by itself, and is ahead of at least
-- one message, and of more than twice as many as any used entry that is not among them.
pub record StandFar (entries : List Entry) (among : Entry → Bool) : Type 0 where
  pub used : All (λ entry. among entry ≡ true → is_used entry ≡ true) entries
  pub by_itself : All (λ entry. among entry ≡ true → has_neighbour entries entry ≡ false) entries
  pub of_one : All (λ entry. among entry ≡ true → 1 ≤ ahead entries entry) entries
  pub of_more : All (λ entry. among entry ≡ true
      → All (λ other. is_used other ≡ true → among other ≡ false → 2 * ahead entries other < ahead entries entry) entries)
      entries

-- The far entries of a hart are the greatest set of entries that are far from the others. Of each entry `far` says
-- whether its number is far.
pub record AreFar (entries : List Entry) (far : List Bool) : Type 0 where
  pub among : Entry → Bool
  pub are_among : far ≡ map among entries
  pub stand_far : StandFar entries among
  pub greatest : (others : Entry → Bool) → StandFar entries others
      → All (λ entry. others entry ≡ true → among entry ≡ true) entries

-- Which entries are believed, by which of them are good and which are far: those that are good and not far.
abbrev pub believed : List Bool → List Bool → List Bool
believed [] far = []
believed (good ∷ goods) [] = []
believed (good ∷ goods) (flag ∷ far) = (good && not flag) ∷ believed goods far

-- The numbers of those entries of which this is true.
abbrev pub numbers_of : List Entry → List Bool → List ℕ
numbers_of [] flags = []
numbers_of (entry ∷ entries) [] = []
numbers_of (entry ∷ entries) (true ∷ flags) = entry_number entry ∷ numbers_of entries flags
numbers_of (entry ∷ entries) (false ∷ flags) = numbers_of entries flags

-- These are the far numbers of a hart with these messages, in rising order.
pub record AreFarNumbers (messages : List Message) (numbers : List ℕ) : Type 0 where
  pub entries : List Entry
  pub far : List Bool
  pub are_entries : AreEntries messages entries
  pub are_far : AreFar entries far
  pub are_numbers : numbers ≡ numbers_of entries far

-- The messages come in the order of their numbers.
abbrev pub ComeInOrder : List Message → Type 0
ComeInOrder messages =
    (place later : ℕ) (one other : Message) → place < later → slice_get messages place ≡ Some one
    → slice_get messages later ≡ Some other → one.number ≤ other.number

-- A message came with the number right below that of each, or with the one right above it.
abbrev pub HaveNeighbours : List Message → Type 0
HaveNeighbours messages =
    All (λ (message : Message). (other : Message) × Contains messages other
    × ((other.number + 1 ≡ message.number) ⊎ (message.number + 1 ≡ other.number))) messages
