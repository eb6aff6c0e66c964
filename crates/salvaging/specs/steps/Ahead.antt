-- How the messages are counted that came after a place.
use Rattle.std.specs.Prelude.{ℕ, ◌≡◌, ◌<◌, ◌≤◌, ◌+◌, ◌^◌, ◌/◌, ◌==◌, nat_lt, All, Bool, Contains, List, [], ◌∷◌, count_by}
use Rattle.std.specs.Prelude.{cond, ◌++◌, ◌-◌, ◌%◌, drop, get_or, length, map, slice_set, sum, take}
use Rattle.std.specs.declared.vec.Vec.{Vec}
use Rattle.salvaging.specs.Entries.{Entry, Used, Doubtful}
use Rattle.salvaging.specs.declared.ahead.TakenPlaces.{TakenPlaces}

-- The places of the used messages of entries.
abbrev pub places_of : List Entry → List ℕ
places_of [] = []
places_of (Used number place payload ∷ entries) = place ∷ places_of entries
places_of (Doubtful number first second ∷ entries) = places_of entries

-- How many of these places are after this one.
abbrev pub count_behind : ℕ → List ℕ → ℕ
count_behind place places = count_by (nat_lt place) places

-- The number of the block of a place.
abbrev pub block_of : ℕ → ℕ
block_of place = place / 64

-- A flag as a count.
abbrev pub flag_count : Bool → ℕ
flag_count flag = cond flag 1 0

-- The counts say of each place how many of these places it is.
abbrev pub CountPlaces : List ℕ → List ℕ → Type 0
CountPlaces counts places = (at : ℕ) → get_or counts at 0 ≡ count_by (λ place. place == at) places

-- Each level counts the blocks of these places, those blocks' blocks, and so on, until all are one.
abbrev pub CountBlocks : List (List ℕ) → List ℕ → Type 0
CountBlocks [] places = All (λ place. block_of place ≡ 0) places
CountBlocks (level ∷ levels) places = CountPlaces level (map block_of places) × CountBlocks levels (map block_of places)

-- Each level has a count for each block of the one below, which has so many.
abbrev pub AreLevels : ℕ → List (List ℕ) → Type 0
AreLevels long [] = long ≤ 64
AreLevels long (level ∷ levels) = (length level ≡ long / 64 + 1) × AreLevels (length level) levels

-- What is after a place in a list, up to the end of its block.
abbrev pub block_behind : {X : Type 0} → List X → ℕ → List X
block_behind items at = take (63 - at % 64) (drop (at + 1) items)

-- The counts after a place in each level, up to the end of the block in the next one.
abbrev pub blocks_behind : ℕ → List (List ℕ) → ℕ
blocks_behind place [] = 0
blocks_behind place (level ∷ levels) =
    sum (block_behind level (block_of place)) + blocks_behind (block_of place) levels

-- All flags after a place, by those of its block and the counts of the levels.
abbrev pub flags_behind : ℕ → List Bool → List (List ℕ) → ℕ
flags_behind place flags levels = count_by (λ flag. flag) (block_behind flags place) + blocks_behind place levels

-- The levels with this place once more.
abbrev pub raised : ℕ → List (List ℕ) → List (List ℕ)
raised place [] = []
raised place (level ∷ levels) =
    slice_set level (block_of place) (get_or level (block_of place) 0 + 1) ∷ raised (block_of place) levels

-- No count of this place is the greatest number.
abbrev pub CanRaise : ℕ → List (List ℕ) → Type 0
CanRaise place [] = Unit {0}
CanRaise place (level ∷ levels) =
    (get_or level (block_of place) 0 + 1 < 2 ^ 64) × CanRaise (block_of place) levels

-- The lists in lists of lists.
abbrev pub lists_in : {A : Type 0} → List (Vec ℕ A) → List (List ℕ)
lists_in {A} levels = map (λ (level : Vec ℕ A). level.items) levels

-- The places among so many that are taken, one flag each, and the counts of their blocks.
pub record AreTaken (taken : List Bool) (levels : List (List ℕ)) (places : List ℕ) : Type 0 where
  pub flags : CountPlaces (map flag_count taken) places
  pub blocks : CountBlocks levels places
  pub long : AreLevels (length taken) levels

-- These places are taken.
abbrev pub HasTaken : {A : Type 0} → TakenPlaces A → List ℕ → Type 0
HasTaken self places = AreTaken self.taken.items (lists_in self.levels.items) places

-- The used messages of entries have different places among so many.
pub record ArePlaced (count : ℕ) (entries : List Entry) : Type 0 where
  pub within : All (λ place. place < count) (places_of entries)
  pub differ : (number other place : ℕ) (payload content : List ℕ) → Contains entries (Used number place payload)
      → Contains entries (Used other place content) → number ≡ other

-- How many of these places come after that of an entry, if it is used.
abbrev pub behind_entry : Entry → List ℕ → ℕ
behind_entry (Used number place payload) places = count_behind place places
behind_entry (Doubtful number first second) places = 0

-- The place of the entry can be taken, if it is used: it is one of those that there are, and is not taken yet.
abbrev pub CanTake : {A : Type 0} → TakenPlaces A → Entry → Type 0
CanTake self entry =
    (places : List ℕ) × HasTaken self places
    × All (λ place. (place < length self.taken.items) × (count_by (λ one. one == place) places ≡ 0))
    (places_of (entry ∷ []))
    × (length places < 2 ^ 63)

-- The place of the entry was taken, if it is used, and so many places after it were taken before.
abbrev pub Takes : {A : Type 0} → TakenPlaces A → TakenPlaces A → Entry → ℕ → Type 0
Takes old new entry count =
    (length new.taken.items ≡ length old.taken.items)
    × ((places : List ℕ) → HasTaken old places → (count ≡ behind_entry entry places)
    × HasTaken new (places ++ places_of (entry ∷ [])))
