-- The earliest of believed messages.
use Rattle.std.specs.Prelude.{ℕ, ◌&&◌, nat_lt, Bool, true, false, List, [], ◌∷◌, Option, Some, None}
use Rattle.salvaging.specs.Entries.{Entry, Used, Doubtful}

-- There is a place, and it comes before this one.
abbrev pub comes_before : Option ℕ → ℕ → Bool
comes_before None place = false
comes_before (Some first) place = nat_lt first place

-- The place that is kept where this is true, and else this one.
abbrev pub kept_or : Bool → Option ℕ → ℕ → Option ℕ
kept_or true kept place = kept
kept_or false kept place = Some place

-- The earlier of two places, where the first may be none.
abbrev pub earlier_of : Option ℕ → ℕ → Option ℕ
earlier_of kept place = kept_or (comes_before kept place) kept place

-- The place of the earliest message of a believed entry, if one is believed.
abbrev pub earliest : List Entry → List Bool → Option ℕ
earliest [] goods = None
earliest (entry ∷ entries) [] = None
earliest (Used number place payload ∷ entries) (true ∷ goods) = earlier_of (earliest entries goods) place
earliest (entry ∷ entries) (good ∷ goods) = earliest entries goods

-- Whether an entry's message is late, where this says whether it is believed, and this is the place of the earliest
-- believed message with a greater number.
abbrev pub is_late_behind : Entry → Bool → Option ℕ → Bool
is_late_behind (Used number place payload) one first = one && comes_before first place
is_late_behind (Doubtful number lower other) one first = false

-- The place of the earliest believed message with an entry before the others, which is believed where this is true.
abbrev pub earliest_with : Entry → Bool → Option ℕ → Option ℕ
earliest_with (Used number place payload) true first = earlier_of first place
earliest_with entry good first = first
