-- Outcomes of branches as a branch map: bit 0 is the oldest branch's, and 0 is taken.
use Rattle.std.specs.Prelude.{ℕ, ◌+◌, ◌*◌, ◌/◌, ◌%◌, ◌==◌, nat_lt, Bool, if◌then◌else◌, List, [], ◌∷◌}
use Prim.Native.Nat.{zero, suc}

-- The first outcomes of a map, as many as this count, the oldest first.
abbrev pub outcomes_in_map : ℕ → ℕ → List Bool
outcomes_in_map zero map = []
outcomes_in_map (suc count) map = (map % 2 == 0) ∷ outcomes_in_map count (map / 2)

-- The map of outcomes.
abbrev pub map_of : List Bool → ℕ
map_of [] = 0
map_of (taken ∷ rest) = (if taken then 0 else 1) + 2 * map_of rest

-- How many bits the branch map of so many outcomes has.
abbrev pub map_width : ℕ → ℕ
map_width count =
    if nat_lt count 2 then 1 else
    if nat_lt count 4 then 3 else
    if nat_lt count 8 then 7 else
    if nat_lt count 16 then 15 else
    31
