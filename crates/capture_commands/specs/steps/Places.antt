-- The harts whose logs come at some places, and where their messages are.
use Rattle.std.specs.Prelude.{ℕ, ◌+◌, ◌-◌, ◌^◌, List, [], get_or, map, min}
use Rattle.std.specs.declared.vec.Vec.{Vec}

-- The hart whose log comes at this place, where the first log is that of this hart. No hart is above 2^64 - 1.
abbrev pub hart_at_place : ℕ → ℕ → ℕ
hart_at_place first place = min (first + place) (2 ^ 64 - 1)

-- Where the messages of a hart are, if there is such a hart.
abbrev pub places_in : {A : Type 0} → List (Vec ℕ A) → ℕ → List ℕ
places_in places hart = get_or (map (λ own. own.items) places) hart []
