-- The keys of a set of harts and payloads.
use Rattle.std.specs.Prelude.{ℕ, List, map}
use Rattle.std.specs.HashSet.{HashSet}
use Rattle.arrayvec.specs.ArrayVec.{ArrayVec}

-- The parts of keys: each hart with the bytes of its payload.
abbrev pub parts_of : List (ℕ × ArrayVec ℕ) → List (ℕ × List ℕ)
parts_of keys = map (λ (key : ℕ × ArrayVec ℕ). (key.0, key.1.items)) keys

-- The same of a set.
abbrev pub keys_of : {S : Type 0} → HashSet (ℕ × ArrayVec ℕ) S → List (ℕ × List ℕ)
keys_of set = parts_of set.keys
