-- The count and the map of outcomes come back from them.
use Rattle.std.specs.Prelude.{ℕ, ◌≡◌, ◌/◌, ◌%◌, ◌^◌, ◌<◌, length}
use Prim.Native.Nat.{zero, suc}
use Rattle.std.proofs.Common.{◌*◌, cond, eqb, refl, ap, arith}
use Rattle.std.proofs.Math.Nat.{pow-suc}
use Rattle.payload.specs.Outcomes.{outcomes_in_map, map_of}

-- There are as many outcomes as the count.
pub length_outcomes : (count map : ℕ) → length (outcomes_in_map count map) ≡ count
length_outcomes zero map = refl
length_outcomes (suc count) map = ap suc (length_outcomes count (map / 2))

-- A bit is 0 or 1.
low_bit : (x : ℕ) → x < 2 → cond (eqb x 0) 0 1 ≡ x
low_bit zero h = refl
low_bit (suc zero) h = refl
low_bit (suc (suc x)) h = absurd (omega arith)

-- The map of a map's outcomes is that map.
pub map_outcomes : (count map : ℕ) → map < 2 ^ count → map_of (outcomes_in_map count map) ≡ map
map_outcomes zero map h = omega arith
map_outcomes (suc count) map h =
    let twice : 2 ^ suc count ≡ 2 ^ count * 2 = pow-suc 2 count in
    let next = map_outcomes count (map / 2) (omega arith) in
    let here = low_bit (map % 2) (omega arith) in
    omega arith
