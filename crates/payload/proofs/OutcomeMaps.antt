-- Outcomes and their maps.
use Rattle.std.proofs.Common.{◌≡◌, ℕ, zero, suc, ◌+◌, ◌*◌, ◌/◌, ◌%◌, ◌^◌, ◌<◌, ◌≤◌, ◌==◌, Bool, true, false, List, []}
use Rattle.std.proofs.Common.{◌∷◌, ◌++◌, length, Some, None, refl, sym, ap, ◌∙◌, arith}
use Rattle.std.proofs.Math.Nat.{pow-suc, pow-le-pow_right}
use Rattle.std.specs.Int.{from_bool}
use Rattle.std.proofs.Common.{bit_and, slice_get, not, add-one}
use Rattle.std.proofs.lemmas.Nat.{and_mask, shr-shr}
use Rattle.payload.specs.Outcomes.{outcomes_in_map, map_of}

abbrev pub flag : Bool → ℕ
flag true = 0
flag false = 1

-- One more outcome.
pub push_outcome : (count map : ℕ) (taken : Bool) → map < 2 ^ count
    → outcomes_in_map (suc count) (map + flag taken * 2 ^ count) ≡ outcomes_in_map count map ++ taken ∷ []
push_outcome zero map true h = let none : map ≡ 0 = omega arith in rw none refl
push_outcome zero map false h = let none : map ≡ 0 = omega arith in rw none refl
push_outcome (suc count) map taken h =
    let twice : 2 ^ suc count ≡ 2 ^ count * 2 = pow-suc 2 count in
    let big : flag taken * 2 ^ suc count ≡ flag taken * 2 ^ count * 2 = rw twice (omega arith) in
    let low : (map + flag taken * 2 ^ suc count) % 2 ≡ map % 2 = omega arith in
    let high : (map + flag taken * 2 ^ suc count) / 2 ≡ map / 2 + flag taken * 2 ^ count = omega arith in
    rw (low, high) (ap (λ xs. (map % 2 == 0) ∷ xs) (push_outcome count (map / 2) taken (omega arith)))

-- An outcome by its place.
pub get_outcome : (count map i : ℕ)
    → i < count → slice_get (outcomes_in_map count map) i ≡ Some (bit_and (map / 2 ^ i) 1 == 0)
get_outcome zero map i h = absurd (omega arith)
get_outcome (suc count) map zero h =
    let one : map / 2 ^ 0 ≡ map = omega arith in
    rw (one, and_mask map 1) refl
get_outcome (suc count) map (suc i) h =
    let shifted : map / 2 ^ suc i ≡ map / 2 / 2 ^ i =
    sym (shr-shr map 1 i ∙ ap (λ k. map / 2 ^ k) (let e : 1 + i ≡ suc i = omega arith in e)) in
    rw shifted (get_outcome count (map / 2) i (omega arith))

pub get_past : (count map i : ℕ) → count ≤ i → slice_get (outcomes_in_map count map) i ≡ None
get_past zero map i h = refl
get_past (suc count) map zero h = absurd (omega arith)
get_past (suc count) map (suc i) h = get_past count (map / 2) i (omega arith)

pub pushed : (count map bit : ℕ) (taken : Bool) → count ≤ 31 → map < 2 ^ count → bit ≡ from_bool (not taken)
    → outcomes_in_map (count + 1) (map + bit * 2 ^ count % 4294967296) ≡ outcomes_in_map count map ++ taken ∷ []
pushed count map bit true few h e =
    let none : bit * 2 ^ count % 4294967296 ≡ flag true * 2 ^ count = rw e (omega arith) in
    rw (none, add-one) (push_outcome count map true h)
pushed count map bit false few h e =
    let small : 2 ^ count ≤ 2 ^ 31 = pow-le-pow_right {n = 2} (omega arith) {j = 31} few in
    let one : bit * 2 ^ count ≡ 2 ^ count = rw e (omega arith) in
    let same : bit * 2 ^ count % 4294967296 ≡ flag false * 2 ^ count = omega arith in
    rw (same, add-one) (push_outcome count map false h)

pub map_of-lt : (os : List Bool) → map_of os < 2 ^ length os
map_of-lt [] = omega arith
map_of-lt (true ∷ os) =
    let next = map_of-lt os in
    let twice : 2 ^ suc (length os) ≡ 2 ^ length os * 2 = pow-suc 2 (length os) in
    omega arith
map_of-lt (false ∷ os) =
    let next = map_of-lt os in
    let twice : 2 ^ suc (length os) ≡ 2 ^ length os * 2 = pow-suc 2 (length os) in
    omega arith

-- Outcomes come back from their map.
pub outcomes_of_map : (os : List Bool) → outcomes_in_map (length os) (map_of os) ≡ os
outcomes_of_map [] = refl
outcomes_of_map (true ∷ os) =
    let even : (0 + 2 * map_of os) % 2 ≡ 0 = omega arith in
    let half : (0 + 2 * map_of os) / 2 ≡ map_of os = omega arith in
    rw (even, half) (ap (λ xs. true ∷ xs) (outcomes_of_map os))
outcomes_of_map (false ∷ os) =
    let odd : (1 + 2 * map_of os) % 2 ≡ 1 = omega arith in
    let half : (1 + 2 * map_of os) / 2 ≡ map_of os = omega arith in
    rw (odd, half) (ap (λ xs. false ∷ xs) (outcomes_of_map os))
