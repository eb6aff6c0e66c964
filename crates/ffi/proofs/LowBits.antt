-- A map's outcomes are those of its low bits.
use Rattle.std.proofs.Common.{◌≡◌, ℕ, zero, suc, ◌+◌, ◌*◌, ◌/◌, ◌%◌, ◌^◌, ◌==◌, ◌∷◌, refl, ap, ◌∙◌, arith}
use Rattle.std.proofs.lemmas.Nat.{mod-pow-add}
use Rattle.payload.specs.Outcomes.{outcomes_in_map}

pub outcomes_of_low : (count map : ℕ) → outcomes_in_map count (map % 2 ^ count) ≡ outcomes_in_map count map
outcomes_of_low zero map = refl
outcomes_of_low (suc count) map =
    let next : suc count ≡ count + 1 = omega arith in
    let parts : map % 2 ^ suc count ≡ map / 2 % 2 ^ count * 2 + map % 2 =
    ap (λ n. map % 2 ^ n) next ∙ mod-pow-add map count 1 in
    let low : map % 2 ^ suc count % 2 ≡ map % 2 = omega arith in
    let high : map % 2 ^ suc count / 2 ≡ map / 2 % 2 ^ count = omega arith in
    rw (low, high) (ap (λ xs. (map % 2 == 0) ∷ xs) (outcomes_of_low count (map / 2)))
