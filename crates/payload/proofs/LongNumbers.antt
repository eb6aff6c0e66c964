-- The shortest bytes of numbers of more than 128 bits.
use Rattle.std.proofs.Common.{◌≡◌, ◌≢◌, ℕ, zero, suc, ◌+◌, ◌-◌, ◌*◌, ◌/◌, ◌%◌, ◌^◌, ◌<◌, ◌≤◌, ◌∷◌, ◌++◌, refl, sym, ap}
use Rattle.std.proofs.Common.{◌∙◌, arith}
use Rattle.std.proofs.Math.Nat.{pow-le-pow_right, pow-suc, div-div-eq-div-mul}
use Rattle.std.proofs.lemmas.Nat.{leading_length, pow-add}
use Rattle.std.specs.Int.Count.{count_leading_zeros}
use Rattle.payload.specs.Bytes.{low_bytes}
use Rattle.payload.specs.Extension.{fewest_bytes}
use Rattle.payload.specs.Spelling.{shortest_bytes}
use Rattle.payload.proofs.ByteLists.{power}
use Rattle.payload.proofs.ByteCounts.{IsFirst, first_is}
use Rattle.payload.proofs.Extending.{extended_low, extended_high, magnitude_low, magnitude_high}

first_from_size : (m top : ℕ) → 1 ≤ top → m < 2 ^ top → 2 ^ (top - 1) ≤ m → IsFirst 1 m (top / 8 + 1)
first_from_size m top some below above = record {
  fits = (let wide : 2 ^ top ≤ 2 ^ (8 * (top / 8 + 1) - 1) =
      pow-le-pow_right {n = 2} (omega arith) {j = 8 * (top / 8 + 1) - 1} (omega arith) in omega arith);
  others = λ j low high. let wide : 2 ^ (8 * j - 1) ≤ 2 ^ (top - 1) =
      pow-le-pow_right {n = 2} (omega arith) {j = top - 1} (omega arith) in omega arith;
}

one_bit : (bits rest : ℕ) → rest ≢ 0 → rest < 2 ^ bits → 1 ≤ bits
one_bit zero rest some h = absurd (omega arith)
one_bit (suc bits) rest some h = omega arith

pub counted_long : (head rest : ℕ) → head < 2 ^ 78 → rest < 2 ^ 63 → rest ≢ 0
    → (142 - count_leading_zeros 64 rest) / 8 + 1 ≡ fewest_bytes (head + 2 ^ 78 * rest)
counted_long head rest small narrow some =
    let found = leading_length 64 rest (omega arith) in
    let bits = found.0 in
    let below : rest < 2 ^ bits = found.2 in
    let above : 2 ^ bits ≤ 2 * rest + 1 = found.3 in
    let nonzero : 1 ≤ bits = one_bit bits rest some below in
    let whole : suc (bits - 1) ≡ bits = omega arith in
    let twice : 2 ^ bits ≡ 2 ^ (bits - 1) * 2 = ap (λ x. 2 ^ x) (sym whole) ∙ pow-suc 2 (bits - 1) in
    let is : 142 - count_leading_zeros 64 rest ≡ 78 + bits = omega (arith, found.1) in
    let size : 2 ^ (78 + bits) ≡ 2 ^ 78 * 2 ^ bits = pow-add 2 78 bits in
    let half : 2 ^ (78 + bits - 1) ≡ 2 ^ 78 * 2 ^ (bits - 1) =
    (let e : 78 + bits - 1 ≡ 78 + (bits - 1) = omega arith in ap (λ x. 2 ^ x) e ∙ pow-add 2 78 (bits - 1)) in
    let first = first_from_size (head + 2 ^ 78 * rest) (78 + bits) (omega arith) (omega arith) (omega arith) in
    let few : bits ≤ 64 = omega (arith, found.1) in
    rw is (sym (first_is 17 1 (head + 2 ^ 78 * rest) ((78 + bits) / 8 + 1) (omega arith) (omega arith) first))

pub low_bytes-append : (j k n : ℕ) → low_bytes (j + k) n ≡ low_bytes j n ++ low_bytes k (n / 2 ^ (8 * j))
low_bytes-append zero k n =
    let none : 0 + k ≡ k = omega arith in
    let same : n / 2 ^ (8 * 0) ≡ n = omega arith in
    rw (none, same) refl
low_bytes-append (suc j) k n =
    let count : suc j + k ≡ suc (j + k) = omega arith in
    let size : 2 ^ (8 * suc j) ≡ 256 * 2 ^ (8 * j) = power j in
    let place : n / 2 ^ (8 * suc j) ≡ n / 256 / 2 ^ (8 * j) =
    ap (λ x. n / x) size ∙ sym (div-div-eq-div-mul n 256 (2 ^ (8 * j))) in
    rw (count, place) (ap (λ xs. n % 256 ∷ xs) (low_bytes-append j k (n / 256)))

-- 142 bits, with a top bit of 0 and of 1.
pub shortest_clear : (n count : ℕ) → n < 2 ^ 141 → count ≡ fewest_bytes n → low_bytes count n ≡ shortest_bytes 142 n
shortest_clear n count h is = rw (is, magnitude_low 142 n h, extended_low 142 n h) refl

pub shortest_set : (n count m whole : ℕ) → 2 ^ 141 ≤ n → m ≡ 2 ^ 142 - 1 - n → whole ≡ n + (2 ^ 144 - 2 ^ 142)
    → count ≡ fewest_bytes m → low_bytes count whole ≡ shortest_bytes 142 n
shortest_set n count m whole h sign long is = rw (is, sign, long, magnitude_high 142 n h, extended_high 142 n h) refl
