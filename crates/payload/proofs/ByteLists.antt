-- Numbers as bytes.
use Rattle.std.proofs.Common.{◌≡◌, ℕ, zero, suc, ◌+◌, ◌-◌, ◌*◌, ◌/◌, ◌%◌, ◌^◌, ◌<◌, ◌≤◌, List, [], ◌∷◌, length, take}
use Rattle.std.proofs.Common.{refl, sym, ap, ◌∙◌, arith}
use Rattle.std.proofs.Math.Nat.{div-div-eq-div-mul, pow-suc}
use Rattle.std.proofs.lemmas.Nat.{mod-pow-add, pow-add}
use Rattle.std.specs.Int.{byte_at, bytes_low_first}
use Rattle.payload.specs.Bytes.{low_bytes, number, IsBytes}

div-one : (n : ℕ) → n / 1 ≡ n
div-one n = omega arith

pub byte_at-is : (i n : ℕ) → byte_at i n ≡ n / 256 ^ i % 256
byte_at-is zero n = sym (ap (λ x. x % 256) (div-one n))
byte_at-is (suc i) n = refl

pub bytes_from : (i k n : ℕ) → bytes_low_first i k n ≡ low_bytes k (n / 256 ^ i)
bytes_from i zero n = refl
bytes_from i (suc k) n =
    let here = byte_at-is i n in
    let there = bytes_from (suc i) k n in
    let shifted : n / 256 ^ i / 256 ≡ n / 256 ^ suc i =
    div-div-eq-div-mul n (256 ^ i) 256 ∙ ap (λ x. n / x) (sym (pow-suc 256 i)) in
    rw (here, there, shifted) refl

pub bytes_first : (k n : ℕ) → bytes_low_first 0 k n ≡ low_bytes k n
bytes_first k n = bytes_from 0 k n ∙ ap (low_bytes k) (div-one n)

pub take-low_bytes : (j k n : ℕ) → j ≤ k → take j (low_bytes k n) ≡ low_bytes j n
take-low_bytes zero k n h = refl
take-low_bytes (suc j) zero n h = absurd (omega arith)
take-low_bytes (suc j) (suc k) n h = ap (λ xs. n % 256 ∷ xs) (take-low_bytes j k (n / 256) (omega arith))

pub length-low_bytes : (k n : ℕ) → length (low_bytes k n) ≡ k
length-low_bytes zero n = refl
length-low_bytes (suc k) n = ap suc (length-low_bytes k (n / 256))

-- What is cut off above does not reach the lowest bytes.
pub low_bytes-mod : (k b n : ℕ) → 8 * k ≤ b → low_bytes k (n % 2 ^ b) ≡ low_bytes k n
low_bytes-mod zero b n h = refl
low_bytes-mod (suc k) b n h =
    let whole : b - 8 + 8 ≡ b = omega arith in
    let parts : n % 2 ^ b ≡ n / 256 % 2 ^ (b - 8) * 256 + n % 256 =
    ap (λ x. n % 2 ^ x) (sym whole) ∙ mod-pow-add n (b - 8) 8 in
    let low : n % 2 ^ b % 256 ≡ n % 256 = omega arith in
    let high : n % 2 ^ b / 256 ≡ n / 256 % 2 ^ (b - 8) = omega arith in
    rw (low, high, low_bytes-mod k (b - 8) (n / 256) (omega arith)) refl

pub power : (k : ℕ) → 2 ^ (8 * suc k) ≡ 256 * 2 ^ (8 * k)
power k = let same : 8 * suc k ≡ 8 + 8 * k = omega arith in ap (λ x. 2 ^ x) same ∙ pow-add 2 8 (8 * k)

pub number-low_bytes : (k n : ℕ) → number (low_bytes k n) ≡ n % 2 ^ (8 * k)
number-low_bytes zero n = omega arith
number-low_bytes (suc k) n =
    let there = number-low_bytes k (n / 256) in
    let parts : n % 2 ^ (8 * k + 8) ≡ n / 256 % 2 ^ (8 * k) * 256 + n % 256 = mod-pow-add n (8 * k) 8 in
    let same : 8 * suc k ≡ 8 * k + 8 = omega arith in
    rw (there, same, parts) (omega arith)

pub number-lt : (bytes : List ℕ) → IsBytes bytes → number bytes < 2 ^ (8 * length bytes)
number-lt [] h = omega arith
number-lt (b ∷ bytes) h =
    let there = number-lt bytes h.1 in
    let here : b < 256 = h.0 in
    rw (power (length bytes)) (omega arith)

pub each-low_bytes : (k n : ℕ) → IsBytes (low_bytes k n)
each-low_bytes zero n = tt
each-low_bytes (suc k) n = (omega arith, each-low_bytes k (n / 256))
