-- The bytes of the number that bytes spell.
use Rattle.std.proofs.Common.{◌≡◌, ◌<◌, ◌≤◌, ◌+◌, ◌*◌, ◌/◌, ◌%◌, ◌^◌, ℕ, zero, suc, List, [], ◌∷◌, length, take}
use Rattle.std.proofs.Common.{slice_index, refl, sym, ap, ◌∙◌, arith}
use Rattle.std.proofs.Math.Nat.{div-div-eq-div-mul, pow-succ'}
use Rattle.std.specs.Int.{byte_at, bytes_low_first}
use Rattle.byteorder.specs.Endian.{little_from, little_number, little_bytes}
use Rattle.byteorder.specs.Numbers.{little_from-cons}
use Rattle.payload.proofs.ByteLists.{byte_at-is}

-- A byte above the lowest is a byte of the number without its lowest byte.
byte_at-suc : (j b y : ℕ) → b < 256 → byte_at (suc j) (b + 256 * y) ≡ byte_at j y
byte_at-suc j b y h =
    let rest : (b + 256 * y) / 256 ≡ y = omega (arith, h) in
    let power : 256 ^ suc j ≡ 256 * 256 ^ j = pow-succ' 256 j in
    let shift : (b + 256 * y) / 256 ^ suc j ≡ (b + 256 * y) / 256 / 256 ^ j =
    ap (λ (p : ℕ). (b + 256 * y) / p) power ∙ sym (div-div-eq-div-mul (b + 256 * y) 256 (256 ^ j)) in
    byte_at-is (suc j) (b + 256 * y) ∙ ap (λ (q : ℕ). q % 256) (shift ∙ ap (λ (q : ℕ). q / 256 ^ j) rest)
    ∙ sym (byte_at-is j y)

-- The bytes above the lowest are those of the number without its lowest byte.
bytes_low_first-suc : (n j b y : ℕ) → b < 256 → bytes_low_first (suc j) n (b + 256 * y) ≡ bytes_low_first j n y
bytes_low_first-suc zero j b y h = refl
bytes_low_first-suc (suc n) j b y h = rw (byte_at-suc j b y h, bytes_low_first-suc n (suc j) b y h) refl

-- The bytes of the number that the first bytes spell are those bytes.
pub little_bytes-little_number : (n : ℕ) (xs : List ℕ) → n ≤ length xs → ((k : ℕ) → slice_index xs k < 256)
    → little_bytes n (little_number n xs) ≡ take n xs
little_bytes-little_number zero xs h bytes = refl
little_bytes-little_number (suc n) [] h bytes = absurd (omega (arith, h))
little_bytes-little_number (suc n) (x ∷ xs) h bytes =
    let first : x < 256 = bytes 0 in
    let moved = little_from-cons 0 n x xs in
    let lowest : (x + 256 * little_from 0 n xs) % 256 ≡ x = omega (arith, first) in
    let rest = bytes_low_first-suc n 0 x (little_from 0 n xs) first
    ∙ little_bytes-little_number n xs (omega (arith, h)) (λ k. bytes (suc k)) in
    rw (moved, lowest, rest) refl
