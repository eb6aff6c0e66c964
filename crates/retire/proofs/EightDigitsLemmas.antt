-- Eight digits, which the sum of their values shows.
use Rattle.std.proofs.Common.{◌≡◌, ◌≤◌, ◌<◌, ◌*◌, ◌+◌, ◌∙◌, ℕ, List, true, get_or, length, arith, refl, inl, inr}
use Rattle.std.specs.Char.{digit_value}
use Rattle.std.proofs.lemmas.Bool.{cases_Bool}
use Rattle.retire.specs.Number.{hex_value, is_hex_digit}
use Rattle.retire.specs.steps.Excess.{value_or_excess}
use Rattle.retire.specs.steps.PlainRow.{HasDigits}
use Rattle.retire.proofs.NumberLemmas.{AreRead, digit_below_16, digit_read}

-- A byte with no excess is a digit.
is_digit : (byte value : ℕ) → value ≡ value_or_excess byte → value < 4294967296 → is_hex_digit byte ≡ true
is_digit byte value is small = elim (cases_Bool (is_hex_digit byte)) [
  | inl digit ↦ digit
  | inr none ↦ let e : value_or_excess byte ≡ 4294967296 = rw none refl in absurd (omega (arith, small, is, e))
]

-- So it has this value.
one_digit : (byte value : ℕ) → value ≡ value_or_excess byte → value < 4294967296
    → (value ≡ hex_value byte) × (hex_value byte ≡ 16 → ⊥)
one_digit byte value is small =
    let digit = is_digit byte value is small in
    let low = digit_below_16 byte digit in
    let excess : value_or_excess byte ≡ digit_value byte = rw digit refl in
    let same : hex_value byte ≡ digit_value byte = rw digit refl in
    (omega (arith, is, excess, same), λ e. omega (arith, low, e, same))

pub low_value : (byte : ℕ) → value_or_excess byte ≤ 4294967296
low_value byte = elim (cases_Bool (is_hex_digit byte)) [
  | inl digit ↦
      let low = digit_below_16 byte digit in
      let excess : value_or_excess byte ≡ digit_value byte = rw digit refl in
      omega (arith, low, excess)
  | inr none ↦ let e : value_or_excess byte ≡ 4294967296 = rw none refl in omega (arith, e)
]

-- Eight bytes whose sum has no excess.
pub eight-digits : (bytes : List ℕ) (v0 v1 v2 v3 v4 v5 v6 v7 : ℕ) → length bytes ≡ 8
    → v0 ≡ value_or_excess (get_or bytes 0 0)
    → v1 ≡ value_or_excess (get_or bytes 1 0)
    → v2 ≡ value_or_excess (get_or bytes 2 0)
    → v3 ≡ value_or_excess (get_or bytes 3 0)
    → v4 ≡ value_or_excess (get_or bytes 4 0)
    → v5 ≡ value_or_excess (get_or bytes 5 0)
    → v6 ≡ value_or_excess (get_or bytes 6 0)
    → v7 ≡ value_or_excess (get_or bytes 7 0)
    → v0 * 268435456 + v1 * 16777216 + v2 * 1048576 + v3 * 65536 + v4 * 4096 + v5 * 256 + v6 * 16 + v7
    < 4294967296
    → HasDigits bytes (v0 * 268435456 + v1 * 16777216 + v2 * 1048576 + v3 * 65536 + v4 * 4096 + v5 * 256 + v6 * 16
    + v7) 8
eight-digits bytes v0 v1 v2 v3 v4 v5 v6 v7 len e0 e1 e2 e3 e4 e5 e6 e7 small =
    let (i0, o0) = one_digit (get_or bytes 0 0) v0 e0 (omega (arith, small)) in
    let (i1, o1) = one_digit (get_or bytes 1 0) v1 e1 (omega (arith, small)) in
    let (i2, o2) = one_digit (get_or bytes 2 0) v2 e2 (omega (arith, small)) in
    let (i3, o3) = one_digit (get_or bytes 3 0) v3 e3 (omega (arith, small)) in
    let (i4, o4) = one_digit (get_or bytes 4 0) v4 e4 (omega (arith, small)) in
    let (i5, o5) = one_digit (get_or bytes 5 0) v5 e5 (omega (arith, small)) in
    let (i6, o6) = one_digit (get_or bytes 6 0) v6 e6 (omega (arith, small)) in
    let (i7, o7) = one_digit (get_or bytes 7 0) v7 e7 (omega (arith, small)) in
    let r0 : AreRead bytes 0 0 = record { small = omega arith; digits = refl; spelt = refl } in
    let r1 = digit_read bytes 0 _ r0 (omega (arith, len)) o0 in
    let r2 = digit_read bytes 1 _ r1 (omega (arith, len)) o1 in
    let r3 = digit_read bytes 2 _ r2 (omega (arith, len)) o2 in
    let r4 = digit_read bytes 3 _ r3 (omega (arith, len)) o3 in
    let r5 = digit_read bytes 4 _ r4 (omega (arith, len)) o4 in
    let r6 = digit_read bytes 5 _ r5 (omega (arith, len)) o5 in
    let r7 = digit_read bytes 6 _ r6 (omega (arith, len)) o6 in
    let r8 = digit_read bytes 7 _ r7 (omega (arith, len)) o7 in
    (omega arith, omega (arith, len), r8.digits, omega (arith, i0, i1, i2, i3, i4, i5, i6, i7) ∙ r8.spelt)
