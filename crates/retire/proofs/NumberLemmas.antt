-- The digits of a number, read one by one.
use Rattle.std.proofs.Common.{◌≡◌, ◌≤◌, ◌<◌, ◌^◌, ◌*◌, ◌+◌, ℕ, List, true, false, length}
use Rattle.std.proofs.Common.{take, get_or, arith, rules, refl, add-one, lit<, inl, inr}
use Rattle.std.specs.Char.{digit_value}
use Rattle.std.specs.List.{list_all}
use Rattle.std.specs.Str.Parse.{digits_value}
use Rattle.std.proofs.Math.Nat.{pow-le-pow_right, pow-suc}
use Rattle.std.proofs.lemmas.Bool.{cases_Bool}
use Rattle.std.proofs.lemmas.Int.Digits.{digits_value_more}
use Rattle.std.proofs.lemmas.List.Folds.{list_all_more}
use Rattle.retire.specs.Number.{hex_value, is_hex_digit}

-- A number of at most fifteen digits leaves room for one more.
pub below_room : (value i : ℕ) → value < 16 ^ i → i < 16 → value < 2 ^ 60
below_room value i h n =
    let m : 16 ^ i ≤ 16 ^ 15 = pow-le-pow_right (lit< tt) {i = i} {j = 15} (omega arith) in
    let k : 16 ^ 15 ≡ 2 ^ 60 = refl in
    omega (arith, m, k, h)

one_digit_more : (value i d : ℕ) → value < 16 ^ i → d < 16 → value * 16 + d < 16 ^ (i + 1)
one_digit_more value i d h n =
    let e : 16 ^ (i + 1) ≡ 16 ^ i * 16 = rw add-one (pow-suc 16 i) in
    rw e (omega (arith, h, n))

pub digit_below_16 : (byte : ℕ) → is_hex_digit byte ≡ true → digit_value byte < 16
digit_below_16 byte e = search (rules, arith)

digit_not_16 : (byte : ℕ) → is_hex_digit byte ≡ true → digit_value byte ≡ 16 → ⊥
digit_not_16 byte digit e =
    let below = digit_below_16 byte digit in
    omega (arith, below, e)

-- A byte of any other value than 16 is a digit of that value.
pub is_hex_digit-value : (byte : ℕ) → (hex_value byte ≡ 16 → ⊥) → is_hex_digit byte ≡ true
is_hex_digit-value byte other = elim (cases_Bool (is_hex_digit byte)) [
  | inl digit ↦ digit
  | inr none ↦ absurd (other (rw none refl))
]

pub is_hex_digit-no_value : (byte : ℕ) → hex_value byte ≡ 16 → is_hex_digit byte ≡ false
is_hex_digit-no_value byte e = elim (cases_Bool (is_hex_digit byte)) [
  | inl digit ↦ let e2 : digit_value byte ≡ 16 = rw digit at e in absurd (digit_not_16 byte digit e2)
  | inr none ↦ none
]

pub hex_value-small : (byte : ℕ) → (hex_value byte ≡ 16 → ⊥) → hex_value byte < 16
hex_value-small byte other =
    let digit = is_hex_digit-value byte other in
    rw digit (digit_below_16 byte digit)

pub list_all-digit_more : (text : List ℕ) (i : ℕ) → i < length text → (hex_value (get_or text i 0) ≡ 16 → ⊥)
    → list_all is_hex_digit (take i text) ≡ true → list_all is_hex_digit (take (i + 1) text) ≡ true
list_all-digit_more text i n other all =
    rw (list_all_more is_hex_digit text i 0 n, all, is_hex_digit-value (get_or text i 0) other) refl

pub digits_value-digit_more : (text : List ℕ) (i : ℕ) → i < length text → (hex_value (get_or text i 0) ≡ 16 → ⊥)
    → digits_value 16 (take (i + 1) text) ≡ digits_value 16 (take i text) * 16 + hex_value (get_or text i 0)
digits_value-digit_more text i n other =
    rw (digits_value_more 16 text i n, is_hex_digit-value (get_or text i 0) other) refl

-- So many bytes of a text were read: they are digits, and this is their number.
pub record AreRead (text : List ℕ) (count value : ℕ) : Type 0 where
  pub small : value < 16 ^ count
  pub digits : list_all is_hex_digit (take count text) ≡ true
  pub spelt : value ≡ digits_value 16 (take count text)

-- There is room for one digit more.
pub room_for_digit : (text : List ℕ) (count value : ℕ) → AreRead text count value → count < 16
    → (hex_value (get_or text count 0) ≡ 16 → ⊥) → value * 16 + hex_value (get_or text count 0) < 2 ^ 64
room_for_digit text count value read few other =
    let room = below_room value count read.small few in
    let digit = hex_value-small (get_or text count 0) other in
    omega (arith, room, digit)

-- It is read.
pub digit_read : (text : List ℕ) (count value : ℕ) → AreRead text count value → count < length text
    → (hex_value (get_or text count 0) ≡ 16 → ⊥)
    → AreRead text (count + 1) (value * 16 + hex_value (get_or text count 0))
digit_read text count value read within other = record {
  small = one_digit_more value count _ read.small (hex_value-small (get_or text count 0) other);
  digits = list_all-digit_more text count within other read.digits;
  spelt = rw (digits_value-digit_more text count within other, ← read.spelt) refl;
}
