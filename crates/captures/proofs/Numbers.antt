-- The digits of a number, read one by one.
use Rattle.std.proofs.Common.{◌≡◌, ◌≤◌, ◌<◌, ◌*◌, ◌+◌, ◌&&◌, ◌∙◌, ℕ, Bool, true, false, List, [], ◌∷◌, Some, None}
use Rattle.std.proofs.Common.{length, take, get_or, arith, refl, ap, sym, nat_lt}
use Rattle.std.specs.Prelude.{if◌then◌else◌}
use Rattle.std.specs.Char.{digit_value, is_digit}
use Rattle.std.specs.List.{list_all}
use Rattle.std.specs.Str.Parse.{digits_value}
use Rattle.std.proofs.lemmas.Int.Digits.{digits_value_more}
use Rattle.std.proofs.lemmas.List.{take_all}
use Rattle.std.proofs.lemmas.List.Folds.{list_all_more}
use Rattle.std.proofs.lemmas.Str.Parse.{digits_value-take-le}
use Rattle.captures.specs.Line.{number_below}

abbrev is_decimal : ℕ → Bool
is_decimal byte = is_digit byte 10

-- So many bytes of a text were read: they are digits, and this is their number.
pub record AreRead (text : List ℕ) (count value : ℕ) : Type 0 where
  pub digits : list_all is_decimal (take count text) ≡ true
  pub spelt : value ≡ digits_value 10 (take count text)

-- One digit more is read.
pub digit_read : (text : List ℕ) (count value : ℕ) → AreRead text count value → count < length text
    → is_digit (get_or text count 0) 10 ≡ true
    → AreRead text (count + 1) (value * 10 + digit_value (get_or text count 0))
digit_read text count value read inside digit = record {
  digits = rw (list_all_more is_decimal text count 0 inside, read.digits, digit) refl;
  spelt =
      ap (λ n. n * 10 + digit_value (get_or text count 0)) read.spelt ∙ sym (digits_value_more 10 text count inside);
}

-- What number digits spell, by the tests of the definition.
pub by_tests : (limit : ℕ) (text : List ℕ) → 0 < length text
    → number_below limit text
    ≡ (if list_all is_decimal text && nat_lt (digits_value 10 text) limit then Some (digits_value 10 text) else None)
by_tests limit [] some = absurd (omega (arith, some))
by_tests limit (digit ∷ digits) some = refl

both_fail : (b : Bool) (value limit : ℕ) → limit ≤ value
    → (if b && nat_lt value limit then Some value else None) ≡ None
both_fail true value limit over = let past : nat_lt value limit ≡ false = search (arith) in rw past refl
both_fail false value limit over = refl

-- A number that reaches the limit with one digit more is not below it.
pub too_large : (limit : ℕ) (text : List ℕ) (count value : ℕ) → AreRead text count value → count < length text
    → limit ≤ value * 10 + digit_value (get_or text count 0) → None ≡ number_below limit text
too_large limit text count value read inside over =
    let more = ap (λ n. n * 10 + digit_value (get_or text count 0)) read.spelt
    ∙ sym (digits_value_more 10 text count inside) in
    let most = digits_value-take-le 10 text (count + 1) (omega arith) in
    sym (by_tests limit text (omega (arith, inside))
    ∙ both_fail (list_all is_decimal text) (digits_value 10 text) limit (omega (arith, over, more, most)))

-- All bytes are read.
pub all_read : (limit : ℕ) (text : List ℕ) (count value : ℕ) → AreRead text count value → length text ≤ count
    → 0 < length text → value < limit → Some value ≡ number_below limit text
all_read limit text count value read past some below =
    let all : take count text ≡ text = take_all count text past in
    let digits : list_all is_decimal text ≡ true = rw all at read.digits in
    let spelt : value ≡ digits_value 10 text = rw all at read.spelt in
    let less : nat_lt (digits_value 10 text) limit ≡ true = search (arith, spelt, below) in
    sym (by_tests limit text some ∙ rw (digits, less) (ap Some (sym spelt)))

-- A number that is not below 2^64 is below no smaller limit, and one that is below it is compared with that limit.
