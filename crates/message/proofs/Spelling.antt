-- What decimal digits spell no hart.
use Rattle.std.proofs.Common.{◌≡◌, ◌&&◌, ◌∙◌, ℕ, Bool, true, false, List, [], ◌∷◌, Some, None, Err, refl, ap, sym}
use Rattle.std.proofs.Common.{arith, length, nat_lt}
use Rattle.std.specs.Prelude.{if◌then◌else◌}
use Rattle.std.specs.Char.{is_ascii_digit}
use Rattle.std.specs.List.{list_all}
use Rattle.std.specs.Str.{all_ascii_digits}
use Rattle.std.specs.Str.Parse.{ParsesUnsigned, digits_value}
use Rattle.std.proofs.lemmas.Bool.{ltb-true}
use Rattle.std.proofs.lemmas.Str.Parse.{numerals_by_value, parse_digits, tells_all_ascii_digits}
use Rattle.message.specs.Text.{hart_of}

same_digits : (text : List ℕ) → list_all is_ascii_digit text ≡ all_ascii_digits text
same_digits [] = refl
same_digits (byte ∷ text) = ap (λ b. is_ascii_digit byte && b) (same_digits text)

none_by : (some few : Bool) (value : ℕ) → (some ≡ true → few ≡ true → ⊥)
    → None ≡ (if true && (some && few) then Some value else None)
none_by true true value never = absurd (never refl refl)
none_by true false value never = refl
none_by false few value never = refl

-- Digits that are read as no number of 16 bits spell no hart.
pub none_spelt : {E : Type 0} (text : List ℕ) (why : E) → list_all is_ascii_digit text ≡ true
    → ParsesUnsigned 16 10 text (Err why) → None ≡ hart_of text
none_spelt text why digits unread =
    let none = parse_digits (numerals_by_value (λ ds. all_ascii_digits ds ≡ true) tells_all_ascii_digits) 16 text
    (Err why) unread (sym (same_digits text) ∙ digits) in
    rw digits (none_by (nat_lt 0 (length text)) (nat_lt (digits_value 10 text) 1024) (digits_value 10 text)
    (λ some few. let one = ltb-true 0 (length text) some in let less = ltb-true (digits_value 10 text) 1024 few in
    none (one, omega (arith, less))))
