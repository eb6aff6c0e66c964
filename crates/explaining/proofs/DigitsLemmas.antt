-- What a hole with a width writes.
use Rattle.std.proofs.Common.{◌≡◌, ◌-◌, ◌^◌, ℕ, List, [], ◌++◌, ◌==◌, true, false}
use Rattle.std.proofs.Common.{cond, length, replicate, sym, ap, ◌∙◌}
use Rattle.std.proofs.Common.{append-nil, arith}
use Rattle.std.proofs.lemmas.Bool.Decides.{nat_tests}
use Rattle.std.specs.Fmt.{char_count, digits, format_spec, padded_integral}
use Rattle.explaining.specs.Digits.{code_text, hex_filled}

-- The text of a hole of this width, with zeros in front.
abbrev zero_filled : ℕ → List ℕ → List ℕ
zero_filled width numeral = padded_integral (format_spec 32 0 4 width (2 ^ 64 - 1)) false [] numeral

filled : (width : ℕ) (numeral : List ℕ)
    → zero_filled width numeral ≡ replicate (width - length numeral) 48 ++ numeral
unfolding padded_integral char_count
filled width numeral =
    let zeros : width - length numeral - 0 - 0 ≡ width - length numeral = omega arith in
    ap (λ k. replicate k 48 ++ (numeral ++ [])) zeros
    ∙ ap (λ l. replicate (width - length numeral) 48 ++ l) (append-nil numeral)

-- The digits of a word of 2 bytes, and of another.
pub code_of_2 : (bytes code : ℕ) → bytes ≡ 2 → zero_filled 4 (digits 16 false code) ≡ code_text bytes code
code_of_2 bytes code two =
    let test : (bytes == 2) ≡ true = grind (arith, nat_tests) in
    filled 4 (digits 16 false code) ∙ sym (ap (λ b. cond b (hex_filled 4 code) (hex_filled 8 code)) test)

pub code_of_4 : (bytes code : ℕ) → ¬ (bytes ≡ 2) → zero_filled 8 (digits 16 false code) ≡ code_text bytes code
code_of_4 bytes code other =
    let test : (bytes == 2) ≡ false = grind (arith, nat_tests) in
    filled 8 (digits 16 false code) ∙ sym (ap (λ b. cond b (hex_filled 4 code) (hex_filled 8 code)) test)
