-- The line of a retirement whose address has eight digits.
use Rattle.std.proofs.Common.{◌≡◌, ◌≤◌, ◌<◌, ◌+◌, ◌/◌, ◌%◌, ◌==◌, ℕ, [], ◌∷◌, false, arith, refl, rules}
use Rattle.std.proofs.lemmas.Bool.{ne_eqb}
use Rattle.std.specs.Fmt.{digit_glyph, digits}
use Rattle.retire.specs.LogText.{event_line, hex}
use Rattle.retire.specs.declared.event.Event.TheVariants.{Retire}

-- The digit of a value.
abbrev pub glyph : ℕ → ℕ
glyph value = digit_glyph false value

-- That of a value below ten stands so far behind `0`.
pub glyph-low : (value : ℕ) → value < 10 → 48 + value ≡ glyph value
glyph-low value low = search (rules, arith)

hex-one : (n : ℕ) → n < 16 → hex n ≡ glyph n ∷ []
unfolding digits
hex-one n small =
    let last : n / 16 ≡ 0 = omega arith in
    let same : n % 16 ≡ n = omega arith in
    rw (last, same) refl

more : (n : ℕ) → 16 ≤ n → (n / 16 == 0) ≡ false
more n some = ne_eqb (n / 16) 0 (λ e. absurd (omega (arith, e)))

hex-eight : (n seven six five four three two one : ℕ) → seven ≡ n / 16 → six ≡ seven / 16 → five ≡ six / 16
    → four ≡ five / 16 → three ≡ four / 16 → two ≡ three / 16 → one ≡ two / 16
    → 268435456 ≤ n → n ≤ 4294967295
    → hex n ≡ glyph one ∷ glyph (two % 16) ∷ glyph (three % 16) ∷ glyph (four % 16) ∷ glyph (five % 16) ∷ glyph
    (six % 16) ∷ glyph (seven % 16) ∷ glyph (n % 16) ∷ []
unfolding digits
hex-eight n seven six five four three two one e7 e6 e5 e4 e3 e2 e1 low high =
    let last : one / 16 ≡ 0 = omega arith in
    let first : one % 16 ≡ one = omega arith in
    rw (
      more n (omega arith),
      ← e7,
      more seven (omega arith),
      ← e6,
      more six (omega arith),
      ← e5,
      more five (omega arith),
      ← e4,
      more four (omega arith),
      ← e3,
      more three (omega arith),
      ← e2,
      more two (omega arith),
      ← e1,
      last,
      first,
    ) refl

-- The digits of eight, two in each byte.
hex-bytes : (n : ℕ) → 268435456 ≤ n → n ≤ 4294967295
    → hex n ≡ glyph (n / 16777216 / 16) ∷ glyph (n / 16777216 % 16) ∷ glyph (n / 65536 % 256 / 16) ∷ glyph
    (n / 65536 % 256 % 16) ∷ glyph (n / 256 % 256 / 16) ∷ glyph (n / 256 % 256 % 16) ∷ glyph (n % 256 / 16) ∷ glyph
    (n % 256 % 16) ∷ []
hex-bytes n low high =
    let e1 : n / 16777216 / 16 ≡ n / 16 / 16 / 16 / 16 / 16 / 16 / 16 = omega arith in
    let e2 : n / 16777216 % 16 ≡ n / 16 / 16 / 16 / 16 / 16 / 16 % 16 = omega arith in
    let e3 : n / 65536 % 256 / 16 ≡ n / 16 / 16 / 16 / 16 / 16 % 16 = omega arith in
    let e4 : n / 65536 % 256 % 16 ≡ n / 16 / 16 / 16 / 16 % 16 = omega arith in
    let e5 : n / 256 % 256 / 16 ≡ n / 16 / 16 / 16 % 16 = omega arith in
    let e6 : n / 256 % 256 % 16 ≡ n / 16 / 16 % 16 = omega arith in
    let e7 : n % 256 / 16 ≡ n / 16 % 16 = omega arith in
    let e8 : n % 256 % 16 ≡ n % 16 = omega arith in
    rw (e1, e2, e3, e4, e5, e6, e7, e8) (hex-eight n _ _ _ _ _ _ _ refl refl refl refl refl refl refl low high)

pub short-line : (n itype priv : ℕ) → 268435456 ≤ n → n ≤ 4294967295 → itype < 16 → priv < 16
    → glyph (n / 16777216 / 16) ∷ glyph (n / 16777216 % 16) ∷ glyph (n / 65536 % 256 / 16) ∷ glyph
    (n / 65536 % 256 % 16) ∷ glyph (n / 256 % 256 / 16) ∷ glyph (n / 256 % 256 % 16) ∷ glyph (n % 256 / 16) ∷ glyph
    (n % 256 % 16)
    ∷ 44 ∷ glyph itype ∷ 44 ∷ glyph priv ∷ 44 ∷ 44 ∷ 10 ∷ [] ≡ event_line (Retire n itype priv)
short-line n itype priv low high type level = rw (hex-bytes n low high, hex-one itype type, hex-one priv level) refl
