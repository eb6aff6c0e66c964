-- Tests on numbers of 144 bits.
use Rattle.std.proofs.Common.{◌≡◌, ◌≢◌, ℕ, ◌+◌, ◌-◌, ◌*◌, ◌/◌, ◌%◌, ◌^◌, ◌<◌, ◌≤◌, inl, inr, false, ltb, ◌==◌, refl}
use Rattle.std.proofs.Common.{sym, ap, ◌∙◌, arith, le-ltb, lt-ltb, eq-eqb, ne_eqb, bit_and}
use Rattle.std.proofs.Math.Nat.{pow-le-pow_right, add-mul-mod_self_left}
use Rattle.std.proofs.lemmas.Nat.{one_shl, and_mask, field_of, pow-add}
use Rattle.std.proofs.lemmas.Bool.{cases_lt}
use Rattle.payload.specs.Extension.{magnitude}
use Rattle.payload.specs.Faults.{part}
use Rattle.payload.proofs.Extending.{magnitude_low, magnitude_high}

same_ltb : (a b c d : ℕ) → (a < b → c < d) → (b ≤ a → d ≤ c) → ltb a b ≡ ltb c d
same_ltb a b c d to back =
    elim (cases_lt a b) [
      | inl less ↦ lt-ltb a b less ∙ sym (lt-ltb c d (to less))
      | inr more ↦ le-ltb a b more ∙ sym (le-ltb c d (back more))
    ]

pub clear_above : (w low high n : ℕ) → 1 ≤ w → w ≤ 120 → low < 2 ^ 128 → low + 2 ^ 128 * high ≡ n → high ≡ 0
    → ltb low (1 * 2 ^ (w - 1) % 2 ^ 128) ≡ ltb (magnitude 144 n) (2 ^ (w - 1))
clear_above w low high n some few bound whole top =
    let same : n ≡ low = omega arith in
    rw (one_shl (w - 1) 128 (omega arith), same, magnitude_low 144 low (omega arith)) refl

pub set_above : (w low high n : ℕ) → 1 ≤ w → w ≤ 120 → low < 2 ^ 128 → low + 2 ^ 128 * high ≡ n → high ≡ 65535
    → ltb (2 ^ 128 - 1 - 1 * 2 ^ (w - 1) % 2 ^ 128) low ≡ ltb (magnitude 144 n) (2 ^ (w - 1))
set_above w low high n some few bound whole top =
    let half : 2 ^ (w - 1) ≤ 2 ^ 119 = pow-le-pow_right {n = 2} (omega arith) {j = 119} (omega arith) in
    rw (one_shl (w - 1) 128 (omega arith), magnitude_high 144 n (omega arith))
    (same_ltb _ _ _ _ (λ h. omega arith) (λ h. omega arith))

pub mixed_above : (w low high n : ℕ) → 1 ≤ w → w ≤ 120 → low < 2 ^ 128 → high < 2 ^ 16 → low + 2 ^ 128 * high ≡ n
    → high ≢ 0 → high ≢ 65535
    → false ≡ ltb (magnitude 144 n) (2 ^ (w - 1))
mixed_above w low high n some few bound top whole nonzero nonones =
    let half : 2 ^ (w - 1) ≤ 2 ^ 119 = pow-le-pow_right {n = 2} (omega arith) {j = 119} (omega arith) in
    elim (cases_lt n (2 ^ 143)) [
      | inl less ↦ rw (magnitude_low 144 n less) (sym (le-ltb _ _ (omega arith)))
      | inr more ↦ rw (magnitude_high 144 n more) (sym (le-ltb _ _ (omega arith)))
    ]

-- The test of the bits from the bit 141 on.
pub clear_above_141 : (low high n : ℕ) → low < 2 ^ 128 → low + 2 ^ 128 * high ≡ n → high / 8192 ≡ 0
    → (high / 8192 == 0) ≡ ltb (magnitude 144 n) (2 ^ 141)
clear_above_141 low high n bound whole top =
    eq-eqb _ _ top ∙ sym (rw (magnitude_low 144 n (omega arith)) (lt-ltb _ _ (omega arith)))

pub not_clear_above_141 : (low high n : ℕ) → low < 2 ^ 128 → high < 2 ^ 16 → low + 2 ^ 128 * high ≡ n → high / 8192 ≢ 0
    → (high / 8192 == 7) ≡ ltb (magnitude 144 n) (2 ^ 141)
not_clear_above_141 low high n bound most whole some =
    elim (cases_lt (high / 8192) 7) [
      | inl mixed ↦ ne_eqb (high / 8192) 7 (λ e. absurd (omega arith))
          ∙ sym (elim (cases_lt n (2 ^ 143)) [
            | inl less ↦ rw (magnitude_low 144 n less) (le-ltb _ _ (omega arith))
            | inr more ↦ rw (magnitude_high 144 n more) (le-ltb _ _ (omega arith))
          ])
      | inr set ↦
          eq-eqb (high / 8192) 7 (omega arith) ∙ sym (rw (magnitude_high 144 n (omega arith))
          (lt-ltb _ _ (omega arith)))
    ]

-- A field below 2 ^ 128 is a field of the low part.
pub low_part : (low high from width : ℕ) → 1 ≤ width → from + width ≤ 128 → width ≤ 64
    → bit_and (low / 2 ^ from) (1 * 2 ^ width % 2 ^ 128 - 1) ≡ part (low + 2 ^ 128 * high) from width
low_part low high from width some inside narrow =
    let whole : 2 ^ 128 ≡ 2 ^ (width + from) * 2 ^ (128 - (width + from)) =
    (let e : 128 ≡ width + from + (128 - (width + from)) = omega arith in
    ap (λ x. 2 ^ x) e ∙ pow-add 2 (width + from) (128 - (width + from))) in
    let split : low + 2 ^ 128 * high ≡ low + 2 ^ (width + from) * (2 ^ (128 - (width + from)) * high) =
    rw whole (omega arith) in
    let cut : (low + 2 ^ 128 * high) % 2 ^ (width + from) ≡ low % 2 ^ (width + from) =
    ap (λ x. x % 2 ^ (width + from)) split ∙ add-mul-mod_self_left low (2 ^ (width + from))
    (2 ^ (128 - (width + from)) * high) in
    rw (one_shl width 128 (omega arith), and_mask (low / 2 ^ from) width)
    (sym (field_of low width from) ∙ ap (λ x. x / 2 ^ from) (sym cut) ∙ field_of (low + 2 ^ 128 * high) width from)
