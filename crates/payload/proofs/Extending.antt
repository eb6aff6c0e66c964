-- Numbers that go on with copies of their top bit.
use Rattle.std.proofs.Common.{◌≡◌, ℕ, zero, suc, ◌+◌, ◌-◌, ◌*◌, ◌/◌, ◌%◌, ◌^◌, ◌<◌, ◌≤◌, inl, inr, refl, sym, ap, ◌∙◌}
use Rattle.std.proofs.Common.{arith, le-ltb, lt-ltb}
use Prim.Native.Nat.{min}
use Rattle.std.proofs.Math.Nat.{pow-le-pow_right, pow-suc, suc-mul, min-eq_left, min-eq_right, mod-eq_of_lt}
use Rattle.std.proofs.lemmas.Nat.{pow-add, mod_low, pow_pos, shr_high}
use Rattle.std.proofs.lemmas.Nat.Bits.{bit_at_above, bit_at_ones, bit_at_cat_low, bit_at_cat_high, same_from_bits_below}
use Rattle.std.proofs.lemmas.Bool.{cases_lt}
use Rattle.std.specs.Int.{bit_at}
use Rattle.payload.specs.Extension.{extended_bit, extended, magnitude}

less_one : (x y : ℕ) → 1 ≤ x → (x - 1) * y + y ≡ x * y
less_one zero y h = absurd (omega arith)
less_one (suc x) y h = let same : suc x - 1 ≡ x = omega arith in rw same (sym (suc-mul x y))

-- The sizes at a width.
pub record Sizes (w : ℕ) : Type 0 where
  pub half : 2 ^ w ≡ 2 * 2 ^ (w - 1)
  pub most : 2 ^ (w - 1) ≤ 2 ^ 143
  pub some : 1 ≤ 2 ^ (w - 1)
  pub rest : 2 ^ 144 ≡ 2 ^ (144 - w) * 2 ^ w
  pub ones : 1 ≤ 2 ^ (144 - w)

pub sizes : (w : ℕ) → 1 ≤ w → w ≤ 144 → Sizes w
sizes w low high = record {
  half =
      let whole : suc (w - 1) ≡ w = omega arith in
      let twice : 2 ^ suc (w - 1) ≡ 2 ^ (w - 1) * 2 = pow-suc 2 (w - 1) in
      let same : 2 ^ suc (w - 1) ≡ 2 ^ w = ap (λ x. 2 ^ x) whole in
      omega arith;
  most = pow-le-pow_right {n = 2} (omega arith) {j = 143} (omega arith);
  some = omega (arith, pow_pos (w - 1));
  rest = let whole : 144 - w + w ≡ 144 = omega arith in ap (λ x. 2 ^ x) (sym whole) ∙ pow-add 2 (144 - w) w;
  ones = omega (arith, pow_pos (144 - w));
}

-- The two cases of a number of so many bits.
pub extended_low : (w n : ℕ) → n < 2 ^ (w - 1) → extended w n ≡ n
unfolding extended
extended_low w n h = rw (lt-ltb _ _ h) refl

pub extended_high : (w n : ℕ) → 2 ^ (w - 1) ≤ n → extended w n ≡ n + (2 ^ 144 - 2 ^ w)
unfolding extended
extended_high w n h = rw (le-ltb _ _ h) refl

pub magnitude_low : (w n : ℕ) → n < 2 ^ (w - 1) → magnitude w n ≡ n
unfolding magnitude
magnitude_low w n h = rw (lt-ltb _ _ h) refl

pub magnitude_high : (w n : ℕ) → 2 ^ (w - 1) ≤ n → magnitude w n ≡ 2 ^ w - 1 - n
unfolding magnitude
magnitude_high w n h = rw (le-ltb _ _ h) refl

pub extended-lt : (w n : ℕ) → 1 ≤ w → w ≤ 144 → n < 2 ^ w → extended w n < 2 ^ 144
extended-lt w n low high h =
    let s = sizes w low high in
    let half = s.half in
    let most = s.most in
    elim (cases_lt n (2 ^ (w - 1))) [
      | inl less ↦ rw (extended_low w n less) (omega arith)
      | inr more ↦ rw (extended_high w n more) (omega arith)
    ]

pub magnitude-lt : (w n : ℕ) → 1 ≤ w → w ≤ 144 → n < 2 ^ w → magnitude w n < 2 ^ (w - 1)
magnitude-lt w n low high h =
    let s = sizes w low high in
    let half = s.half in
    let some = s.some in
    elim (cases_lt n (2 ^ (w - 1))) [
      | inl less ↦ rw (magnitude_low w n less) less
      | inr more ↦ rw (magnitude_high w n more) (omega arith)
    ]

pub magnitude_extended : (w n : ℕ) → 1 ≤ w → w ≤ 144 → n < 2 ^ w → magnitude 144 (extended w n) ≡ magnitude w n
magnitude_extended w n low high h =
    let s = sizes w low high in
    let half = s.half in
    let most = s.most in
    elim (cases_lt n (2 ^ (w - 1))) [
      | inl less ↦ rw (extended_low w n less, magnitude_low w n less) (magnitude_low 144 n (omega arith))
      | inr more ↦
          rw (extended_high w n more, magnitude_high w n more)
          (magnitude_high 144 (n + (2 ^ 144 - 2 ^ w)) (omega arith) ∙ omega arith)
    ]

-- What is cut off a number that goes on with copies of a bit comes back.
pub extended_mod : (w n : ℕ) → 1 ≤ w → w ≤ 144 → n < 2 ^ w → extended w n % 2 ^ w ≡ n
extended_mod w n low high h =
    let s = sizes w low high in
    let rest = s.rest in
    let ones = s.ones in
    elim (cases_lt n (2 ^ (w - 1))) [
      | inl less ↦ rw (extended_low w n less) (mod-eq_of_lt h)
      | inr more ↦ rw (extended_high w n more)
          (let split : n + (2 ^ 144 - 2 ^ w) ≡ (2 ^ (144 - w) - 1) * 2 ^ w + n =
          omega (arith, less_one (2 ^ (144 - w)) (2 ^ w) ones) in rw split (mod_low (2 ^ (144 - w) - 1) w n h))
    ]

pub cut : (w n : ℕ) → 1 ≤ w → w ≤ 144 → n < 2 ^ 144 → magnitude 144 n < 2 ^ (w - 1) → extended w (n % 2 ^ w) ≡ n
cut w n low high bound small =
    let s = sizes w low high in
    let half = s.half in
    let rest = s.rest in
    let ones = s.ones in
    let some = s.some in
    elim (cases_lt n (2 ^ 143)) [
      | inl less ↦
          let under : n < 2 ^ (w - 1) = (rw (magnitude_low 144 n less) at small) in
          let same : n % 2 ^ w ≡ n = mod-eq_of_lt (omega arith) in
          rw same (extended_low w n under)
      | inr more ↦
          let under : 2 ^ 144 - 1 - n < 2 ^ (w - 1) = (rw (magnitude_high 144 n more) at small) in
          let split : n ≡ (2 ^ (144 - w) - 1) * 2 ^ w + (n - (2 ^ 144 - 2 ^ w)) =
          omega (arith, less_one (2 ^ (144 - w)) (2 ^ w) ones) in
          let low_part : n % 2 ^ w ≡ n - (2 ^ 144 - 2 ^ w) =
          ap (λ x. x % 2 ^ w) split ∙ mod_low (2 ^ (144 - w) - 1) w (n - (2 ^ 144 - 2 ^ w)) (omega arith) in
          rw low_part (extended_high w (n - (2 ^ 144 - 2 ^ w)) (omega arith) ∙ omega arith)
    ]

top_bit : (w n : ℕ) → 1 ≤ w → n < 2 ^ w → 2 ^ (w - 1) ≤ n → bit_at n (w - 1) ≡ 1
top_bit w n low h more =
    let whole : suc (w - 1) ≡ w = omega arith in
    let twice : 2 ^ suc (w - 1) ≡ 2 ^ (w - 1) * 2 = pow-suc 2 (w - 1) in
    let same : 2 ^ suc (w - 1) ≡ 2 ^ w = ap (λ x. 2 ^ x) whole in
    let some : 0 < 2 ^ (w - 1) = pow_pos (w - 1) in
    let split : n ≡ 1 * 2 ^ (w - 1) + (n - 2 ^ (w - 1)) = omega arith in
    let one : n / 2 ^ (w - 1) ≡ 1 =
    ap (λ x. x / 2 ^ (w - 1)) split ∙ shr_high 1 (w - 1) (n - 2 ^ (w - 1)) (omega arith) in
    rw one refl

pub bit_of_extended : (w n i : ℕ) → 1 ≤ w → w ≤ 144 → n < 2 ^ w → i < 144 → bit_at (extended w n) i ≡ extended_bit w n i
bit_of_extended w n i low high h inside =
    let s = sizes w low high in
    let rest = s.rest in
    let ones = s.ones in
    let half = s.half in
    elim (cases_lt n (2 ^ (w - 1))) [
      | inl less ↦ rw (extended_low w n less)
          (elim (cases_lt i w) [
            | inl in_it ↦ let at : min i (w - 1) ≡ i = min-eq_left (omega arith) in rw at refl
            | inr past ↦
                let at : min i (w - 1) ≡ w - 1 = min-eq_right (omega arith) in
                rw (at, bit_at_above n (w - 1) i less (omega arith))
                (sym (bit_at_above n (w - 1) (w - 1) less (omega arith)))
          ])
      | inr more ↦
          let split : n + (2 ^ 144 - 2 ^ w) ≡ (2 ^ (144 - w) - 1) * 2 ^ w + n =
          omega (arith, less_one (2 ^ (144 - w)) (2 ^ w) ones) in
          rw (extended_high w n more, split)
          (elim (cases_lt i w) [
            | inl in_it ↦ let at : min i (w - 1) ≡ i = min-eq_left (omega arith) in
                rw at (bit_at_cat_low (2 ^ (144 - w) - 1) w n i in_it)
            | inr past ↦
                let at : min i (w - 1) ≡ w - 1 = min-eq_right (omega arith) in
                rw at (bit_at_cat_high (2 ^ (144 - w) - 1) w n i h past ∙ bit_at_ones (144 - w) (i - w) (omega arith)
                ∙ sym (top_bit w n low h more))
          ])
    ]

-- The bits are the same exactly where the numbers at 144 bits are.
pub same_number : (v a w b : ℕ) → 1 ≤ v → v ≤ 144 → a < 2 ^ v → 1 ≤ w → w ≤ 144 → b < 2 ^ w
    → ((i : ℕ) → extended_bit v a i ≡ extended_bit w b i) → extended v a ≡ extended w b
same_number v a w b lv hv ha lw hw hb each =
    same_from_bits_below 144 (extended v a) (extended w b) (extended-lt v a lv hv ha) (extended-lt w b lw hw hb)
    (λ i inside. bit_of_extended v a i lv hv ha inside ∙ each i ∙ sym (bit_of_extended w b i lw hw hb inside))

last_bit : (w n i : ℕ) → 1 ≤ w → w ≤ 144 → extended_bit w n i ≡ extended_bit w n (min i 143)
last_bit w n i low high = let same : min i (w - 1) ≡ min (min i 143) (w - 1) = omega arith in ap (bit_at n) same

pub same_bits : (v a w b : ℕ) → 1 ≤ v → v ≤ 144 → a < 2 ^ v → 1 ≤ w → w ≤ 144 → b < 2 ^ w
    → extended v a ≡ extended w b → (i : ℕ) → extended_bit v a i ≡ extended_bit w b i
same_bits v a w b lv hv ha lw hw hb same i =
    let inside : min i 143 < 144 = omega arith in
    last_bit v a i lv hv ∙ sym (bit_of_extended v a (min i 143) lv hv ha inside) ∙ ap (λ n. bit_at n (min i 143)) same
    ∙ bit_of_extended w b (min i 143) lw hw hb inside ∙ sym (last_bit w b i lw hw)
