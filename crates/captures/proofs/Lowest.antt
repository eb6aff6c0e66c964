-- The number that a field stands for, from the lowest on.
use Rattle.std.proofs.Common.{◌≡◌, ◌⊎◌, ◌≤◌, ◌<◌, ◌+◌, ◌-◌, ◌*◌, ◌/◌, ◌%◌, ℕ, arith, ap, inl}
use Rattle.std.proofs.Common.{inr}
use Rattle.std.specs.Prelude.{if◌then◌else◌}
use Rattle.std.proofs.lemmas.Bool.{cases_lt, le-ltb, lt-ltb}
use Rattle.std.proofs.lemmas.Nat.{div-add-mod', mod_below, mul-le}
use Rattle.captures.specs.Number.{first_from, not_below}

-- What is left of a number is not above it.
pub rest_within : (lowest numbers : ℕ) → lowest % numbers ≤ lowest
rest_within lowest numbers = omega (arith, div-add-mod' lowest numbers)

not_below_is : (lowest numbers number : ℕ)
    → ((number < lowest) × (not_below lowest numbers number ≡ number + numbers))
    ⊎ ((lowest ≤ number) × (not_below lowest numbers number ≡ number))
not_below_is lowest numbers number = elim (cases_lt number lowest) [
  | inl less ↦ inl (less, ap (λ b. if b then number + numbers else number) (lt-ltb number lowest less))
  | inr more ↦ inr (more, ap (λ b. if b then number + numbers else number) (le-ltb number lowest more))
]

-- The number is one of so many from the lowest on, and leaves the field.
pub record IsFirst (numbers lowest field number : ℕ) : Type 0 where
  pub least : lowest ≤ number
  pub most : number < lowest + numbers
  pub count : ℕ
  pub leaves : number ≡ count * numbers + field

pub first_is : (numbers lowest field : ℕ) → field < numbers
    → IsFirst numbers lowest field (first_from numbers lowest field)
first_is numbers lowest field few =
    let rest = mod_below lowest numbers (omega (arith, few)) in
    let parts = div-add-mod' lowest numbers in
    let number = lowest - lowest % numbers + field in
    elim (not_below_is lowest numbers number) [
      | inl up ↦ record {
        least = omega (arith, up.0, up.1, rest, parts);
        most = omega (arith, up.0, up.1, rest, parts);
        count = lowest / numbers + 1;
        leaves = omega (arith, up.1, parts);
      }
      | inr at ↦ record {
        least = omega (arith, at.0, at.1);
        most = omega (arith, at.1, few, parts);
        count = lowest / numbers;
        leaves = omega (arith, at.1, parts);
      }
    ]

-- Of two numbers that leave the same, the greater is so many further on at least.
pub apart : (numbers field less more : ℕ) → less * numbers + field < more * numbers + field
    → less * numbers + numbers ≤ more * numbers
apart numbers field less more below = elim (cases_lt less more) [
  | inl lt ↦
      let step = mul-le (less + 1) numbers more numbers (omega (arith, lt)) (omega arith) in omega (arith, step)
  | inr ge ↦
      let step = mul-le more numbers less numbers ge (omega arith) in absurd (omega (arith, step, below))
]
