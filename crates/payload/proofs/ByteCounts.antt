-- How many bytes a magnitude takes.
use Rattle.std.proofs.Common.{◌≡◌, ℕ, zero, suc, ◌+◌, ◌-◌, ◌*◌, ◌/◌, ◌^◌, ◌<◌, ◌≤◌, inl, inr, true, false, ltb, arith}
use Rattle.std.proofs.Common.{le-ltb, lt-ltb}
use Rattle.std.proofs.Math.Nat.{pow-le-pow_right, pow-suc}
use Rattle.std.proofs.lemmas.Nat.{leading_length}
use Rattle.std.proofs.lemmas.Bool.{cases_lt}
use Rattle.std.specs.Int.Count.{count_leading_zeros}
use Rattle.payload.specs.Extension.{first_that_fits}

-- A count that fits, and no smaller one does.
pub record IsFirst (from m count : ℕ) : Type 0 where
  pub fits : m < 2 ^ (8 * count - 1)
  pub others : (j : ℕ) → from ≤ j → j < count → 2 ^ (8 * j - 1) ≤ m

pub first_is : (more k m count : ℕ) → k ≤ count → count ≤ k + more → IsFirst k m count
    → first_that_fits more k m ≡ count
unfolding first_that_fits
first_is zero k m count low high h = omega arith
first_is (suc more) k m count low high h =
    elim (cases_lt k count) [
      | inl less ↦
          let here : ltb m (2 ^ (8 * k - 1)) ≡ false = le-ltb _ _ (h.others k (omega arith) less) in
          rw here (first_is more (k + 1) m count (omega arith) (omega arith)
          (record { fits = h.fits; others = λ j a b. h.others j (omega arith) b }))
      | inr same ↦
          let at : k ≡ count = omega arith in
          let here : ltb m (2 ^ (8 * k - 1)) ≡ true = lt-ltb _ _ (rw at h.fits) in
          rw here at
    ]

two_powers : {i j : ℕ} → i ≤ j → 2 ^ i ≤ 2 ^ j
two_powers h = pow-le-pow_right (omega arith) h

pub counted : (m : ℕ) → m < 2 ^ 127 → IsFirst 1 m ((128 - count_leading_zeros 128 m) / 8 + 1)
    × ((128 - count_leading_zeros 128 m) / 8 + 1 ≤ 16)
counted m h =
    let found = leading_length 128 m (omega arith) in
    let bits = found.0 in
    let is : 128 - count_leading_zeros 128 m ≡ bits = omega (arith, found.1) in
    let short : bits < 128 =
    elim (cases_lt bits 128) [
      | inl less ↦ less
      | inr more ↦ let big : 2 ^ 128 ≤ 2 ^ bits = two_powers more in
          absurd (omega (arith, found.3))
    ] in
    let fits : m < 2 ^ (8 * (bits / 8 + 1) - 1) =
    let wide : 2 ^ bits ≤ 2 ^ (8 * (bits / 8 + 1) - 1) = two_powers (omega arith) in omega (arith, found.2) in
    let others = λ (j : ℕ) (low : 1 ≤ j) (high : j < bits / 8 + 1).
    let wide : 2 ^ (suc (8 * j - 1)) ≤ 2 ^ bits = two_powers (omega arith) in
    let twice : 2 ^ (suc (8 * j - 1)) ≡ 2 ^ (8 * j - 1) * 2 = pow-suc 2 (8 * j - 1) in
    let under : 2 ^ (8 * j - 1) ≤ m = omega (arith, found.3) in under in
    rw is (record { fits = fits; others = others }, omega arith)

-- The count that is found is the first that fits.
pub finds : (more k m : ℕ) → m < 2 ^ (8 * (k + more) - 1)
    → IsFirst k m (first_that_fits more k m) × (k ≤ first_that_fits more k m) × (first_that_fits more k m ≤ k + more)
unfolding first_that_fits
finds zero k m h = (
  record { fits = (let same : k + 0 ≡ k = omega arith in rw same at h); others = λ j a b. absurd (omega arith) },
  omega arith,
  omega arith,
)
finds (suc more) k m h =
    elim (cases_lt m (2 ^ (8 * k - 1))) [
      | inl less ↦
          rw (lt-ltb _ _ less) (
            record { fits = less; others = λ j a b. absurd (omega arith) },
            omega arith,
            omega arith,
          )
      | inr past ↦
          let same : k + suc more ≡ k + 1 + more = omega arith in
          let next = finds more (k + 1) m (rw same at h) in
          let others : (j : ℕ) → k ≤ j → j < first_that_fits more (k + 1) m → 2 ^ (8 * j - 1) ≤ m = λ j a b.
          elim (cases_lt k j) [
            | inl above ↦ next.0.others j (omega arith) b
            | inr here ↦ let at : j ≡ k = omega arith in rw at past
          ] in
          rw (le-ltb _ _ past) (
            record { fits = next.0.fits; others = others },
            omega (arith, next.1),
            omega (arith, next.2),
          )
    ]
