-- What holds of each place of a row.
use Rattle.std.proofs.Common.{◌≡◌, ◌<◌, ◌≤◌, ◌+◌, ℕ, inl, inr, subst, arith}
use Rattle.std.proofs.lemmas.Bool.{cases_lt}

-- What holds of each place before one and of that one holds of each place up to it.
pub through : (P : ℕ → Type 0) (n : ℕ) → ((k : ℕ) → 1 ≤ k → k < n → P k) → P n → (k : ℕ) → 1 ≤ k → k < n + 1 → P k
through P n before here k some less =
    elim (cases_lt k n) [
      | inl earlier ↦ before k some earlier
      | inr later ↦ let same : n ≡ k = omega (arith, later, less) in subst P same here
    ]
