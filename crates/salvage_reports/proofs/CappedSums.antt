-- Sums that are counted up to the greatest number.
use Rattle.std.proofs.Common.{◌≡◌, ◌⊎◌, inl, inr, ℕ, zero, suc, ◌+◌, ◌-◌, ◌^◌, ◌<◌, ◌≤◌, sym, ap, subst, ◌∙◌, arith}
use Rattle.std.specs.Prelude.{if◌then◌else◌}
use Rattle.std.proofs.lemmas.Bool.{cases_lt, le-ltb, lt-ltb}
use Rattle.salvage_reports.specs.Totals.{capped}

pub capped_small : (n : ℕ) → n < 2 ^ 64 → capped n ≡ n
capped_small n few = ap (λ b. if b then n else 2 ^ 64 - 1) (lt-ltb n (2 ^ 64) few)

pub capped_large : (n : ℕ) → 2 ^ 64 ≤ n → capped n ≡ 2 ^ 64 - 1
capped_large n many = ap (λ b. if b then n else 2 ^ 64 - 1) (le-ltb n (2 ^ 64) many)

pub capped_fits : (n : ℕ) → capped n < 2 ^ 64
capped_fits n = by_size (cases_lt n (2 ^ 64))
  where
    by_size : (n < 2 ^ 64) ⊎ (2 ^ 64 ≤ n) → capped n < 2 ^ 64
    by_size (inl few) = subst (λ k. k < 2 ^ 64) (sym (capped_small n few)) few
    by_size (inr many) = subst (λ k. k < 2 ^ 64) (sym (capped_large n many)) (omega arith)

pub fits_by : (sum n : ℕ) → sum ≡ capped n → sum < 2 ^ 64
fits_by sum n is = subst (λ k. k < 2 ^ 64) (sym is) (capped_fits n)

-- It is the same whether a part of the sum was counted before.
pub capped_more : (n m : ℕ) → capped (capped n + m) ≡ capped (n + m)
capped_more n m = by_size (cases_lt n (2 ^ 64))
  where
    by_size : (n < 2 ^ 64) ⊎ (2 ^ 64 ≤ n) → capped (capped n + m) ≡ capped (n + m)
    by_size (inl few) = ap (λ k. capped (k + m)) (capped_small n few)
    by_size (inr many) =
        ap (λ k. capped (k + m)) (capped_large n many) ∙ by_rest m ∙ sym (capped_large (n + m) (omega (arith, many)))
      where
        by_rest : (m : ℕ) → capped (2 ^ 64 - 1 + m) ≡ 2 ^ 64 - 1
        by_rest zero = capped_small (2 ^ 64 - 1) (omega arith)
        by_rest (suc m) = capped_large (2 ^ 64 - 1 + suc m) (omega arith)

-- One item more is counted, and the rest is still to come.
pub capped_step : (sum more new rest left all : ℕ) → new ≡ capped (sum + more) → rest ≡ more + left
    → capped (sum + rest) ≡ all → capped (new + left) ≡ all
capped_step sum more new rest left all new_is rest_is so_far =
    let same : sum + more + left ≡ sum + rest = omega (arith, rest_is) in
    ap (λ n. capped (n + left)) new_is ∙ capped_more (sum + more) left ∙ ap capped same ∙ so_far

-- Nothing is left.
pub capped_end : (sum rest all : ℕ) → sum < 2 ^ 64 → rest ≡ 0 → capped (sum + rest) ≡ all → sum ≡ all
capped_end sum rest all few none so_far =
    let same : sum + rest ≡ sum = omega (arith, none) in
    sym (capped_small sum few) ∙ sym (ap capped same) ∙ so_far
