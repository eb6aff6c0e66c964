-- A table holds a function's values: they are compared at each place, by computing.
use Rattle.std.proofs.Common.{◌≡◌, ◌<◌, ◌==◌, ◌&&◌, ℕ, zero, suc, List, Bool, true, get_or, arith, inl}
use Rattle.std.proofs.Common.{inr}
use Rattle.std.proofs.lemmas.Bool.{cases_eq, eqb-true, and_parts}

-- The two agree below n.
unfoldable pub agree_below : (ℕ → ℕ) → (ℕ → ℕ) → ℕ → Bool
agree_below f g zero = true
agree_below f g (suc n) = (f n == g n) && agree_below f g n

-- So they do at each place below n.
pub agree_at : (f g : ℕ → ℕ) (n : ℕ) → agree_below f g n ≡ true → (b : ℕ) → b < n → f b ≡ g b
unfolding agree_below
agree_at f g zero h b low = absurd (omega arith)
agree_at f g (suc n) h b low =
    let both = and_parts (f n == g n) (agree_below f g n) h in
    elim (cases_eq b n)
    [ inl same ↦ rw same (eqb-true (f n) (g n) both.0) | inr other ↦ agree_at f g n both.1 b (omega arith) ]

pub table-at : (table : List ℕ) (f : ℕ → ℕ) (n b : ℕ) → b < n → agree_below (λ k. get_or table k 0) f n ≡ true
    → get_or table b 0 ≡ f b
table-at table f n b low h = agree_at (λ k. get_or table k 0) f n h b low
