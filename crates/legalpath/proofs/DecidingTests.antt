-- Tests that decide facts.
use Rattle.std.proofs.Common.{◌≡◌, ◌⊎◌, ◌≤◌, ◌<◌, ℕ, Bool, true, false, ◌&&◌, ◌||◌, nat_eq, nat_le, nat_lt, inl}
use Rattle.std.proofs.Common.{inr, refl, arith}
use Rattle.std.proofs.lemmas.Bool.Decides.{nat_tests}

-- The fact holds where the test is true, and does not where it is false.
pub record Decides (test : Bool) (P : Type 0) : Type 0 where
  pub holds : test ≡ true → P
  pub fails : test ≡ false → ¬ P

pub decides_true : {P : Type 0} → P → Decides true P
decides_true p = record { holds = λ e. p; fails = λ e. cc }

pub decides_false : {P : Type 0} → ¬ P → Decides false P
decides_false n = record { holds = λ e. cc; fails = λ e. n }

pub decides_eq : (a b : ℕ) → Decides (nat_eq a b) (a ≡ b)
decides_eq a b = record { holds = λ e. grind (arith, nat_tests); fails = λ e same. grind (arith, nat_tests) }

pub decides_le : (a b : ℕ) → Decides (nat_le a b) (a ≤ b)
decides_le a b = record { holds = λ e. grind (arith, nat_tests); fails = λ e le. grind (arith, nat_tests) }

pub decides_lt : (a b : ℕ) → Decides (nat_lt a b) (a < b)
decides_lt a b = record { holds = λ e. grind (arith, nat_tests); fails = λ e lt. grind (arith, nat_tests) }

-- The same test decides an equivalent fact.
pub decides-same : {test : Bool} {P Q : Type 0} → (P → Q) → (Q → P) → Decides test P → Decides test Q
decides-same to from t = record { holds = λ e. to (t.holds e); fails = λ e q. t.fails e (from q) }

-- The second test may count on the first fact.
pub decides-and : {a b : Bool} {P Q : Type 0} → Decides a P → (P → Decides b Q) → Decides (a && b) (P × Q)
decides-and {a} {b} {P} {Q} s t = go a refl
  where
    go : (v : Bool) → a ≡ v → Decides (v && b) (P × Q)
    go true e = let p = s.holds e in record { holds = λ f. (p, (t p).holds f); fails = λ f both. (t p).fails f both.1 }
    go false e = decides_false (λ both. s.fails e both.0)

pub decides-or : {a b : Bool} {P Q : Type 0} → Decides a P → Decides b Q → Decides (a || b) (P ⊎ Q)
decides-or {a} {b} {P} {Q} s t = go a refl
  where
    go : (v : Bool) → a ≡ v → Decides (v || b) (P ⊎ Q)
    go true e = decides_true (inl (s.holds e))
    go false e =
        record {
          holds = λ f. inr (t.holds f);
          fails = λ f either. elim either
              [ inl p ↦ s.fails e p | inr q ↦ t.fails f q ];
        }
