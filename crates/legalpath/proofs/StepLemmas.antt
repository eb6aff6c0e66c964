-- Laws of a step, by the word that the event before stands on.
use Rattle.std.proofs.Common.{◌≡◌, ◌⊎◌, ℕ, ◌+◌, ◌<◌, ◌≤◌, true, false, ◌||◌, ◌==◌, Option, Some, None, refl, sym, ◌∙◌}
use Rattle.std.proofs.Common.{inl, inr, arith}
use Rattle.std.proofs.lemmas.Bool.Decides.{nat_tests}
use Rattle.rvclass.specs.Words.{Word}
use Rattle.rvclass.specs.declared.class.Class.TheVariants.{Plain, Jump, Branch, Uninferable, TrapReturn, NotRetirable}
use Rattle.legalpath.specs.Backward.{jumps_back}
use Rattle.legalpath.specs.Discontinuity.{hides_its_target}
use Rattle.legalpath.specs.Right.{RetiresOn}
use Rattle.legalpath.specs.Step.{MayStandAt, LeadsToPrivilege}
use Rattle.legalpath.specs.Successor.{leads_from}
use Rattle.legalpath.specs.declared.next.Next.TheVariants.{One}

-- A word fixes whether its retirements are branches.
pub branch_type : (word : Option Word) (itype other priv level : ℕ) → RetiresOn word itype priv
    → RetiresOn word other level → ((itype == 4) || (itype == 5)) ≡ ((other == 4) || (other == 5))
branch_type None itype other priv level r s = absurd r
branch_type (Some (Plain, length)) itype other priv level r s = rw (r.0, s.0) refl
branch_type (Some (Jump to, length)) itype other priv level r s = rw (r.0, s.0) refl
branch_type (Some (Branch to, length)) itype other priv level r s = branch_of itype r.0 ∙ sym (branch_of other s.0)
  where
    branch_of : (itype : ℕ) → (itype ≡ 4) ⊎ (itype ≡ 5) → ((itype == 4) || (itype == 5)) ≡ true
    branch_of itype h = elim h [ inl e ↦ rw e refl | inr e ↦ rw e refl ]
branch_type (Some (Uninferable, length)) itype other priv level r s = rw (r.0, s.0) refl
branch_type (Some (TrapReturn ret, length)) itype other priv level r s = rw (r.0, s.0) refl
branch_type (Some (NotRetirable, length)) itype other priv level r s = absurd r.0

-- A word, and whether it is a taken branch, fix the type.
pub same_type : (word : Option Word) (itype other priv level : ℕ) → RetiresOn word itype priv
    → RetiresOn word other level → (itype == 5) ≡ (other == 5) → itype ≡ other
same_type None itype other priv level r s taken = absurd r
same_type (Some (Plain, length)) itype other priv level r s taken = r.0 ∙ sym s.0
same_type (Some (Jump to, length)) itype other priv level r s taken = r.0 ∙ sym s.0
same_type (Some (Branch to, length)) itype other priv level r s taken = four_or_five itype other r.0 s.0 taken
  where
    four_or_five : (itype other : ℕ) → (itype ≡ 4) ⊎ (itype ≡ 5) → (other ≡ 4) ⊎ (other ≡ 5)
        → (itype == 5) ≡ (other == 5) → itype ≡ other
    four_or_five itype other r s taken = grind (arith, nat_tests)
same_type (Some (Uninferable, length)) itype other priv level r s taken = r.0 ∙ sym s.0
same_type (Some (TrapReturn ret, length)) itype other priv level r s taken = r.0 ∙ sym s.0
same_type (Some (NotRetirable, length)) itype other priv level r s taken = absurd r.0

-- A word that is no discontinuity leads to one address.
pub leads_to_one : (word : Option Word) (addr itype priv : ℕ) → hides_its_target word ≡ false
    → RetiresOn word itype priv
    → (to : ℕ) × (leads_from addr itype word ≡ One to)
leads_to_one None addr itype priv stays r = absurd r
leads_to_one (Some (Plain, length)) addr itype priv stays r = (addr + length, refl)
leads_to_one (Some (Jump to, length)) addr itype priv stays r = (to, refl)
leads_to_one (Some (Branch to, length)) addr itype priv stays r = (_, refl)
leads_to_one (Some (Uninferable, length)) addr itype priv stays r = cc
leads_to_one (Some (TrapReturn ret, length)) addr itype priv stays r = cc
leads_to_one (Some (NotRetirable, length)) addr itype priv stays r = absurd r.0

pub one_place : (word : Option Word) (addr itype at other : ℕ) → hides_its_target word ≡ false
    → MayStandAt (leads_from addr itype word) at → MayStandAt (leads_from addr itype word) other → at ≡ other
one_place None addr itype at other stays s t = absurd s
one_place (Some (Plain, length)) addr itype at other stays s t = s ∙ sym t
one_place (Some (Jump to, length)) addr itype at other stays s t = s ∙ sym t
one_place (Some (Branch to, length)) addr itype at other stays s t = s ∙ sym t
one_place (Some (Uninferable, length)) addr itype at other stays s t = cc
one_place (Some (TrapReturn ret, length)) addr itype at other stays s t = cc
one_place (Some (NotRetirable, length)) addr itype at other stays s t = absurd s

-- That address is above the word's, unless it is a branch or jumps back.
pub rises : (word : Option Word) (addr itype priv at : ℕ) → ((w : Word) → word ≡ Some w → 2 ≤ w.1)
    → RetiresOn word itype priv → ((itype == 4) || (itype == 5)) ≡ false → jumps_back addr word ≡ false
    → hides_its_target word ≡ false → MayStandAt (leads_from addr itype word) at → addr < at
rises None addr itype priv at long r branch back stays s = absurd r
rises (Some (Plain, length)) addr itype priv at long r branch back stays s = omega (arith, long (Plain, length) refl)
rises (Some (Jump to, length)) addr itype priv at long r branch back stays s =
    let ahead : addr < to = grind (arith, nat_tests) in omega arith
rises (Some (Branch to, length)) addr itype priv at long r branch back stays s =
    elim r.0 [
      | inl e ↦ (let no : ((4 == 4) || (4 == 5)) ≡ false = rw e at branch in cc)
      | inr e ↦
          (let no : ((5 == 4) || (5 == 5)) ≡ false = rw e at branch in cc)
    ]
rises (Some (Uninferable, length)) addr itype priv at long r branch back stays s = cc
rises (Some (TrapReturn ret, length)) addr itype priv at long r branch back stays s = cc
rises (Some (NotRetirable, length)) addr itype priv at long r branch back stays s = absurd r.0

-- And the privilege stays.
pub keeps : (word : Option Word) (priv after : ℕ) → hides_its_target word ≡ false → LeadsToPrivilege word priv after
    → after ≡ priv
keeps None priv after stays k = k
keeps (Some (Plain, length)) priv after stays k = k
keeps (Some (Jump to, length)) priv after stays k = k
keeps (Some (Branch to, length)) priv after stays k = k
keeps (Some (Uninferable, length)) priv after stays k = cc
keeps (Some (TrapReturn ret, length)) priv after stays k = cc
keeps (Some (NotRetirable, length)) priv after stays k = k
