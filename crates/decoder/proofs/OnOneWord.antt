-- What retires on a word is found there, and where it leads and at which privilege.
use Rattle.std.proofs.Common.{◌≡◌, ℕ, Bool, true, false, ◌||◌, ◌==◌, cond, List, [], ◌∷◌}
use Rattle.std.proofs.Common.{Option, Some, None, refl, sym, ap, subst, ◌∙◌, inl, inr, arith}
use Rattle.std.specs.Prelude.{nat_le}
use Rattle.std.proofs.lemmas.Bool.Decides.{nat_tests}
use Rattle.isa.specs.Privilege.{IsPrivilege}
use Rattle.retire.proofs.OutcomesLemmas.{outcomes-branch, outcomes-other}
use Rattle.retire.specs.Events.{is_branch, is_taken, outcomes}
use Rattle.retire.specs.declared.event.Event.{Event}
use Rattle.retire.specs.declared.event.Event.TheVariants.{Retire}
use Rattle.rvclass.specs.Words.{Word}
use Rattle.rvclass.specs.declared.class.Class.TheVariants.{Plain, Jump, Branch, Uninferable, TrapReturn, NotRetirable}
use Rattle.rvclass.specs.declared.class.Return.TheVariants.{Mret, Sret}
use Rattle.legalpath.specs.Discontinuity.{hides_its_target}
use Rattle.legalpath.specs.Right.{RetiresOn}
use Rattle.legalpath.specs.Step.{MayStandAt, LeadsToPrivilege}
use Rattle.legalpath.specs.Successor.{leads_from}
use Rattle.legalpath.specs.declared.next.Next.TheVariants.{One, Any}
use Rattle.decoder.specs.steps.Leads.{may_stay_on}
use Rattle.decoder.specs.steps.WalkSteps.{retire_on, is_empty}

-- What may retire on a word is found there.
pub retire_on-finds : (x p : ℕ) (word : Option Word) (t : ℕ) (w : List Event) → RetiresOn word t p →
    retire_on x p word (outcomes (Retire x t p ∷ w)) ≡ Some (Retire x t p, outcomes w)
retire_on-finds x p None t w r = absurd r
retire_on-finds x p (Some (Plain, n)) t w r = rw r.0 refl
retire_on-finds x p (Some (Jump to, n)) t w r = rw r.0 refl
retire_on-finds x p (Some (Branch to, n)) t w r = elim r.0 [ inl e ↦ (rw e refl) | inr e ↦ (rw e refl) ]
retire_on-finds x p (Some (Uninferable, n)) t w r = rw r.0 refl
retire_on-finds x p (Some (TrapReturn Mret, n)) t w r = rw (r.0, r.1) refl
retire_on-finds x p (Some (TrapReturn Sret, n)) t w r = let may : nat_le 1 p ≡ true = grind (arith, nat_tests, r.1) in
    rw (r.0, may) refl
retire_on-finds x p (Some (NotRetirable, n)) t w r = absurd r.0

-- A retirement that was found on a word may retire there.
pub record Found (word : Option Word) (x p : ℕ) (taken : List Bool) (r : Event × List Bool) : Type 0 where
  pub itype : ℕ
  pub is : r.0 ≡ Retire x itype p
  pub stands : RetiresOn word itype p
  -- The outcomes that it has, before any that follow.
  pub spent : (w : List Event) → outcomes w ≡ r.1 → outcomes (r.0 ∷ w) ≡ taken

pub found_plain : (word : Option Word) (x p t : ℕ) (taken : List Bool) (r : Event × List Bool) → RetiresOn word t p →
    ((t == 4) || (t == 5)) ≡ false → Some (Retire x t p, taken) ≡ Some r → Found word x p taken r
found_plain word x p t taken r stands b e =
    let is : (Retire x t p, taken) ≡ r = cc in
    subst (Found word x p taken) is
    (record { itype = t; is = refl; stands = stands; spent = λ w h. outcomes-other (Retire x t p) w b ∙ h })

pub found_if : (word : Option Word) (x p : ℕ) (taken : List Bool) (r : Event × List Bool) (b : Bool) →
    (b ≡ true → RetiresOn word 3 p) → cond b (Some (Retire x 3 p, taken)) None ≡ Some r → Found word x p taken r
found_if word x p taken r true f e = found_plain word x p 3 taken r (f refl) refl e
found_if word x p taken r false f e = cc

pub found_branch : (word : Option Word) (x p t : ℕ) (b : Bool) (taken : List Bool) (r : Event × List Bool) →
    RetiresOn word t p → ((t == 4) || (t == 5)) ≡ true → (t == 5) ≡ b → Some (Retire x t p, taken) ≡ Some r →
    Found word x p (b ∷ taken) r
found_branch word x p t b taken r stands br tk e =
    let is : (Retire x t p, taken) ≡ r = cc in
    subst (Found word x p (b ∷ taken)) is
    (record {
      itype = t;
      is = refl;
      stands = stands;
      spent = λ w h. let k = outcomes-branch (Retire x t p) w br in
          cc;
    })

pub retire_on-found : (x p : ℕ) (word : Option Word) (taken : List Bool) (r : Event × List Bool) →
    retire_on x p word taken ≡ Some r → Found word x p taken r
retire_on-found x p None taken r e = cc
retire_on-found x p (Some (Plain, n)) taken r e = found_plain _ x p 0 taken r (refl, tt) refl e
retire_on-found x p (Some (Jump to, n)) taken r e = found_plain _ x p 0 taken r (refl, tt) refl e
retire_on-found x p (Some (Branch to, n)) [] r e = cc
retire_on-found x p (Some (Branch to, n)) (true ∷ taken) r e = found_branch _ x p 5 true taken r (inr refl, tt) refl
    refl e
retire_on-found x p (Some (Branch to, n)) (false ∷ taken) r e = found_branch _ x p 4 false taken r (inl refl, tt) refl
    refl e
retire_on-found x p (Some (Uninferable, n)) taken r e = found_plain _ x p 6 taken r (refl, tt) refl e
retire_on-found x p (Some (TrapReturn Mret, n)) taken r e = found_if _ x p taken r (p == 3)
    (λ h. (refl, grind (arith, nat_tests))) e
retire_on-found x p (Some (TrapReturn Sret, n)) taken r e = found_if _ x p taken r (nat_le 1 p)
    (λ h. (refl, grind (arith, nat_tests))) e
retire_on-found x p (Some (NotRetirable, n)) taken r e = cc

pub empty_is : (o : List Bool) → is_empty o ≡ true → [] ≡ o
empty_is [] h = refl
empty_is (x ∷ o) h = cc

pub same_front : (f : Event) (w v : List Event) → outcomes w ≡ outcomes v → outcomes (f ∷ w) ≡ outcomes (f ∷ v)
same_front f w v o = go (is_branch f) refl
  where
    go : (b : Bool) → is_branch f ≡ b → outcomes (f ∷ w) ≡ outcomes (f ∷ v)
    go true b = outcomes-branch f w b ∙ ap (λ l. is_taken f ∷ l) o ∙ sym (outcomes-branch f v b)
    go false b = outcomes-other f w b ∙ o ∙ sym (outcomes-other f v b)

-- By a word: where its retirements lead, and the privilege that they leave.
pub leads_one : (word : Option Word) (a t x : ℕ) → hides_its_target word ≡ false → MayStandAt (leads_from a t word) x →
    leads_from a t word ≡ One x
leads_one None a t x l m = absurd m
leads_one (Some (Plain, n)) a t x l m = ap One (sym m)
leads_one (Some (Jump to, n)) a t x l m = ap One (sym m)
leads_one (Some (Branch to, n)) a t x l m = ap One (sym m)
leads_one (Some (Uninferable, n)) a t x l m = cc
leads_one (Some (TrapReturn y, n)) a t x l m = cc
leads_one (Some (NotRetirable, n)) a t x l m = absurd m

pub leads_any : (word : Option Word) (a t : ℕ) → hides_its_target word ≡ true → leads_from a t word ≡ Any
leads_any None a t l = cc
leads_any (Some (Plain, n)) a t l = cc
leads_any (Some (Jump to, n)) a t l = cc
leads_any (Some (Branch to, n)) a t l = cc
leads_any (Some (Uninferable, n)) a t l = refl
leads_any (Some (TrapReturn y, n)) a t l = refl
leads_any (Some (NotRetirable, n)) a t l = cc

pub one_stays : (word : Option Word) (a t x : ℕ) → leads_from a t word ≡ One x → hides_its_target word ≡ false
one_stays word a t x l = go (hides_its_target word) refl
  where
    go : (hides : Bool) → hides_its_target word ≡ hides → hides ≡ false
    go false h = refl
    go true h = let any = leads_any word a t h in cc

pub any_leaves : (word : Option Word) (a t : ℕ) → leads_from a t word ≡ Any → hides_its_target word ≡ true
any_leaves None a t l = cc
any_leaves (Some (Plain, n)) a t l = cc
any_leaves (Some (Jump to, n)) a t l = cc
any_leaves (Some (Branch to, n)) a t l = cc
any_leaves (Some (Uninferable, n)) a t l = refl
any_leaves (Some (TrapReturn y, n)) a t l = refl
any_leaves (Some (NotRetirable, n)) a t l = cc

pub stays : (word : Option Word) (p q : ℕ) → IsPrivilege p → LeadsToPrivilege word p q → q ≡ p
    → may_stay_on word p ≡ true
stays None p q level k e = refl
stays (Some (Plain, n)) p q level k e = grind (arith, nat_tests)
stays (Some (Jump to, n)) p q level k e = grind (arith, nat_tests)
stays (Some (Branch to, n)) p q level k e = grind (arith, nat_tests)
stays (Some (Uninferable, n)) p q level k e = grind (arith, nat_tests)
stays (Some (TrapReturn Mret, n)) p q level k e = grind (arith, nat_tests, level.0)
stays (Some (TrapReturn Sret, n)) p q level k e = grind (arith, nat_tests)
stays (Some (NotRetirable, n)) p q level k e = grind (arith, nat_tests)

pub kept : (word : Option Word) (p : ℕ) → hides_its_target word ≡ false → LeadsToPrivilege word p p
kept None p l = refl
kept (Some (Plain, n)) p l = refl
kept (Some (Jump to, n)) p l = refl
kept (Some (Branch to, n)) p l = refl
kept (Some (Uninferable, n)) p l = refl
kept (Some (TrapReturn y, n)) p l = cc
kept (Some (NotRetirable, n)) p l = refl

pub kept_stays : (word : Option Word) (p : ℕ) → may_stay_on word p ≡ true → LeadsToPrivilege word p p
kept_stays None p l = refl
kept_stays (Some (Plain, n)) p l = refl
kept_stays (Some (Jump to, n)) p l = refl
kept_stays (Some (Branch to, n)) p l = refl
kept_stays (Some (Uninferable, n)) p l = refl
kept_stays (Some (TrapReturn Mret, n)) p l = tt
kept_stays (Some (TrapReturn Sret, n)) p l = grind (arith, nat_tests)
kept_stays (Some (NotRetirable, n)) p l = refl
