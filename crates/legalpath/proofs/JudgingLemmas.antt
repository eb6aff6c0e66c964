-- What judging an event finds.
use Rattle.std.proofs.Common.{◌≡◌, ◌⊎◌, ◌≤◌, ◌<◌, ◌≢◌, ℕ, ◌%◌, Bool, true, false, not, ◌&&◌, ◌||◌, ◌==◌, nat_le, Option}
use Rattle.std.proofs.Common.{Some, None, Result, Ok, Err, if◌then◌else◌, refl, inl, inr, arith}
use Rattle.isa.specs.Privilege.{IsPrivilege, is_privilege}
use Rattle.retire.specs.Events.{place, privilege}
use Rattle.retire.specs.declared.event.Event.{Event}
use Rattle.retire.specs.declared.event.Event.TheVariants.{Retire, Trap}
use Rattle.rvclass.specs.Words.{Word, Words}
use Rattle.rvclass.specs.declared.class.Class.{Class}
use Rattle.rvclass.specs.declared.class.Class.TheVariants.{Plain, Jump, Branch, Uninferable, TrapReturn}
use Rattle.rvclass.specs.declared.class.Class.TheVariants.{NotRetirable as NeverRetires}
use Rattle.rvclass.specs.declared.class.Return.TheVariants.{Mret, Sret}
use Rattle.legalpath.proofs.DecidingTests.{Decides, decides_true, decides_false, decides_eq, decides_le, decides_lt}
use Rattle.legalpath.proofs.DecidingTests.{decides-same, decides-and, decides-or}
use Rattle.legalpath.specs.Allowed.{may_retire_at, may_stand_at}
use Rattle.legalpath.specs.steps.Judging.{is_type_of, was_left, left_after, left_at_start, left_by_retirement, left_on}
use Rattle.legalpath.specs.steps.Judging.{left_by_trap, is_never, judge_retirement, judge_trap, judge}
use Rattle.legalpath.specs.Reason.{IsNotRetirable, AppliesToRetirement, AppliesToTrap, IsReason, earlier}
use Rattle.legalpath.specs.Right.{IsTypeOf, MayRetireAt, RetiresOn, Right}
use Rattle.legalpath.specs.Successor.{leads, leads_from}
use Rattle.legalpath.specs.Step.{MayStandAt, MayStandAfter, LeadsToPrivilege, MayHavePrivilegeAfter, StepFrom}
use Rattle.legalpath.specs.declared.fault.Why.{Why}
use Rattle.legalpath.specs.declared.fault.Why.TheVariants.{NotRetirable, WrongType, WrongNext, WrongPrivilege, WrongEpc}
use Rattle.legalpath.specs.declared.judging.Left.{Left}
use Rattle.legalpath.specs.declared.next.Next.{Next}
use Rattle.legalpath.specs.declared.next.Next.TheVariants.{One, Any, NoneInside}
use Rattle.std.specs.List.{AllByRecursion}

-- The tests of judging decide the facts of the definitions.
pub privilege_decides : (priv : ℕ) → Decides (is_privilege priv) (IsPrivilege priv)
privilege_decides priv =
    decides-same to from
    (decides-or (decides-or (decides_eq priv 0) (decides_eq priv 1)) (decides_eq priv 3))
  where
    to : ((priv ≡ 0) ⊎ (priv ≡ 1)) ⊎ (priv ≡ 3) → IsPrivilege priv
    to h =
        elim h [
          | inl g ↦ elim g [ inl e ↦ (omega arith, λ q. omega arith) | inr e ↦ (omega arith, λ q. omega arith) ]
          | inr e ↦ (omega arith, λ q. omega arith)
        ]

    from : IsPrivilege priv → ((priv ≡ 0) ⊎ (priv ≡ 1)) ⊎ (priv ≡ 3)
    from h = let a : priv ≤ 3 = h.0 in let b : priv ≢ 2 = h.1 in grind arith

pub type_decides : (class : Class) (itype : ℕ) → Decides (is_type_of class itype) (IsTypeOf class itype)
type_decides Plain itype = decides_eq itype 0
type_decides (Jump to) itype = decides_eq itype 0
type_decides (Branch to) itype = decides-or (decides_eq itype 4) (decides_eq itype 5)
type_decides Uninferable itype = decides_eq itype 6
type_decides (TrapReturn ret) itype = decides_eq itype 3
type_decides NeverRetires itype = decides_false (λ h. h)

pub never_decides : (word : Word) → Decides (is_never word.0) (IsNotRetirable (Some word))
never_decides (Plain, length) = decides_false (λ h. h)
never_decides (Jump to, length) = decides_false (λ h. h)
never_decides (Branch to, length) = decides_false (λ h. h)
never_decides (Uninferable, length) = decides_false (λ h. h)
never_decides (TrapReturn ret, length) = decides_false (λ h. h)
never_decides (NeverRetires, length) = decides_true tt

pub retire_decides : (class : Class) (priv : ℕ) → Decides (may_retire_at class priv) (MayRetireAt class priv)
retire_decides Plain priv = decides_true tt
retire_decides (Jump to) priv = decides_true tt
retire_decides (Branch to) priv = decides_true tt
retire_decides Uninferable priv = decides_true tt
retire_decides (TrapReturn Mret) priv = decides_eq priv 3
retire_decides (TrapReturn Sret) priv = decides_le 1 priv
retire_decides NeverRetires priv = decides_true tt

pub stand_decides : (next : Next) (at : ℕ) → Decides (may_stand_at next at) (MayStandAt next at)
stand_decides (One to) at = decides_eq at to
stand_decides Any at = decides_true tt
stand_decides NoneInside at = decides_false (λ h. h)

pub stand_after_decides : (words : Words) (before : Option Event) (at : ℕ)
    → Decides (may_stand_at (left_after words before).next at) (MayStandAfter words before at)
stand_after_decides words None at = decides_true tt
stand_after_decides words (Some (Retire addr itype priv)) at = on (words addr)
  where
    on : (word : Option Word) → Decides (may_stand_at (left_on addr itype priv word).next at)
        (MayStandAt (leads_from addr itype word) at)
    on None = decides_false (λ h. h)
    on (Some word) = stand_decides (leads addr itype word.0 word.1) at
stand_after_decides words (Some (Trap priv interrupt cause epc tval)) at = decides_true tt

abbrev is_between : Left → ℕ → Bool
is_between left priv = nat_le left.least priv && nat_le priv left.greatest

between : (left : Left) (priv : ℕ) → Decides (is_between left priv) ((left.least ≤ priv) × (priv ≤ left.greatest))
between left priv = decides-and (decides_le left.least priv) (λ h. decides_le priv left.greatest)

left_on_decides : (addr itype priv after : ℕ) (word : Option Word) → IsPrivilege after
    → Decides (is_between (left_on addr itype priv word) after) (LeadsToPrivilege word priv after)
left_on_decides addr itype priv after word is = on word
  where
    same : (left : Left) → left.least ≡ priv → left.greatest ≡ priv → Decides (is_between left after) (after ≡ priv)
    same left l g =
        decides-same (λ h. let a = h.0 in let b = h.1 in omega arith) (λ e. (omega arith, omega arith))
        (between left after)

    on : (word : Option Word)
        → Decides (is_between (left_on addr itype priv word) after) (LeadsToPrivilege word priv after)
    on None = same (left_on addr itype priv None) refl refl
    on (Some (Plain, length)) = same (left_on addr itype priv (Some (Plain, length))) refl refl
    on (Some (Jump to, length)) = same (left_on addr itype priv (Some (Jump to, length))) refl refl
    on (Some (Branch to, length)) = same (left_on addr itype priv (Some (Branch to, length))) refl refl
    on (Some (Uninferable, length)) = same (left_on addr itype priv (Some (Uninferable, length))) refl refl
    on (Some (TrapReturn Mret, length)) =
        decides-same (λ h. tt) (λ u. (omega arith, is.0))
        (between (left_on addr itype priv (Some (TrapReturn Mret, length))) after)
    on (Some (TrapReturn Sret, length)) =
        decides-same (λ h. h.1) (λ h. (omega arith, h))
        (between (left_on addr itype priv (Some (TrapReturn Sret, length))) after)
    on (Some (NeverRetires, length)) = same (left_on addr itype priv (Some (NeverRetires, length))) refl refl

between_decides : (words : Words) (before : Option Event) (after : ℕ) → IsPrivilege after
    → Decides (is_between (left_after words before) after) (MayHavePrivilegeAfter words before after)
between_decides words None after is = decides-same (λ h. tt) (λ u. (omega arith, is.0)) (between left_at_start after)
between_decides words (Some (Retire addr itype priv)) after is = left_on_decides addr itype priv after (words addr) is
between_decides words (Some (Trap priv interrupt cause epc tval)) after is =
    decides-same (λ h. let a = h.0 in (omega arith, omega arith)) (λ h. let a = h.0 in let b = h.1 in let d = is.0 in
    (omega arith, d)) (between (left_by_trap priv) after)

pub left_decides : (words : Words) (before : Option Event) (after : ℕ)
    → Decides (was_left (left_after words before) after) (IsPrivilege after × MayHavePrivilegeAfter words before after)
left_decides words before after = decides-and (privilege_decides after) (λ is. between_decides words before after is)

pub step_from : (words : Words) (before : Option Event) (event : Event) → MayStandAfter words before (place event)
    → MayHavePrivilegeAfter words before (privilege event) → StepFrom words before event
step_from words None event stands keeps = tt
step_from words (Some before) event stands keeps = (stands, keeps)

pub step_parts : (words : Words) (before : Option Event) (event : Event) → StepFrom words before event
    → MayStandAfter words before (place event) × MayHavePrivilegeAfter words before (privilege event)
step_parts words None event step = (tt, tt)
step_parts words (Some before) event step = (step.0, step.1)

module _ (words : Words) (before : Option Event) (addr itype priv : ℕ) where
  -- What judging a retirement on this word answers.
  abbrev pub RetirementOutcome : Option Word → Result Left Why → Type 0
  RetirementOutcome word (Ok left) =
      RetiresOn word itype priv × IsPrivilege priv × MayStandAfter words before addr
      × MayHavePrivilegeAfter words before priv × (left ≡ left_on addr itype priv word)
  RetirementOutcome word (Err why) =
      AppliesToRetirement words before word addr itype priv why
      × AllByRecursion (λ other. ¬ AppliesToRetirement words before word addr itype priv other) (earlier why)

  abbrev at_privilege : Word → Bool → Result Left Why
  at_privilege word test = if not test then Err WrongPrivilege else Ok (left_by_retirement addr itype priv word)

  abbrev at_next : Word → Bool → Bool → Result Left Why
  at_next word next test = if not next then Err WrongNext else at_privilege word test

  abbrev at_type : Word → Bool → Bool → Bool → Result Left Why
  at_type word type next test = if not type then Err WrongType else at_next word next test

  abbrev at_never : Word → Bool → Bool → Bool → Bool → Result Left Why
  at_never word never type next test = if never then Err NotRetirable else at_type word type next test

  module _ (word : Word) (never type next test : Bool) (n : Decides never (IsNotRetirable (Some word)))
      (t : Decides type (IsTypeOf word.0 itype)) (s : Decides next (MayStandAfter words before addr))
      (p : Decides test ((IsPrivilege priv × MayRetireAt word.0 priv) × MayHavePrivilegeAfter words before priv)) where
    privilege_judged : ¬ IsNotRetirable (Some word) → IsTypeOf word.0 itype → MayStandAfter words before addr
        → (v : Bool) → test ≡ v → RetirementOutcome (Some word) (at_privilege word v)
    privilege_judged retires typed stands true e = let h = p.holds e in ((typed, h.0.1), h.0.0, stands, h.1, refl)
    privilege_judged retires typed stands false e =
        (λ f. p.fails e ((f.0, f.1), f.2), ((λ e. cc), (retires, ((λ n. n typed), ((λ n. n stands), tt)))))

    next_judged : ¬ IsNotRetirable (Some word) → IsTypeOf word.0 itype → (v : Bool) → next ≡ v
        → RetirementOutcome (Some word) (at_next word v test)
    next_judged retires typed true e = privilege_judged retires typed (s.holds e) test refl
    next_judged retires typed false e = (s.fails e, ((λ e. cc), (retires, ((λ n. n typed), tt))))

    type_judged : ¬ IsNotRetirable (Some word) → (v : Bool) → type ≡ v
        → RetirementOutcome (Some word) (at_type word v next test)
    type_judged retires true e = next_judged retires (t.holds e) next refl
    type_judged retires false e = (t.fails e, ((λ e. cc), (retires, tt)))

    never_judged : (v : Bool) → never ≡ v → RetirementOutcome (Some word) (at_never word v type next test)
    never_judged true e = (n.holds e, ((λ e. cc), tt))
    never_judged false e = type_judged (n.fails e) type refl

  at_right_privilege : (word : Word) → Decides (may_retire_at word.0 priv && was_left (left_after words before) priv)
      ((IsPrivilege priv × MayRetireAt word.0 priv) × MayHavePrivilegeAfter words before priv)
  at_right_privilege word =
      decides-same (λ h. ((h.1.0, h.0), h.1.1)) (λ h. (h.0.1, (h.0.0, h.1)))
      (decides-and (retire_decides word.0 priv) (λ h. left_decides words before priv))

  pub retirement_judged : (word : Option Word) → RetirementOutcome word
      (judge_retirement (left_after words before) addr itype priv word)
  retirement_judged None = (refl, tt)
  retirement_judged (Some word) =
      never_judged word _ _ _ _ (never_decides word) (type_decides word.0 itype) (stand_after_decides words before addr)
      (at_right_privilege word) (is_never word.0) refl

value_decides : (interrupt : Bool) (tval : ℕ) → Decides (not interrupt || (tval == 0)) (interrupt ≡ true → tval ≡ 0)
value_decides true tval = decides-same (λ e f. e) (λ h. h refl) (decides_eq tval 0)
value_decides false tval = decides_true (λ f. cc)

module _ (words : Words) (before : Option Event) (epc priv : ℕ) (interrupt : Bool) (cause tval : ℕ) where
  -- What judging a trap answers.
  abbrev pub TrapOutcome : Result Left Why → Type 0
  TrapOutcome (Ok left) =
      (epc % 2 ≡ 0) × IsPrivilege priv × ((cause < 64) × (interrupt ≡ true → tval ≡ 0))
      × MayStandAfter words before epc × MayHavePrivilegeAfter words before priv × (left ≡ left_by_trap priv)
  TrapOutcome (Err why) =
      AppliesToTrap words before epc priv interrupt cause tval why
      × AllByRecursion (λ other. ¬ AppliesToTrap words before epc priv interrupt cause tval other) (earlier why)

  abbrev trap_at_epc : Bool → Result Left Why
  trap_at_epc next = if not next then Err WrongEpc else Ok (left_by_trap priv)

  abbrev trap_at_privilege : Bool → Bool → Result Left Why
  trap_at_privilege test next = if not test then Err WrongPrivilege else trap_at_epc next

  abbrev trap_at_type : Bool → Bool → Bool → Result Left Why
  trap_at_type type test next = if not type then Err WrongType else trap_at_privilege test next

  module _ (type test next : Bool) (t : Decides type ((cause < 64) × (interrupt ≡ true → tval ≡ 0)))
      (p : Decides test (IsPrivilege priv × MayHavePrivilegeAfter words before priv))
      (s : Decides next ((epc % 2 ≡ 0) × MayStandAfter words before epc)) where
    trap_epc_judged : (cause < 64) × (interrupt ≡ true → tval ≡ 0) → IsPrivilege priv
        × MayHavePrivilegeAfter words before priv → (v : Bool) → next ≡ v → TrapOutcome (trap_at_epc v)
    trap_epc_judged typed kept true e = let h = s.holds e in (h.0, kept.0, typed, h.1, kept.1, refl)
    trap_epc_judged typed kept false e =
        (s.fails e, ((λ h. h), ((λ h. h), ((λ n. n typed), ((λ h. h), ((λ n. n kept), tt))))))

    trap_privilege_judged : (cause < 64) × (interrupt ≡ true → tval ≡ 0) → (v : Bool) → test ≡ v
        → TrapOutcome (trap_at_privilege v next)
    trap_privilege_judged typed true e = trap_epc_judged typed (p.holds e) next refl
    trap_privilege_judged typed false e = (p.fails e, ((λ h. h), ((λ h. h), ((λ n. n typed), ((λ h. h), tt)))))

    trap_type_judged : (v : Bool) → type ≡ v → TrapOutcome (trap_at_type v test next)
    trap_type_judged true e = trap_privilege_judged (t.holds e) test refl
    trap_type_judged false e = (t.fails e, ((λ h. h), ((λ h. h), tt)))

  pub trap_judged : TrapOutcome (judge_trap (left_after words before) epc priv interrupt cause tval)
  trap_judged =
      trap_type_judged _ _ _ (decides-and (decides_lt cause 64) (λ h. value_decides interrupt tval))
      (left_decides words before priv)
      (decides-and (decides_eq (epc % 2) 0) (λ h. stand_after_decides words before epc)) _
      refl

-- What judging an event answers.
abbrev pub Outcome : Words → Option Event → Event → Result Left Why → Type 0
Outcome words before event (Ok left) =
    Right words event × StepFrom words before event × (left ≡ left_after words (Some event))
Outcome words before event (Err why) = IsReason words before event why

pub judged : (words : Words) (before : Option Event) (event : Event)
    → Outcome words before event (judge words (left_after words before) event)
judged words before (Retire addr itype priv) = go _ (retirement_judged words before addr itype priv (words addr))
  where
    go : (result : Result Left Why) → RetirementOutcome words before addr itype priv (words addr) result
        → Outcome words before (Retire addr itype priv) result
    go (Ok left) h = ((h.0, h.1), step_from words before (Retire addr itype priv) h.2 h.3, h.4)
    go (Err why) h = record { applies = h.0; first = h.1 }
judged words before (Trap priv interrupt cause epc tval) = go _ (trap_judged words before epc priv interrupt cause tval)
  where
    go : (result : Result Left Why) → TrapOutcome words before epc priv interrupt cause tval result
        → Outcome words before (Trap priv interrupt cause epc tval) result
    go (Ok left) h =
        ((h.0, h.1, h.2.0, h.2.1), step_from words before (Trap priv interrupt cause epc tval) h.3 h.4, h.5)
    go (Err why) h = record { applies = h.0; first = h.1 }
