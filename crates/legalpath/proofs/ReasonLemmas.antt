-- Which events have a reason to be refused.
use Rattle.std.proofs.Common.{◌≡◌, ℕ, Option, Some, None, Result, Ok, Err, refl}
use Rattle.std.specs.List.{AllByRecursion}
use Rattle.isa.specs.Privilege.{IsPrivilege}
use Rattle.retire.specs.declared.event.Event.{Event}
use Rattle.retire.specs.declared.event.Event.TheVariants.{Retire, Trap}
use Rattle.rvclass.specs.Words.{Word, Words}
use Rattle.rvclass.specs.declared.class.Class.TheVariants.{Plain, Jump, Branch, Uninferable, TrapReturn}
use Rattle.rvclass.specs.declared.class.Class.TheVariants.{NotRetirable as NeverRetires}
use Rattle.legalpath.proofs.JudgingLemmas.{step_parts, Outcome, judged}
use Rattle.legalpath.specs.Reason.{IsNotRetirable, AppliesToRetirement, Applies, IsReason, earlier}
use Rattle.legalpath.specs.Right.{RetiresOn, Right}
use Rattle.legalpath.specs.Step.{MayStandAfter, MayHavePrivilegeAfter, StepFrom}
use Rattle.legalpath.specs.declared.fault.Why.{Why}
use Rattle.legalpath.specs.declared.fault.Why.TheVariants.{OffProgram, NotRetirable, WrongType, WrongNext}
use Rattle.legalpath.specs.declared.fault.Why.TheVariants.{WrongPrivilege, WrongEpc}
use Rattle.legalpath.specs.declared.judging.Left.{Left}

retires-not_never : (word : Option Word) (itype priv : ℕ) → RetiresOn word itype priv → ¬ IsNotRetirable word
retires-not_never None itype priv retires n = n
retires-not_never (Some (Plain, length)) itype priv retires n = n
retires-not_never (Some (Jump to, length)) itype priv retires n = n
retires-not_never (Some (Branch to, length)) itype priv retires n = n
retires-not_never (Some (Uninferable, length)) itype priv retires n = n
retires-not_never (Some (TrapReturn ret, length)) itype priv retires n = n
retires-not_never (Some (NeverRetires, length)) itype priv retires n = retires.0

-- No reason applies to a retirement that is right and may follow.
retirement_refused : (words : Words) (before : Option Event) (word : Option Word) (addr itype priv : ℕ) (why : Why)
    → RetiresOn word itype priv → IsPrivilege priv → MayStandAfter words before addr
    → MayHavePrivilegeAfter words before priv → ¬ AppliesToRetirement words before word addr itype priv why
retirement_refused words before None addr itype priv why retires is stands kept a = absurd retires
retirement_refused words before (Some word) addr itype priv OffProgram retires is stands kept a = cc
retirement_refused words before (Some word) addr itype priv NotRetirable retires is stands kept a =
    retires-not_never (Some word) itype priv retires a
retirement_refused words before (Some word) addr itype priv WrongType retires is stands kept a = a retires.0
retirement_refused words before (Some word) addr itype priv WrongNext retires is stands kept a = a stands
retirement_refused words before (Some word) addr itype priv WrongPrivilege retires is stands kept a =
    a (is, retires.1, kept)
retirement_refused words before (Some word) addr itype priv WrongEpc retires is stands kept a = a

-- No reason applies to an event that is right by itself and may follow the one before.
pub none_applies : (words : Words) (before : Option Event) (event : Event) (why : Why) → Right words event
    → StepFrom words before event → ¬ Applies words before event why
none_applies words before (Retire addr itype priv) why right step a =
    let parts = step_parts words before (Retire addr itype priv) step in
    retirement_refused words before (words addr) addr itype priv why right.0 right.1 parts.0 parts.1 a
none_applies words before (Trap priv interrupt cause epc tval) OffProgram right step a = a
none_applies words before (Trap priv interrupt cause epc tval) NotRetirable right step a = a
none_applies words before (Trap priv interrupt cause epc tval) WrongType right step a = a (right.2, right.3)
none_applies words before (Trap priv interrupt cause epc tval) WrongNext right step a = a
none_applies words before (Trap priv interrupt cause epc tval) WrongPrivilege right step a =
    a (right.1, (step_parts words before (Trap priv interrupt cause epc tval) step).1)
none_applies words before (Trap priv interrupt cause epc tval) WrongEpc right step a =
    a (right.0, (step_parts words before (Trap priv interrupt cause epc tval) step).0)

-- An event to which no reason applies is right by itself and may follow the one before.
pub none_applies-right : (words : Words) (before : Option Event) (event : Event)
    → ((why : Why) → ¬ Applies words before event why) → Right words event × StepFrom words before event
none_applies-right words before event none = go _ (judged words before event)
  where
    go : (result : Result Left Why) → Outcome words before event result → Right words event
        × StepFrom words before event
    go (Ok left) h = (h.0, h.1)
    go (Err why) h = absurd (none why h.applies)

-- One fact at most is the first that holds in the order of the reasons.
one_first : (P : Why → Type 0) (why other : Why) → P why → AllByRecursion (λ w. ¬ P w) (earlier why) → P other
    → AllByRecursion (λ w. ¬ P w) (earlier other) → why ≡ other
one_first P OffProgram OffProgram p s q t = refl
one_first P OffProgram NotRetirable p s q t = absurd (t.0 p)
one_first P OffProgram WrongType p s q t = absurd (t.0 p)
one_first P OffProgram WrongNext p s q t = absurd (t.0 p)
one_first P OffProgram WrongPrivilege p s q t = absurd (t.0 p)
one_first P OffProgram WrongEpc p s q t = absurd (t.0 p)
one_first P NotRetirable OffProgram p s q t = absurd (s.0 q)
one_first P NotRetirable NotRetirable p s q t = refl
one_first P NotRetirable WrongType p s q t = absurd (t.1.0 p)
one_first P NotRetirable WrongNext p s q t = absurd (t.1.0 p)
one_first P NotRetirable WrongPrivilege p s q t = absurd (t.1.0 p)
one_first P NotRetirable WrongEpc p s q t = absurd (t.1.0 p)
one_first P WrongType OffProgram p s q t = absurd (s.0 q)
one_first P WrongType NotRetirable p s q t = absurd (s.1.0 q)
one_first P WrongType WrongType p s q t = refl
one_first P WrongType WrongNext p s q t = absurd (t.1.1.0 p)
one_first P WrongType WrongPrivilege p s q t = absurd (t.1.1.0 p)
one_first P WrongType WrongEpc p s q t = absurd (t.1.1.0 p)
one_first P WrongNext OffProgram p s q t = absurd (s.0 q)
one_first P WrongNext NotRetirable p s q t = absurd (s.1.0 q)
one_first P WrongNext WrongType p s q t = absurd (s.1.1.0 q)
one_first P WrongNext WrongNext p s q t = refl
one_first P WrongNext WrongPrivilege p s q t = absurd (t.1.1.1.0 p)
one_first P WrongNext WrongEpc p s q t = absurd (t.1.1.1.0 p)
one_first P WrongPrivilege OffProgram p s q t = absurd (s.0 q)
one_first P WrongPrivilege NotRetirable p s q t = absurd (s.1.0 q)
one_first P WrongPrivilege WrongType p s q t = absurd (s.1.1.0 q)
one_first P WrongPrivilege WrongNext p s q t = absurd (s.1.1.1.0 q)
one_first P WrongPrivilege WrongPrivilege p s q t = refl
one_first P WrongPrivilege WrongEpc p s q t = absurd (t.1.1.1.1.0 p)
one_first P WrongEpc OffProgram p s q t = absurd (s.0 q)
one_first P WrongEpc NotRetirable p s q t = absurd (s.1.0 q)
one_first P WrongEpc WrongType p s q t = absurd (s.1.1.0 q)
one_first P WrongEpc WrongNext p s q t = absurd (s.1.1.1.0 q)
one_first P WrongEpc WrongPrivilege p s q t = absurd (s.1.1.1.1.0 q)
one_first P WrongEpc WrongEpc p s q t = refl

-- An event has one reason at most.
pub one_reason : (words : Words) (before : Option Event) (event : Event) (why other : Why)
    → IsReason words before event why → IsReason words before event other → why ≡ other
one_reason words before event why other r s =
    one_first (λ w. Applies words before event w) why other r.applies r.first s.applies s.first
