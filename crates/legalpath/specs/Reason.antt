-- Why an event is illegal.
use Rattle.std.specs.Prelude.{ℕ, ◌≡◌, ◌<◌, ◌%◌, Bool, true, List, [], ◌∷◌, Option, Some, None}
use Rattle.std.specs.List.{AllByRecursion}
use Rattle.isa.specs.Privilege.{IsPrivilege}
use Rattle.retire.specs.declared.event.Event.{Event}
use Rattle.retire.specs.declared.event.Event.TheVariants.{Retire, Trap}
use Rattle.rvclass.specs.Words.{Word, Words}
use Rattle.rvclass.specs.declared.class.Class.TheVariants.{NotRetirable as NeverRetires}
use Rattle.legalpath.specs.Right.{IsTypeOf, MayRetireAt}
use Rattle.legalpath.specs.Step.{MayStandAfter, MayHavePrivilegeAfter}
use Rattle.legalpath.specs.declared.fault.Why.{Why}
use Rattle.legalpath.specs.declared.fault.Why.TheVariants.{OffProgram, NotRetirable, WrongType, WrongNext}
use Rattle.legalpath.specs.declared.fault.Why.TheVariants.{WrongPrivilege, WrongEpc}

-- There is an instruction, and it does not retire.
abbrev pub IsNotRetirable : Option Word → Type 0
IsNotRetirable (Some (NeverRetires, length)) = Unit {0}
IsNotRetirable _ = ⊥

-- There is an instruction, and its retirements have this type.
abbrev pub HasType : Option Word → ℕ → Type 0
HasType None itype = ⊥
HasType (Some word) itype = IsTypeOf word.0 itype

-- There is an instruction, and it may retire at this privilege.
abbrev pub MayRetireOn : Option Word → ℕ → Type 0
MayRetireOn None priv = ⊥
MayRetireOn (Some word) priv = MayRetireAt word.0 priv

-- A reason applies to a retirement at this address, of this type and privilege. The instruction at the address and the
-- event before are given, if there are such.
abbrev pub AppliesToRetirement : Words → Option Event → Option Word → ℕ → ℕ → ℕ → Why → Type 0
AppliesToRetirement words before word addr itype priv OffProgram = word ≡ None
AppliesToRetirement words before word addr itype priv NotRetirable = IsNotRetirable word
AppliesToRetirement words before word addr itype priv WrongType = ¬ HasType word itype
AppliesToRetirement words before word addr itype priv WrongNext = ¬ MayStandAfter words before addr
AppliesToRetirement words before word addr itype priv WrongPrivilege =
    ¬ (IsPrivilege priv × MayRetireOn word priv × MayHavePrivilegeAfter words before priv)
AppliesToRetirement words before word addr itype priv WrongEpc = ⊥

-- A reason applies to a trap with this exception program counter, privilege, cause and value. The event before is
-- given, if there is one.
abbrev pub AppliesToTrap : Words → Option Event → ℕ → ℕ → Bool → ℕ → ℕ → Why → Type 0
AppliesToTrap words before epc priv interrupt cause tval OffProgram = ⊥
AppliesToTrap words before epc priv interrupt cause tval NotRetirable = ⊥
AppliesToTrap words before epc priv interrupt cause tval WrongType =
    ¬ ((cause < 64) × (interrupt ≡ true → tval ≡ 0))
AppliesToTrap words before epc priv interrupt cause tval WrongNext = ⊥
AppliesToTrap words before epc priv interrupt cause tval WrongPrivilege =
    ¬ (IsPrivilege priv × MayHavePrivilegeAfter words before priv)
AppliesToTrap words before epc priv interrupt cause tval WrongEpc =
    ¬ ((epc % 2 ≡ 0) × MayStandAfter words before epc)

-- A reason applies to an event. The event before is given, if there is one.
abbrev pub Applies : Words → Option Event → Event → Why → Type 0
Applies words before (Retire addr itype priv) why =
    AppliesToRetirement words before (words addr) addr itype priv why
Applies words before (Trap priv interrupt cause epc tval) why =
    AppliesToTrap words before epc priv interrupt cause tval why

-- The reasons that come before this one in the order of naming.
abbrev pub earlier : Why → List Why
earlier OffProgram = []
earlier NotRetirable = OffProgram ∷ []
earlier WrongType = OffProgram ∷ NotRetirable ∷ []
earlier WrongNext = OffProgram ∷ NotRetirable ∷ WrongType ∷ []
earlier WrongPrivilege = OffProgram ∷ NotRetirable ∷ WrongType ∷ WrongNext ∷ []
earlier WrongEpc = OffProgram ∷ NotRetirable ∷ WrongType ∷ WrongNext ∷ WrongPrivilege ∷ []

-- The reason that a fault names for an event: it applies, and no earlier one does.
pub record IsReason (words : Words) (before : Option Event) (event : Event) (why : Why) : Type 0 where
  pub applies : Applies words before event why
  pub first : AllByRecursion (λ other. ¬ Applies words before event other) (earlier why)
