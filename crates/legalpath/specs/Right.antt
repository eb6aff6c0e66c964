-- Which events are right by themselves.
use Rattle.std.specs.Prelude.{ℕ, ◌≡◌, ◌≤◌, ◌<◌, ◌%◌, ◌⊎◌, true, Option, Some, None}
use Rattle.isa.specs.Privilege.{IsPrivilege}
use Rattle.retire.specs.Itype as types
use Rattle.retire.specs.declared.event.Event.{Event}
use Rattle.retire.specs.declared.event.Event.TheVariants.{Retire, Trap}
use Rattle.rvclass.specs.Words.{Word, Words}
use Rattle.rvclass.specs.declared.class.Class.{Class}
use Rattle.rvclass.specs.declared.class.Class.TheVariants.{Plain, Jump, Branch, Uninferable, TrapReturn, NotRetirable}
use Rattle.rvclass.specs.declared.class.Return.TheVariants.{Mret, Sret}

-- A retirement of this class has this type, as the E-Trace specification's "Instruction Trace
-- Interface" numbers `itype`.
abbrev pub IsTypeOf : Class → ℕ → Type 0
IsTypeOf Plain itype = itype ≡ types.other
IsTypeOf (Jump to) itype = itype ≡ types.other
IsTypeOf (Branch to) itype = (itype ≡ types.not_taken) ⊎ (itype ≡ types.taken)
IsTypeOf Uninferable itype = itype ≡ types.uninferable
IsTypeOf (TrapReturn ret) itype = itype ≡ types.trap_return
IsTypeOf NotRetirable itype = ⊥

-- An instruction of this class may retire at this privilege: MRET in M-mode alone, SRET not in U-mode (the Privileged
-- Architecture, "Trap-Return Instructions").
abbrev pub MayRetireAt : Class → ℕ → Type 0
MayRetireAt (TrapReturn Mret) priv = priv ≡ 3
MayRetireAt (TrapReturn Sret) priv = 1 ≤ priv
MayRetireAt _ priv = Unit {0}

-- There is an instruction, and it may retire as this type at this privilege.
abbrev pub RetiresOn : Option Word → ℕ → ℕ → Type 0
RetiresOn None itype priv = ⊥
RetiresOn (Some word) itype priv = IsTypeOf word.0 itype × MayRetireAt word.0 priv

-- An event is right by itself.
abbrev pub Right : Words → Event → Type 0
Right words (Retire addr itype priv) = RetiresOn (words addr) itype priv × IsPrivilege priv
Right words (Trap priv interrupt cause epc tval) =
    (epc % 2 ≡ 0) × IsPrivilege priv × (cause < 64) × (interrupt ≡ true → tval ≡ 0)
