-- Which event may follow which. This is a table of two columns, one for the place and one for the privilege of the
-- event that follows. Its rows are the kinds of the event before. `leads` gives the place for each kind.
use Rattle.std.specs.Prelude.{ℕ, ◌≡◌, ◌≤◌, Option, Some, None}
use Rattle.retire.specs.Events.{place, privilege}
use Rattle.retire.specs.declared.event.Event.{Event}
use Rattle.retire.specs.declared.event.Event.TheVariants.{Retire, Trap}
use Rattle.rvclass.specs.Words.{Word, Words}
use Rattle.rvclass.specs.declared.class.Class.TheVariants.{TrapReturn}
use Rattle.rvclass.specs.declared.class.Return.TheVariants.{Mret, Sret}
use Rattle.legalpath.specs.Successor.{successor}
use Rattle.legalpath.specs.declared.next.Next.{Next}
use Rattle.legalpath.specs.declared.next.Next.TheVariants.{One, Any, NoneInside}

-- The column of places: an event may be at this place, by where the event before leads.
abbrev pub MayStandAt : Next → ℕ → Type 0
MayStandAt (One to) at = at ≡ to
MayStandAt Any at = Unit {0}
MayStandAt NoneInside at = ⊥

-- The column of privileges, after a retirement of this instruction, if there is one: it leads from the first privilege
-- to the second. SRET leads to U-mode or S-mode, MRET to any mode; no other instruction changes the mode.
abbrev pub LeadsToPrivilege : Option Word → ℕ → ℕ → Type 0
LeadsToPrivilege (Some (TrapReturn Mret, length)) priv after = Unit {0}
LeadsToPrivilege (Some (TrapReturn Sret, length)) priv after = after ≤ 1
LeadsToPrivilege _ priv after = after ≡ priv

-- The column of privileges: an event may have this privilege after another. A trap is handled in
-- S-mode or M-mode, and in no mode below the one that it was taken from.
abbrev pub MayHavePrivilegeBehind : Words → Event → ℕ → Type 0
MayHavePrivilegeBehind words (Retire addr itype priv) after = LeadsToPrivilege (words addr) priv after
MayHavePrivilegeBehind words (Trap priv interrupt cause epc tval) after = (1 ≤ after) × (priv ≤ after)

-- One event may follow another.
abbrev pub Step : Words → Event → Event → Type 0
Step words before event =
    MayStandAt (successor words before) (place event)
    × MayHavePrivilegeBehind words before (privilege event)

-- An event may be at this place after the event before. Where there is no event before, it may be anywhere.
abbrev pub MayStandAfter : Words → Option Event → ℕ → Type 0
MayStandAfter words None at = Unit {0}
MayStandAfter words (Some before) at = MayStandAt (successor words before) at

-- An event may have this privilege after the event before. Where there is none, it may have any.
abbrev pub MayHavePrivilegeAfter : Words → Option Event → ℕ → Type 0
MayHavePrivilegeAfter words None after = Unit {0}
MayHavePrivilegeAfter words (Some before) after = MayHavePrivilegeBehind words before after

-- An event may follow the event before. Where there is none, any event may come.
abbrev pub StepFrom : Words → Option Event → Event → Type 0
StepFrom words None event = Unit {0}
StepFrom words (Some before) event = Step words before event
