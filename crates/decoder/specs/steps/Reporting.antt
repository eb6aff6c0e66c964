-- How this crate's code finds the events that a packet reports by itself. Which they are is defined in `Fits.antt`.
use Rattle.std.specs.Prelude.{◌≡◌, ℕ, Bool, true, false, List, [], ◌∷◌, Option, Some, None, Result, Ok, Err}
use Rattle.retire.specs.declared.event.Event.{Event}
use Rattle.retire.specs.declared.event.Event.TheVariants.{Retire, Trap}
use Rattle.rvclass.specs.Words.{Word, Words}
use Rattle.legalpath.specs.declared.fault.Why.{Why}
use Rattle.legalpath.specs.declared.fault.Why.TheVariants as why
use Rattle.decoder.specs.Fits.{AfterInferable, FitsTrap}
use Rattle.decoder.specs.steps.WalkSteps.{type_on}
use Rattle.decoder.specs.declared.fault.DecodeFault.{DecodeFault}
use Rattle.decoder.specs.declared.fault.DecodeFault.TheVariants as fault
use Rattle.decoder.specs.declared.reporting.Cause.{Cause}
use Rattle.decoder.specs.declared.reporting.Reported.{Reported}

-- The fault of decoding where an event is illegal for this reason.
abbrev pub fault_of : Why → DecodeFault
fault_of why.OffProgram = fault.OffProgram
fault_of why.NotRetirable = fault.OffProgram
fault_of why.WrongType = fault.Branches
fault_of why.WrongNext = fault.WrongPlace
fault_of why.WrongPrivilege = fault.WrongPrivilege
fault_of why.WrongEpc = fault.WrongPlace

-- The type of a retirement, or the fault. Given are the type by its instruction, and what that leaves of the one
-- outcome that the packet reports. A taken outcome that is left is a fault, since no branch used it.
abbrev pub type_with : Option (ℕ × List Bool) → Result ℕ DecodeFault
type_with None = Err fault.OffProgram
type_with (Some (itype, [])) = Ok itype
type_with (Some (itype, true ∷ left)) = Err fault.Branches
type_with (Some (itype, false ∷ left)) = Ok itype

-- The type of a retirement of this instruction, where the packet reports this outcome, or the fault. Without an
-- instruction the retirement is off the program.
abbrev pub type_at : Option Word → Bool → Result ℕ DecodeFault
type_at None taken = Err fault.OffProgram
type_at (Some word) taken = type_with (type_on word.0 (taken ∷ []))

-- The retirement of this type at this address and privilege, or the fault.
abbrev pub retirement_with_type : ℕ → ℕ → Result ℕ DecodeFault → Result Event DecodeFault
retirement_with_type addr priv (Ok itype) = Ok (Retire addr itype priv)
retirement_with_type addr priv (Err fault) = Err fault

-- These are the events of a trap packet that reports this and this cause, with the handler's address or without.
abbrev pub FitsReported : Words → Option Event → Reported → Cause → Bool → List Event → Type 0
FitsReported words before reported cause handler events =
    FitsTrap words before reported.taken reported.privilege cause.cause cause.interrupt handler reported.addr
    cause.tval events

-- These events are one trap with this cause, after a retirement that leads to one address.
abbrev pub IsHandled : Words → Option Event → Cause → List Event → Type 0
IsHandled words before cause events =
    AfterInferable words before × (epc : ℕ) × (from : ℕ) ×
    (events ≡ Trap from cause.interrupt cause.cause epc cause.tval ∷ [])
