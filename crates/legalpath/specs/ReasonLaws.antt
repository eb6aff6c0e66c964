-- Reasons, and what is legal.
use Rattle.std.specs.Prelude.{◌≡◌, ◌↔◌, List, Option}
use Rattle.retire.specs.declared.event.Event.{Event}
use Rattle.rvclass.specs.Words.{Words}
use Rattle.legalpath.specs.FirstFault.{IsFirstFault}
use Rattle.legalpath.specs.Reason.{Applies}
use Rattle.legalpath.specs.Right.{Right}
use Rattle.legalpath.specs.Step.{StepFrom}
use Rattle.legalpath.specs.declared.fault.PathFault.{PathFault}
use Rattle.legalpath.specs.declared.fault.Why.{Why}

-- No reason applies to an event if and only if it is right by itself and may follow the one before.
abbrev pub RefusesTheIllegal : Type 0
RefusesTheIllegal =
    (words : Words) (before : Option Event) (event : Event) →
    ((why : Why) → ¬ Applies words before event why)
    ↔ (Right words event × StepFrom words before event)

-- A log has one first fault at most.
abbrev pub NamesOneFault : Type 0
NamesOneFault =
    (words : Words) (log : List Event) (fault other : PathFault) →
    IsFirstFault words log fault →
    IsFirstFault words log other →
    fault ≡ other
