-- The fault of a log.
use Rattle.std.specs.Prelude.{◌≡◌, ◌+◌, List, ◌∷◌, ◌++◌, None, length}
use Rattle.std.specs.List.{last_or}
use Rattle.retire.specs.declared.event.Event.{Event}
use Rattle.rvclass.specs.Words.{Words}
use Rattle.legalpath.specs.Legal.{Legal}
use Rattle.legalpath.specs.Reason.{IsReason}
use Rattle.legalpath.specs.declared.fault.PathFault.{PathFault}

-- The fault names the first illegal row of a log, counted from 1, and the first reason that applies to it. The rows
-- before it are a legal log.
pub record IsFirstFault (words : Words) (log : List Event) (fault : PathFault) : Type 0 where
  pub front : List Event
  pub event : Event
  pub rest : List Event
  pub whole : log ≡ front ++ event ∷ rest
  pub legal : Legal words front
  pub counted : fault.row ≡ length front + 1
  pub reason : IsReason words (last_or None front) event fault.why
