-- The first illegal row of a log.
use Rattle.std.specs.Prelude.{◌≡◌, ◌+◌, List, ◌∷◌, ◌++◌, None, length}
use Rattle.std.specs.List.{last_or}
use Rattle.legalpath.specs.Legal.{Legal}
use Rattle.legalpath.specs.Reason.{IsReason}
use Rattle.retire.specs.declared.event.Event.{Event}
use Rattle.rvclass.specs.Words.{Words}
use Rattle.log_streams.specs.declared.illegal_row.IllegalRow.{IllegalRow}

-- This is the first illegal row of a log: the rows before it are legal, and the fault names the row, counted from 1,
-- and the first reason that applies to it. The event before it is that of the row before.
pub record IsIllegalRow (words : Words) (log : List Event) (row : IllegalRow) : Type 0 where
  pub front : List Event
  pub rest : List Event
  pub whole : log ≡ front ++ row.event ∷ rest
  pub legal : Legal words front
  pub before : row.before ≡ last_or None front
  pub counted : row.fault.row ≡ length front + 1
  pub reason : IsReason words (last_or None front) row.event row.fault.why
