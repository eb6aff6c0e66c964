-- An event at a row of a log.
use Rattle.std.specs.Prelude.{ℕ, ◌≡◌, ◌+◌, List, ◌∷◌, ◌++◌, Option, None, length}
use Rattle.std.specs.List.{last_or}
use Rattle.retire.specs.declared.event.Event.{Event}

-- The event is at this row of the log, counted from 1. The other event, if there is one, is at the row before.
pub record StandsAt (log : List Event) (row : ℕ) (before : Option Event) (event : Event) : Type 0 where
  pub front : List Event
  pub rest : List Event
  pub whole : log ≡ front ++ event ∷ rest
  pub counted : row ≡ length front + 1
  pub last : before ≡ last_or None front
