-- Which events a checker has passed.
use Rattle.std.specs.Prelude.{◌≡◌, ℕ, List, None, length}
use Rattle.std.specs.List.{last_or}
use Rattle.retire.specs.declared.event.Event.{Event}
use Rattle.rvclass.specs.Words.{Words}
use Rattle.legalpath.specs.Legal.{Legal}
use Rattle.legalpath.specs.declared.judging.Left.{Left}
use Rattle.legalpath.specs.steps.Judging.{left_after}

-- What a checker keeps of the events that it passed: what the last of them leaves to the next, and how many they are.
pub record Passed : Type 0 where
  pub left : Left
  pub rows : ℕ

-- A checker has passed just these events, which are a legal log.
pub record HasPassed (words : Words) (log : List Event) (passed : Passed) : Type 0 where
  pub legal : Legal words log
  pub leaves : passed.left ≡ left_after words (last_or None log)
  pub counted : passed.rows ≡ length log
