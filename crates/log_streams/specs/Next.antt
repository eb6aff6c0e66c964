-- What a task is given next of a log.
use Rattle.std.specs.Prelude.{◌++◌, ℕ, List}
use Rattle.retire.specs.Log.{most_long_rows}
use Rattle.retire.specs.declared.event.Event.{Event}
use Rattle.rvclass.specs.Image.{Image}
use Rattle.legalpath.specs.LegalUpTo.{IsLegalUpTo}

-- These events come next in the log of a hart. What is kept is that of the events before. Those and these together are
-- legal for the program, and at most 4,294,967,295 of them.
pub record ComesNext {K : Type 0} (Keeps : ℕ → List Event → K → Type 0) (program : Image) (state : K)
    (events : List Event) : Type 0 where
  pub hart : ℕ
  pub seen : List Event
  pub keeps : Keeps hart seen state
  pub legal : IsLegalUpTo most_long_rows program (seen ++ events)
