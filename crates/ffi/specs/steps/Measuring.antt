-- What logs cost.
use Rattle.std.specs.Prelude.{ℕ, ◌≡◌, All, List}
use Rattle.legalpath.specs.ProgramLog.{ProgramLog}
use Rattle.captures.specs.Bounds.{AreWithin, most_counted}
use Rattle.captures.specs.Measures.{measures_of_each}
use Rattle.captures.specs.declared.measures.Measures.{Measures}
use Rattle.payload.specs.declared.mode.Mode.{Mode}

-- This is what each of the logs costs.
pub record AreMeasured (period : ℕ) (mode : Mode) (measures : List Measures) (logs : List ProgramLog) : Type 0 where
  pub counted : measures ≡ measures_of_each period mode logs
  pub within : All (AreWithin most_counted) measures
