-- How the rows of a hart are written.
use Rattle.std.specs.Prelude.{◌≡◌, ◌++◌, ℕ, All, List, Option, length}
use Rattle.std.specs.List.{flat_map}
use Rattle.output.specs.Begun.{AppendsBeginning}
use Rattle.retire.specs.Is64Bit.{Is64Bit}
use Rattle.retire.specs.LogText.{event_line}
use Rattle.retire.specs.Split.{Split}
use Rattle.rvclass.specs.Words.{Words}
use Rattle.legalpath.specs.Legal.{Legal}
use Rattle.stimulus.specs.Walk.{walked}
use Rattle.stimulus.specs.declared.walk.Walk.{Walk}

-- The rows of the first events of a walk, so many.
abbrev pub rows : Words → Walk → ℕ → List ℕ
rows words start count = flat_map event_line (walked words start count).0

-- The rows of the first events of a walk, so many, come after what was held. They are written or held. The events are
-- a legal log.
pub record AddsRows (words : Words) (start : Walk) (count : ℕ) (before held : List ℕ) (old new : Option (List ℕ))
    : Type 0 where
  pub legal : Legal words (walked words start count).0
  pub counted : length (walked words start count).0 ≡ count
  pub numbers : All Is64Bit (walked words start count).0
  pub text : Split old new held (before ++ rows words start count)

-- A beginning of what was held and of the rows of the first events was written.
abbrev pub BeginsRows : Words → Walk → ℕ → List ℕ → Option (List ℕ) → Option (List ℕ) → Type 0
BeginsRows words start count before old new = AppendsBeginning (before ++ rows words start count) old new
