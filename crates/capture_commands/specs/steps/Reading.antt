-- What is found of the harts of a capture that are asked for.
use Rattle.std.specs.Prelude.{ℕ, List, Option, Ok}
use Rattle.message.specs.declared.range.HartRange.{HartRange}
use Rattle.rvclass.specs.Image.{Image}
use Rattle.salvage_reports.specs.Found.{IsFound}
use Rattle.salvage_reports.specs.declared.found.Found.{Found}
use Rattle.capture_commands.specs.HartsFound.{HasHartFound}

-- This is found of the harts of a capture that are asked for, of which there is one.
pub record IsFoundOf (only : HartRange) (asked : Option ℕ) (program : Image) (bytes : List ℕ) (found : Found)
    : Type 0 where
  pub has : HasHartFound asked only bytes (Ok tt)
  pub is : IsFound only asked program bytes found
