-- How far a log is compared with what is decoded of its hart.
use Rattle.std.specs.Prelude.{◌≡◌, ◌⊎◌, ◌≤◌, ◌<◌, ◌++◌, List, drop, length, vec_capacity}
use Rattle.retire.specs.declared.event.Event.{Event}
use Rattle.comparing.specs.Compared.{HasCompared}
use Rattle.parallel_decode.specs.Left.{HasLeft}
use Rattle.capture_commands.specs.declared.beside.Beside.{Beside}

-- These events came of the log, and of what is decoded those before the ones that are held or left. Either as many were
-- compared, at least, or all that is decoded.
pub record IsDecodedTo (decoded seen : List Event) (beside : Beside) : Type 0 where
  pub before : List Event
  pub rest : List Event
  pub compared : HasCompared before seen beside.comparing
  pub left : HasLeft rest beside.events
  pub whole : decoded ≡ before ++ (drop beside.at beside.piece.items ++ rest)
  pub reached : (length seen ≤ length before) ⊎ (decoded ≡ before)
  pub piece : 1 ≤ vec_capacity beside.piece

-- And no more were compared.
pub record IsBeside (decoded seen : List Event) (beside : Beside) : Type 0 where
  pub to : IsDecodedTo decoded seen beside
  pub few : length to.before ≤ length seen

-- An event is held that was not compared, or all that is decoded was.
pub record IsRefilled (decoded seen before : List Event) (beside : Beside) : Type 0 where
  pub to : IsDecodedTo decoded seen beside
  pub same : to.before ≡ before
  pub filled : (beside.at < length beside.piece.items) ⊎ (decoded ≡ before)
