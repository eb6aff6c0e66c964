-- The logs of harts, and how they are encoded.
use Rattle.std.specs.Prelude.{ℕ, List}
use Rattle.legalpath.specs.ProgramLog.{ProgramLog}
use Rattle.payload.specs.declared.mode.Mode.{Mode}

-- The logs of harts in order, a period and a mode.
pub record LogsAt : Type 0 where
  pub logs : List ProgramLog
  pub period : ℕ
  pub mode : Mode
