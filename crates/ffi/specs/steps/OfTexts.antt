-- Legal logs of texts, of which something holds.
use Rattle.std.specs.Prelude.{ℕ, List}
use Rattle.legalpath.specs.ProgramLog.{ProgramLog}
use Rattle.rvclass.specs.Image.{Image}
use Rattle.ffi.specs.Encoded.{AreLogs}

-- The texts are those of legal logs, of which this holds.
pub record AreTextsOf (program : Image) (bytes ends : List ℕ) (Holds : List ProgramLog → Type 0) : Type 0 where
  pub logs : List ProgramLog
  pub are : AreLogs program bytes 0 ends logs
  pub holds : Holds logs
