-- What is written where a run does not reach its end: a prefix of a text.
use Rattle.std.specs.Prelude.{◌⊎◌, ℕ, List, Option}
use Rattle.std.specs.Io.KnownBytes.{Keeps}
use Rattle.output.specs.Begun.{AppendsBeginning}
use Rattle.command_inputs.specs.Printed.{Printed}

-- What was appended is a prefix of a text that may be printed.
pub record BeginsPrinted {W : Type 0} (Prints : Printed W → Type 0) (old new : Option (List ℕ)) : Type 0 where
  pub printed : Printed W
  pub prints : Prints printed
  pub begun : AppendsBeginning printed.text old new

-- Nothing was written, or a prefix of a text that may be printed.
abbrev pub IsCutOf : {W : Type 0} → (Printed W → Type 0) → Option (List ℕ) → Option (List ℕ) → Type 0
IsCutOf Prints old new = Keeps old new ⊎ BeginsPrinted Prints old new
