-- The fault that is found before any file is read.
use Rattle.std.specs.Prelude.{Option}
use Rattle.command_inputs.specs.declared.words.Asked.{Asked}
use Rattle.commands.specs.Faults.{Fault}
use Rattle.commands.specs.Meanings.{meaning_of}

-- The first fault that is found without the files.
abbrev pub early_fault : Asked → Option Fault
early_fault asked = (meaning_of asked).early
