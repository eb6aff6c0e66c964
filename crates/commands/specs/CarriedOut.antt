-- What a run prints for what is asked, and how it ends.
use Rattle.std.specs.Prelude.{ℕ, List, Option, Result}
use Rattle.command_inputs.specs.declared.words.Asked.{Asked}
use Rattle.log_streams.specs.Known.{Content}
use Rattle.command_inputs.specs.Printed.{PrintsUnlessDenied}
use Rattle.command_inputs.specs.declared.status.Status.{Status}
use Rattle.commands.specs.Faults.{Fault}
use Rattle.commands.specs.Meanings.{meaning_of}

-- The run printed what its subcommand prints, and ended as that says. The exceptions: allocation failed, or the output
-- failed once the run had found what it writes from.
abbrev pub IsCarriedOut : Content → Asked → Result Status Fault → Option (List ℕ) → Option (List ℕ) → Type 0
IsCarriedOut content asked ended old new =
    PrintsUnlessDenied ((meaning_of asked).Prints content) ((meaning_of asked).CanWrite content) ended old new
