-- A run of a subcommand, with all that is said of it.
use Rattle.std.specs.Prelude.{◌≡◌, ℕ, List, Option, Result, Err, IfSome}
use Rattle.log_streams.specs.Known.{Content}
use Rattle.command_inputs.specs.Kind.{WritesAsItReads}
use Rattle.command_inputs.specs.declared.words.Asked.{Asked}
use Rattle.command_inputs.specs.declared.fault.Fault.TheVariants as fault
use Rattle.command_inputs.specs.declared.status.Status.{Status}
use Rattle.command_inputs.specs.declared.status.Status.TheVariants.{Refused}
use Rattle.commands.specs.Begun.{IsBegun, IsCutOutput, WritesInParts}
use Rattle.commands.specs.CarriedOut.{IsCarriedOut}
use Rattle.commands.specs.Faults.{Fault, final_status}
use Rattle.commands.specs.Order.{early_fault}

-- What is asked was done, and ended so. The output has these contents. However that is, also where the output fails,
-- nothing or a prefix of the text was written (`cut`), and where allocation fails too (`begun`). Then only `check`,
-- `decode --lossy`, `list` without `--salvage`, `audit --live` and `capture` of lines as they come may have written anything
-- (`untouched`). Where the input is refused, nothing is written, but by `check`, by `audit --live` and by `capture` of lines
-- as they come (`refused`).
pub record IsRun {O : Type 0} (content : Content) (asked : Asked) (contents : O → Option (List ℕ))
    (ended : Result Status Fault) (old new : O) : Type 0 where
  pub cut : IsCutOutput content asked (contents old) (contents new)
  pub early : IfSome (early_fault asked) (λ why. ended ≡ Err why)
  pub printed : IsCarriedOut content asked ended (contents old) (contents new)
  pub begun : ended ≡ Err fault.Memory → IsBegun content asked (contents old) (contents new)
  pub untouched : ¬ (WritesInParts asked) → ended ≡ Err fault.Memory → new ≡ old
  pub refused : ¬ (WritesAsItReads asked) → final_status ended ≡ Refused → new ≡ old
