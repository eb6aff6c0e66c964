-- How what the arguments ask for is carried out.
use Rattle.std.specs.Prelude.{◌≡◌, ℕ, List, Option, Result, Ok, Err, IfSome}
use Rattle.cli.specs.Asking.{WordsAsk}
use Rattle.output.specs.Begun.{AppendsBeginning}
use Rattle.commands.specs.Begun.{IsBegun, IsCutOutput}
use Rattle.commands.specs.CarriedOut.{IsCarriedOut}
use Rattle.commands.specs.FaultText.{error_line}
use Rattle.commands.specs.Faults.{Fault, final_status}
use Rattle.log_streams.specs.Known.{Content}
use Rattle.commands.specs.Order.{early_fault}
use Rattle.command_inputs.specs.Status.{code_of}
use Rattle.command_inputs.specs.declared.fault.Fault.TheVariants as fault
use Rattle.command_inputs.specs.declared.status.Status.{Status}
use Rattle.command_inputs.specs.declared.words.Asked.{Asked}

-- Where the run ended at a fault, the fault's line, or a prefix of it, was appended to standard error. Else standard
-- error was left alone.
abbrev pub ReportsFault : {E : Type 0} → (E → Option (List ℕ)) → Result Status Fault → E → E → Type 0
ReportsFault contents (Ok status) old new = new ≡ old
ReportsFault contents (Err why) old new = AppendsBeginning (error_line why) (contents old) (contents new)

-- What is asked was carried out, and this is its status. A fault that is found before any file is read ends the run.
-- The text is that of what is asked, or a prefix of it where allocation or the output failed. A fault was
-- reported on standard error.
pub record IsDone {E : Type 0} (content : Content) (asked : Asked) (status : Status)
    (out_old out_new : Option (List ℕ)) (contents : E → Option (List ℕ)) (err_old err_new : E) : Type 0 where
  pub ended : Result Status Fault
  pub ends : status ≡ final_status ended
  pub early : IfSome (early_fault asked) (λ why. ended ≡ Err why)
  pub carried : IsCarriedOut content asked ended out_old out_new
  pub begun : ended ≡ Err fault.Memory → IsBegun content asked out_old out_new
  pub cut : IsCutOutput content asked out_old out_new
  pub reported : ReportsFault contents ended err_old err_new

-- The arguments ask for something, and that was carried out, with this exit status.
pub record AreCarriedOut {E : Type 0} (content : Content) (words : List (List ℕ)) (code : ℕ)
    (out_old out_new : Option (List ℕ)) (contents : E → Option (List ℕ)) (err_old err_new : E) : Type 0 where
  pub asked : Asked
  pub status : Status
  pub asks : WordsAsk words asked
  pub coded : code ≡ code_of status
  pub done : IsDone content asked status out_old out_new contents err_old err_new
