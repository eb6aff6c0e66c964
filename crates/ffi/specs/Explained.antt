-- What a call reports of why a log is illegal.
use Rattle.std.specs.Prelude.{ℕ, ◌≡◌, ◌⊎◌, List, [], None, Result, Ok, Err, length}
use Rattle.explaining.specs.Explanation.{explanation}
use Rattle.legalpath.specs.FirstFault.{IsFirstFault}
use Rattle.legalpath.specs.Legal.{Legal}
use Rattle.legalpath.specs.declared.fault.PathFault.{PathFault}
use Rattle.retire.specs.declared.event.Event.{Event}
use Rattle.retire.specs.declared.fault.LogFault.TheVariants as reading
use Rattle.rvclass.specs.Fetch.{words_of}
use Rattle.rvclass.specs.Image.{Image}
use Rattle.ffi.specs.Checked.{IsLogOf, IsNoLog}
use Rattle.ffi.specs.Handed.{IsHandedOut}
use Rattle.ffi.specs.Images.{Judged}
use Rattle.ffi.specs.Statuses.{fault_row, fault_status, why_status}
use Rattle.ffi.specs.declared.explaining_log.Explained.{Explained}
use Rattle.ffi.specs.declared.explaining_log.ExplainEnd.{ExplainEnd}
use Rattle.ffi.specs.declared.fault.Fault.{Fault}
use Rattle.ffi.specs.declared.fault.Fault.TheVariants.{Memory, NoProgram, Log}
use Rattle.ffi.specs.declared.status.TheConstants.{DONE}

-- The log is legal: it has no explanation, and so many rows.
pub record IsLegal (program : Image) (events : List Event) (text : List ℕ) (end : ExplainEnd) : Type 0 where
  pub legal : Legal (words_of program) events
  pub written : text ≡ []
  pub ended : end ≡ record { row = length events; fault = DONE }

-- The log is illegal: the text explains its first illegal row.
pub record IsIllegal (program : Image) (events : List Event) (text : List ℕ) (end : ExplainEnd) : Type 0 where
  pub fault : PathFault
  pub first : IsFirstFault (words_of program) events fault
  pub written : text ≡ explanation None program events fault
  pub ended : end ≡ record { row = fault.row; fault = why_status fault.why }

-- The text is what explains the first illegal row of a log, if it has one, and this is how the log ends.
pub record HasExplanation (image : Judged) (log text : List ℕ) (end : ExplainEnd) : Type 0 where
  pub program : Image
  pub events : List Event
  pub made : image ≡ Ok program
  pub read : IsLogOf log events
  pub explained : IsLegal program events text end ⊎ IsIllegal program events text end

-- The result for an image and the text of a log: an explanation; or the image makes no program, or the text is no log; or
-- an allocation failed.
abbrev pub IsExplained : Judged → List ℕ → Result Explained Fault → Type 0
IsExplained image log (Ok found) = HasExplanation image log found.text.items found.end
IsExplained image log (Err Memory) = Unit {0}
IsExplained image log (Err (NoProgram why)) = image ≡ Err why
IsExplained image log (Err (Log why)) = (why ≡ reading.Memory) ⊎ IsNoLog image log why
IsExplained image log (Err other) = ⊥

-- An explanation was handed out, and it was reported how the log ends; or the status says why there is none, and of which
-- row, and nothing else was written.
pub data ReportsExplain (image : Judged) (log : List ℕ) (status wanted_before wanted : ℕ) (ended : ExplainEnd)
    (old new : List ℕ) : Type 0 where
  Handed : (text : List ℕ) → HasExplanation image log text ended → IsHandedOut text status wanted old new
      → ReportsExplain image log status wanted_before wanted ended old new
  Refused : (fault : Fault) → IsExplained image log (Err fault) → status ≡ fault_status fault
      → ended ≡ record { row = fault_row fault; fault = fault_status fault } → wanted ≡ wanted_before → new ≡ old
      → ReportsExplain image log status wanted_before wanted ended old new
