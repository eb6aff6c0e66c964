-- What is found of the logs at paths: their events, legal logs, or a fault. A log may have so many rows.
use Rattle.std.specs.Prelude.{◌≡◌, ℕ, ◌∷◌, ◌++◌, List, Result, Ok, Err}
use Rattle.std.specs.List.{AllZip}
use Rattle.std.specs.Result.{result_map_both}
use Rattle.log_streams.specs.Known.{Content}
use Rattle.legalpath.specs.FirstFault.{IsFirstFault}
use Rattle.legalpath.specs.Legal.{Legal}
use Rattle.legalpath.specs.ProgramLog.{ProgramLog, program_log}
use Rattle.legalpath.specs.declared.fault.PathFault.{PathFault}
use Rattle.retire.specs.Log.{log_up_to, most_rows, records_of}
use Rattle.retire.specs.declared.event.Event.{Event}
use Rattle.rvclass.specs.Fetch.{words_of}
use Rattle.rvclass.specs.Image.{Image}
use Rattle.command_inputs.specs.Faults.{Path, log_fault}
use Rattle.command_inputs.specs.Finding.{After}
use Rattle.command_inputs.specs.Found.{IsAskedProgram, IsRead}
use Rattle.command_inputs.specs.declared.words.ProgramArgs.{ProgramArgs}
use Rattle.command_inputs.specs.declared.fault.Fault.{Fault}
use Rattle.command_inputs.specs.declared.fault.Fault.TheVariants as fault

-- The events of a log's bytes, or the fault where they are no log of at most so many rows.
abbrev pub log_at : {W : Type 0} → ℕ → Path → Result (List ℕ) (Fault W) → Result (List Event) (Fault W)
log_at rows path (Err why) = Err why
log_at rows path (Ok bytes) = result_map_both (λ events. events) (log_fault path) (log_up_to rows (records_of bytes))

-- The events of the log at a path, of at most so many rows, are found.
pub record IsLogUpTo {W : Type 0} (rows : ℕ) (content : Content) (path : Path) (found : Result (List Event) (Fault W))
    : Type 0 where
  pub bytes : Result (List ℕ) (Fault W)
  pub read : IsRead content path bytes
  pub made : found ≡ log_at rows path bytes

-- The events of a log are checked against the program: they are a legal log, or the fault names the first illegal row.
-- Where the log was not read, its fault stays.
abbrev pub IsJudged : {W : Type 0} → Image → Path → Result (List Event) (Fault W) → Result ProgramLog (Fault W)
    → Type 0
IsJudged program path (Err why) found = found ≡ Err why
IsJudged program path (Ok events) (Ok log) = (log ≡ program_log program events) × Legal (words_of program) events
IsJudged program path (Ok events) (Err why) =
    (illegal : PathFault) × (why ≡ fault.Illegal path illegal) × IsFirstFault (words_of program) events illegal

-- The legal log at a path, of at most so many rows, is found, or the fault where there is none.
pub record IsLegalLogUpTo {W : Type 0} (rows : ℕ) (content : Content) (program : Image) (path : Path)
    (found : Result ProgramLog (Fault W)) : Type 0 where
  pub events : Result (List Event) (Fault W)
  pub read : IsLogUpTo rows content path events
  pub judged : IsJudged program path events found

-- The logs at the paths before some path are legal, and the log at that path has this fault.
pub record IsFirstRefusedUpTo {W : Type 0} (rows : ℕ) (content : Content) (program : Image) (paths : List Path)
    (why : Fault W) : Type 0 where
  pub front : List Path
  pub path : Path
  pub rest : List Path
  pub logs : List ProgramLog
  pub whole : paths ≡ front ++ path ∷ rest
  pub legal : AllZip (λ path log. IsLegalLogUpTo {W = W} rows content program path (Ok log)) front logs
  pub refused : IsLegalLogUpTo rows content program path (Err why)

-- The legal logs at these paths, of at most so many rows each, are found, in order, or the fault of the first path that
-- has none.
abbrev pub AreLegalLogsUpTo : {W : Type 0} → ℕ → Content → Image → List Path → Result (List ProgramLog) (Fault W)
    → Type 0
AreLegalLogsUpTo {W} rows content program paths (Ok logs) =
    AllZip (λ path log. IsLegalLogUpTo {W = W} rows content program path (Ok log)) paths logs
AreLegalLogsUpTo rows content program paths (Err why) = IsFirstRefusedUpTo rows content program paths why

-- The logs that are asked for, of at most so many rows each, are found. The program is looked at first, then each log
-- in turn, which has to be legal for the program.
abbrev pub AreAskedLogsUpTo : {W : Type 0} → ℕ → Content → ℕ → ProgramArgs → List Path
    → Result (List ProgramLog) (Fault W) → Type 0
AreAskedLogsUpTo rows content most asked paths =
    After (IsAskedProgram content most asked paths) (λ program. AreLegalLogsUpTo rows content program paths)

-- The same of logs of at most 16777216 rows.
abbrev pub IsFirstRefused : {W : Type 0} → Content → Image → List Path → Fault W → Type 0
IsFirstRefused content program paths why = IsFirstRefusedUpTo most_rows content program paths why

abbrev pub AreLegalLogs : {W : Type 0} → Content → Image → List Path → Result (List ProgramLog) (Fault W) → Type 0
AreLegalLogs content program paths found = AreLegalLogsUpTo most_rows content program paths found

abbrev pub AreAskedLogs : {W : Type 0} → Content → ℕ → ProgramArgs → List Path
    → Result (List ProgramLog) (Fault W) → Type 0
AreAskedLogs content most asked paths found = AreAskedLogsUpTo most_rows content most asked paths found
