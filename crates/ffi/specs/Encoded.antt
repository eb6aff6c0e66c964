-- What a call reports of a capture of logs, or of what logs cost.
use Rattle.std.specs.Prelude.{ℕ, ◌≡◌, ◌⊎◌, ◌-◌, ◌<◌, ◌≤◌, ◌++◌, ◌==◌, ◌&&◌, nat_le, if◌then◌else◌, List, [], ◌∷◌, drop}
use Rattle.std.specs.Prelude.{Option, Some, None, Result, Ok, Err, length, slice_index_or, take}
use Rattle.std.specs.declared.alloc.Global.{Global}
use Rattle.std.specs.declared.vec.Vec.{Vec}
use Rattle.captures.specs.Table.{measures_table}
use Rattle.captures.specs.Versions.{capture_of}
use Rattle.legalpath.specs.FirstFault.{IsFirstFault}
use Rattle.legalpath.specs.ProgramLog.{IsLegalLog, ProgramLog}
use Rattle.message.specs.Version.{most_harts}
use Rattle.message.specs.declared.header.Version.{Version}
use Rattle.message.specs.declared.header.Version.TheVariants.{One, Two}
use Rattle.payload.specs.declared.mode.Mode.{Mode}
use Rattle.payload.specs.declared.mode.Mode.TheVariants.{Differential, Full}
use Rattle.retire.specs.Log.{log_of_records, records_of}
use Rattle.retire.specs.declared.event.Event.{Event}
use Rattle.retire.specs.declared.fault.LogFault.TheVariants as log
use Rattle.rvclass.specs.Fetch.{words_of}
use Rattle.rvclass.specs.Image.{Image}
use Rattle.ffi.specs.Checked.{IsLogOf}
use Rattle.ffi.specs.Handed.{IsHandedOut}
use Rattle.ffi.specs.Images.{Judged}
use Rattle.ffi.specs.Statuses.{fault_row, fault_status}
use Rattle.ffi.specs.declared.encoding.LogPlace.{LogPlace}
use Rattle.ffi.specs.declared.encoding.TheConstants.{VERSION_ONE, VERSION_TWO}
use Rattle.ffi.specs.declared.fault.Fault.{Fault}
use Rattle.ffi.specs.declared.fault.Fault.TheVariants.{Memory, NoProgram, Log, Illegal, Range, Ends}
use Rattle.ffi.specs.declared.numbers.TheConstants.{DIFFERENTIAL, FULL}

-- The mode of a number.
abbrev pub mode_of : ℕ → Option Mode
mode_of number = if number == DIFFERENTIAL then Some Differential else if number == FULL then Some Full else None

-- The version of a number.
abbrev pub version_of : ℕ → Option Version
version_of number = if number == VERSION_ONE then Some One else if number == VERSION_TWO then Some Two else None

-- The bytes from one place up to another, where these do not go back or past the end.
abbrev pub text_between : List ℕ → ℕ → ℕ → Option (List ℕ)
text_between bytes from end =
    if nat_le from end && nat_le end (length bytes) then Some (take (end - from) (drop from bytes)) else None

-- There is a text, and it is that of a legal log of the program.
abbrev pub IsLegalText : Image → Option (List ℕ) → ProgramLog → Type 0
IsLegalText program None log = ⊥
IsLegalText program (Some text) log = IsLogOf text log.events × (log.program ≡ program) × IsLegalLog log

-- There is no text, or it is no text of a legal log of the program, for this reason; or an allocation failed.
abbrev pub IsNoLegalText : Image → Option (List ℕ) → Fault → Type 0
IsNoLegalText program text Memory = Unit {0}
IsNoLegalText program None Ends = Unit {0}
IsNoLegalText program (Some text) (Log why) = (why ≡ log.Memory) ⊎ (log_of_records (records_of text) ≡ Err why)
IsNoLegalText program (Some text) (Illegal why) =
    (events : List Event) × IsLogOf text events × IsFirstFault (words_of program) events why
IsNoLegalText program text other = ⊥

-- The texts, of which the first begins here and each further one where the one before ends, are those of these legal
-- logs.
abbrev pub AreLogs : Image → List ℕ → ℕ → List ℕ → List ProgramLog → Type 0
AreLogs program bytes from [] [] = Unit {0}
AreLogs program bytes from [] (log ∷ logs) = ⊥
AreLogs program bytes from (end ∷ ends) [] = ⊥
AreLogs program bytes from (end ∷ ends) (log ∷ logs) =
    IsLegalText program (text_between bytes from end) log × AreLogs program bytes end ends logs

-- Where the last of texts ends, the first of which begins here.
abbrev pub last_end : ℕ → List ℕ → ℕ
last_end from [] = from
last_end from (end ∷ ends) = last_end end ends

-- The text with this number, counted from 0: it begins where the one before ends.
abbrev pub text_at : List ℕ → List ℕ → ℕ → Option (List ℕ)
text_at bytes ends place = text_between bytes (last_end 0 (take place ends)) (slice_index_or ends place 0)

-- The first of the texts that is no legal log's has this number, and this is why.
pub record IsRefusedLog (program : Image) (bytes ends : List ℕ) (place : ℕ) (fault : Fault) : Type 0 where
  pub front : List ℕ
  pub end : ℕ
  pub rest : List ℕ
  pub logs : List ProgramLog
  pub whole : ends ≡ front ++ end ∷ rest
  pub before : AreLogs program bytes 0 front logs
  pub counted : place ≡ length front
  pub refused : IsNoLegalText program (text_between bytes (last_end 0 front) end) fault

-- The text that is laid out of the legal logs of texts, by the program of an image.
pub record IsTextOfLogs (image : Judged) (bytes ends : List ℕ) (laid : List ProgramLog → List ℕ) (text : List ℕ)
    : Type 0 where
  pub program : Image
  pub logs : List ProgramLog
  pub made : image ≡ Ok program
  pub are : AreLogs program bytes 0 ends logs
  pub written : text ≡ laid logs

-- An image makes a program, and one of the texts is no legal log's.
abbrev pub HasRefusedLog : Judged → List ℕ → List ℕ → ℕ → Fault → Type 0
HasRefusedLog image bytes ends place fault =
    (program : Image) × (image ≡ Ok program) × IsRefusedLog program bytes ends place fault

-- Why there is no capture of texts: the image makes no program, a text is no legal log's, or an allocation failed, for a
-- text or for something else.
abbrev pub IsNoCapture : Judged → List ℕ → List ℕ → ℕ → Fault → Type 0
IsNoCapture image bytes ends place Memory = (place ≡ 0) ⊎ HasRefusedLog image bytes ends place Memory
IsNoCapture image bytes ends place (NoProgram why) = (place ≡ 0) × (image ≡ Err why)
IsNoCapture image bytes ends place why = HasRefusedLog image bytes ends place why

-- The numbers name this mode and this version, the period is 1 or more, and there is a log at least, and at most as
-- many as the version has harts.
pub record AreInRange (ends : List ℕ) (period mode version : ℕ) (named_mode : Mode) (named_version : Version)
    : Type 0 where
  pub mode_is : mode_of mode ≡ Some named_mode
  pub version_is : version_of version ≡ Some named_version
  pub some_period : 1 ≤ period
  pub some_logs : 1 ≤ length ends
  pub few_logs : length ends ≤ most_harts named_version

-- There are more logs than the version that is named has harts.
abbrev pub HasTooManyLogs : List ℕ → ℕ → Type 0
HasTooManyLogs ends version =
    (named : Version) × (version_of version ≡ Some named) × (most_harts named < length ends)

-- A number is out of its range.
abbrev pub IsOutOfRange : List ℕ → ℕ → ℕ → ℕ → Type 0
IsOutOfRange ends period mode version =
    (mode_of mode ≡ None) ⊎ (version_of version ≡ None) ⊎ (period ≡ 0) ⊎ (length ends ≡ 0)
    ⊎ HasTooManyLogs ends version

-- The result for an image and the texts of logs: what is laid out of them, or why it is not.
abbrev pub IsMade : Judged → List ℕ → List ℕ → (List ProgramLog → List ℕ) → Result (Vec ℕ Global) (ℕ × Fault) → Type 0
IsMade image bytes ends laid (Ok made) = IsTextOfLogs image bytes ends laid made.items
IsMade image bytes ends laid (Err (place, fault)) = IsNoCapture image bytes ends place fault

-- The same, where the mode and the version are numbers: these come first, and a number is out of its range, or all are
-- within theirs, and it is laid out in this mode and version.
pub data IsEncoded (image : Judged) (bytes ends : List ℕ) (period mode version : ℕ)
    (laid : Mode → Version → List ProgramLog → List ℕ) (made : Result (Vec ℕ Global) (ℕ × Fault)) : Type 0 where
  OutOfRange : IsOutOfRange ends period mode version → made ≡ Err (0, Range)
      → IsEncoded image bytes ends period mode version laid made
  InRange : (named_mode : Mode) (named_version : Version)
      → AreInRange ends period mode version named_mode named_version
      → IsMade image bytes ends (laid named_mode named_version) made
      → IsEncoded image bytes ends period mode version laid made

-- What was made is reported: a capture was handed out; or the status says why there is none, and of which log and row.
pub data ReportsMade (made : Result (Vec ℕ Global) (ℕ × Fault)) (status wanted_before wanted : ℕ)
    (place_before place : LogPlace) (old new : List ℕ) : Type 0 where
  Made : (capture : Vec ℕ Global) → made ≡ Ok capture → IsHandedOut capture.items status wanted old new
      → place ≡ place_before → ReportsMade made status wanted_before wanted place_before place old new
  Refused : (log : ℕ) (fault : Fault) → made ≡ Err (log, fault) → status ≡ fault_status fault
      → place ≡ record { log = log; row = fault_row fault } → wanted ≡ wanted_before → new ≡ old
      → ReportsMade made status wanted_before wanted place_before place old new

-- The texts of logs were encoded, and the result was reported.
abbrev pub ReportsEncode : Judged → List ℕ → List ℕ → ℕ → ℕ → ℕ → ℕ → ℕ → ℕ → LogPlace → LogPlace → List ℕ → List ℕ → Type 0
ReportsEncode image bytes ends period mode version status wanted_before wanted place_before place old new =
    (made : Result (Vec ℕ Global) (ℕ × Fault))
    × IsEncoded image bytes ends period mode version (λ mode version. capture_of version period mode) made
    × ReportsMade made status wanted_before wanted place_before place old new

-- The texts of logs were measured, and the result was reported: a table, as many logs as a capture with a header has.
abbrev pub ReportsMeasure : Judged → List ℕ → List ℕ → ℕ → ℕ → ℕ → ℕ → ℕ → LogPlace → LogPlace → List ℕ → List ℕ
    → Type 0
ReportsMeasure image bytes ends period mode status wanted_before wanted place_before place old new =
    (made : Result (Vec ℕ Global) (ℕ × Fault))
    × IsEncoded image bytes ends period mode VERSION_TWO (λ mode version. measures_table period mode) made
    × ReportsMade made status wanted_before wanted place_before place old new
