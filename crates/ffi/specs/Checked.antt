-- What a call reports of a log.
use Rattle.std.specs.Prelude.{ℕ, ◌≡◌, ◌⊎◌, List, Result, Ok, Err, length}
use Rattle.legalpath.specs.FirstFault.{IsFirstFault}
use Rattle.legalpath.specs.Legal.{Legal}
use Rattle.retire.specs.Log.{log_of_records, records_of}
use Rattle.retire.specs.declared.event.Event.{Event}
use Rattle.retire.specs.declared.fault.LogFault.{LogFault}
use Rattle.retire.specs.declared.fault.LogFault.TheVariants as log
use Rattle.rvclass.specs.Fetch.{words_of}
use Rattle.rvclass.specs.Image.{Image}
use Rattle.ffi.specs.Images.{Judged}
use Rattle.ffi.specs.Statuses.{fault_row, fault_status}
use Rattle.ffi.specs.declared.fault.Fault.{Fault}
use Rattle.ffi.specs.declared.fault.Fault.TheVariants.{Memory, NoProgram, Log, Illegal}
use Rattle.ffi.specs.declared.status.TheConstants.{DONE}

-- The text is a log of these events.
abbrev pub IsLogOf : List ℕ → List Event → Type 0
IsLogOf text events = log_of_records (records_of text) ≡ Ok events

-- The image makes a program, and the text is no log, for this reason.
abbrev pub IsNoLog : Judged → List ℕ → LogFault → Type 0
IsNoLog image text why =
    (program : Image) × (image ≡ Ok program) × (log_of_records (records_of text) ≡ Err why)

-- The result for an image and the text of a log: a legal log of so many events, or the first fault; or an allocation
-- failed.
abbrev pub IsChecked : Judged → List ℕ → Result ℕ Fault → Type 0
IsChecked image text (Ok count) =
    (program : Image) × (events : List Event) × (image ≡ Ok program) × IsLogOf text events
    × Legal (words_of program) events × (count ≡ length events)
IsChecked image text (Err Memory) = Unit {0}
IsChecked image text (Err (NoProgram why)) = image ≡ Err why
IsChecked image text (Err (Log why)) = (why ≡ log.Memory) ⊎ IsNoLog image text why
IsChecked image text (Err (Illegal why)) =
    (program : Image) × (events : List Event) × (image ≡ Ok program) × IsLogOf text events
    × IsFirstFault (words_of program) events why
IsChecked image text (Err other) = ⊥

-- What is reported of it: the status, and the row that the fault names or how many events there are.
abbrev pub IsReported : Result ℕ Fault → ℕ → ℕ → Type 0
IsReported (Ok count) status row = (status ≡ DONE) × (row ≡ count)
IsReported (Err fault) status row = (status ≡ fault_status fault) × (row ≡ fault_row fault)

-- A log was checked, and the result was reported.
abbrev pub ReportsCheck : Judged → List ℕ → ℕ → ℕ → Type 0
ReportsCheck image text status row =
    (checked : Result ℕ Fault) × IsChecked image text checked × IsReported checked status row
