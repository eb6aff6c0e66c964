-- The logs that a capture is compared with, and how a comparison ends.
use Rattle.std.specs.Prelude.{ℕ, ◌≡◌, ◌==◌, Bool, true, false, if◌then◌else◌, List, Option, Some, None, Result, Ok, Err, length}
use Rattle.captures.specs.declared.outcome.CaptureFault.{CaptureFault}
use Rattle.log_streams.specs.Known.{Content}
use Rattle.legalpath.specs.ProgramLog.{ProgramLog}
use Rattle.retire.specs.Log.{most_long_rows, most_rows}
use Rattle.rvclass.specs.Image.{Image}
use Rattle.command_inputs.specs.Faults.{Path}
use Rattle.command_inputs.specs.Finding.{After}
use Rattle.command_inputs.specs.FoundLogs.{AreLegalLogsUpTo}
use Rattle.command_inputs.specs.declared.fault.Fault.TheVariants as fault
use Rattle.command_inputs.specs.declared.status.Status.{Status}
use Rattle.command_inputs.specs.declared.status.Status.TheVariants.{NotWhole, Whole}
use Rattle.capture_commands.specs.Faults.{Fault, capture_fault}
use Rattle.capture_commands.specs.declared.reason.CaptureReason.TheVariants.{Logs}

-- A log may have 4294967295 rows where long logs are asked for, and else 16777216.
abbrev pub rows_of : Bool → ℕ
rows_of long = if long then most_long_rows else most_rows

-- There are as many logs as harts, or else the fault names both counts.
abbrev pub count_at : ℕ → List Path → Result (Unit {0}) Fault
count_at harts paths = if length paths == harts then Ok tt else Err (fault.Own (Logs (length paths) harts))

-- It is found whether there are as many logs as harts.
abbrev pub AreAsMany : ℕ → List Path → Result (Unit {0}) Fault → Type 0
AreAsMany harts paths found = found ≡ count_at harts paths

-- The logs of so many harts are found: their count is looked at first, then each log in turn, which has to be legal for
-- the program. A log may have so many rows.
abbrev pub AreLogsOfHarts : ℕ → Content → Image → List Path → ℕ → Result (List ProgramLog) Fault → Type 0
AreLogsOfHarts rows content program paths harts =
    After (AreAsMany harts paths) (λ _. AreLegalLogsUpTo rows content program paths)

-- The fault at which decoding stops, if it does.
abbrev pub end_of_stop : Option (ℕ × CaptureFault) → Result (Unit {0}) Fault
end_of_stop None = Ok tt
end_of_stop (Some stop) = Err (capture_fault stop.0 stop.1)

-- How a comparison ends: at the fault at which decoding stops, if it does, and else with the status by whether it is
-- whole.
abbrev pub comparison_end : Result (Unit {0}) Fault → Bool → Result Status Fault
comparison_end (Err why) whole = Err why
comparison_end (Ok _) true = Ok Whole
comparison_end (Ok _) false = Ok NotWhole
