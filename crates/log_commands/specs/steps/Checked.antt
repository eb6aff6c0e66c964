-- What is kept of logs that were checked.
use Rattle.std.specs.Prelude.{◌≡◌, ◌++◌, ℕ, Bool, true, false, List, [], None, Some, Result, Ok, Err, length}
use Rattle.std.specs.Prelude.{if◌then◌else◌}
use Rattle.std.specs.List.{flat_map, zip}
use Rattle.explaining.specs.Explanation.{explained}
use Rattle.log_streams.specs.declared.illegal_row.IllegalRow.{IllegalRow}
use Rattle.retire.specs.declared.event.Event.{Event}
use Rattle.command_inputs.specs.Faults.{Path}
use Rattle.log_commands.specs.Checking.{CheckInput, verdict_line}
use Rattle.log_commands.specs.declared.checking.Input.{Input}

-- The input that is held.
abbrev pub input_in : Input → CheckInput
input_in input = record { program = input.program; symbols = input.symbols }

-- How many events a legal log has; else its first illegal row.
abbrev pub Verdict : Type 0
Verdict = Result ℕ IllegalRow

-- This is the verdict on a legal log with these events.
abbrev pub IsVerdictOnLegal : List Event → Verdict → Type 0
IsVerdictOnLegal events verdict = verdict ≡ Ok (length events)

-- The line that explains an illegal row, if that is asked for.
abbrev pub row_line : Bool → CheckInput → IllegalRow → List ℕ
row_line explain input row =
    if explain then explained input.symbols input.program row.before (Some row.event) row.fault.why else []

-- What is written of an illegal log: its line says nothing of the count of its events.
abbrev pub illegal_lines : Bool → CheckInput → List ℕ → IllegalRow → List ℕ
illegal_lines explain input path row = verdict_line path 0 (Some row.fault) ++ row_line explain input row

-- What is written of a log at a path by the verdict on it.
abbrev pub verdict_lines : Bool → CheckInput → List ℕ → Verdict → List ℕ
verdict_lines explain input path (Ok count) = verdict_line path count None
verdict_lines explain input path (Err row) = illegal_lines explain input path row

-- What is written of a log, by its path and the verdict on it.
abbrev pub lines_of : Bool → CheckInput → Path × Verdict → List ℕ
lines_of explain input log = verdict_lines explain input log.0.now log.1

-- What is written of the first logs at these paths, by the verdicts on them.
abbrev pub all_lines : Bool → CheckInput → List Path → List Verdict → List ℕ
all_lines explain input paths verdicts = flat_map (lines_of explain input) (zip paths verdicts)

-- The verdict is that the log is illegal.
abbrev pub is_refused : Verdict → Bool
is_refused (Ok count) = false
is_refused (Err row) = true
