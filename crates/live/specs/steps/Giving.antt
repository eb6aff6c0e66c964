-- Messages of SENT are given up, and the lines that are left are handed over.
use Rattle.std.specs.Prelude.{ℕ, ◌≡◌, ◌+◌, ◌-◌, ◌^◌, ◌<◌, ◌==◌, Bool, if◌then◌else◌, List, [], Option, Some, None, length}
use Rattle.std.specs.List.{AllByRecursion, flat_map, range_with_len}
use Rattle.auditing.specs.declared.lost.Lost.{Lost}
use Rattle.live.specs.Auditing.{runs_in, waiting_in}
use Rattle.live.specs.Lines.{Line}
use Rattle.live.specs.Live.{Step, strange_lines}
use Rattle.live.specs.Runs.{is_written, run_lines}
use Rattle.live.specs.declared.arrived.Arrived.{Arrived}
use Rattle.live.specs.declared.held.SentMessage.{SentMessage}
use Rattle.live.specs.declared.run.Run.{Run}

-- The numbers of a run that lack a line, if there are any.
abbrev pub run_lost : Run → Option Lost
run_lost run = if run.unlined == run.next then None else Some (record { first = run.unlined; last = run.next - 1 })

-- The line of a run, if it is written.
abbrev pub written_lines : ℕ → Run → Bool → List Line
written_lines hart run came = if is_written run came then run_lines hart run else []

-- A message is of one of so many harts, and its number is not the last one.
abbrev pub IsCounted : ℕ → SentMessage → Type 0
IsCounted harts slot = (slot.message.hart < harts) × (slot.message.number + 1 < 2 ^ 64)

-- The same of each of these messages.
abbrev pub AreCounted : ℕ → List SentMessage → Type 0
AreCounted harts slots = AllByRecursion (IsCounted harts) slots

-- The runs after a step, whose lines were handed over.
abbrev pub IsGiven : (List Line → Type 0) → Step → List Run → Type 0
IsGiven Told step runs = Told step.lines × (runs_in runs ≡ step.state.runs)

-- The lines of what waits.
abbrev pub waiting_lines : List (Option Arrived) → List Line
waiting_lines waiting = flat_map (λ hart. strange_lines (waiting_in waiting hart)) (range_with_len 0 (length waiting))

-- The lines of the runs that go on.
abbrev pub open_lines : List Run → List Line
open_lines runs = flat_map (λ hart. run_lines hart (runs_in runs hart)) (range_with_len 0 (length runs))
