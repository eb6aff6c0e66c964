-- Runs of lost numbers, as long as they go on.
use Rattle.std.specs.Prelude.{ℕ, ◌+◌, ◌-◌, ◌==◌, ◌||◌, not, nat_lt, Bool, true, false, if◌then◌else◌, List, [], ◌∷◌}
use Rattle.live.specs.Lines.{Line, Missing}
use Rattle.live.specs.declared.run.Run.{Run}

-- No run goes on.
abbrev pub no_run : Run
no_run = record { first = 0; unlined = 0; next = 0 }

-- The line of the numbers of a run that lack one, if there are any.
abbrev pub run_lines : ℕ → Run → List Line
run_lines hart run =
    if run.unlined == run.next then [] else
    Missing hart (record { first = run.unlined; last = run.next - 1 }) ∷ []

-- A run with one number more. If no run goes on, one begins with it.
abbrev pub longer : Run → ℕ → Run
longer run number =
    if run.first == run.next then record { first = number; unlined = number; next = number + 1 } else
    record run { next = number + 1 }

-- The run after a number of its hart is given up, by whether it came.
abbrev pub run_with : Run → ℕ → Bool → Run
run_with run number true = run
run_with run number false = longer run number

-- The line of a run is written: it ends, since a number came, or as many of its numbers lack a line as have one.
abbrev pub is_written : Run → Bool → Bool
is_written run came = came || not (nat_lt (run.next - run.unlined) (run.unlined - run.first))

-- What goes on of a run after a number that came, or that was lost.
abbrev pub run_left : Run → Bool → Run
run_left run true = no_run
run_left run false = if is_written run false then record run { unlined = run.next } else run
