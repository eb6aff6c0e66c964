-- The numbers that were lost.
use Rattle.std.specs.Prelude.{ℕ, ◌==◌, ◌+◌, not, Bool, if◌then◌else◌, List, [], ◌∷◌, map}
use Rattle.std.specs.List.{filter}
use Rattle.message.specs.OfHart.{of_hart}
use Rattle.message.specs.declared.message.Message.{Message}
use Rattle.auditing.specs.Fates.{has_number, true_ones}
use Rattle.auditing.specs.declared.lost.Lost.{Lost}

-- A number of a hart is lost: no true message of RECEIVED has it.
abbrev pub is_lost : List Message → List Message → ℕ → ℕ → Bool
is_lost sent received hart number = not (has_number (true_ones sent received) hart number)

-- The numbers of a hart of SENT that are lost, in the order of SENT.
abbrev pub lost_numbers : List Message → List Message → ℕ → List ℕ
lost_numbers sent received hart =
    filter (is_lost sent received hart) (map (λ (message : Message). message.number) (of_hart hart sent))

-- These runs with a number before them. Where no number is between it and the first run, the two are one run.
abbrev pub run_before : ℕ → List Lost → List Lost
run_before number [] = record { first = number; last = number } ∷ []
run_before number (run ∷ runs) =
    if run.first == number + 1 then record { first = number; last = run.last } ∷ runs else
    record { first = number; last = number } ∷ run ∷ runs

-- The longest runs of rising numbers.
abbrev pub runs_of : List ℕ → List Lost
runs_of [] = []
runs_of (number ∷ numbers) = run_before number (runs_of numbers)

-- The longest runs of numbers of a hart of SENT that are lost.
abbrev pub lost_runs : List Message → List Message → ℕ → List Lost
lost_runs sent received hart = runs_of (lost_numbers sent received hart)
