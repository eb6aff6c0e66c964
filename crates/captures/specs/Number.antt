-- The number of a message, by what its line says.
use Rattle.std.specs.Prelude.{ℕ, ◌+◌, ◌-◌, ◌/◌, ◌%◌, ◌^◌, nat_lt, if◌then◌else◌, max, min, List, Option, Some, None}
use Rattle.std.specs.List.{fold}
use Rattle.message.specs.declared.message.Message.{Message}

-- The greatest number of these messages, plus 1. It is 0 where there is no message.
abbrev pub next_of : List Message → ℕ
next_of messages = fold (λ next (message : Message). max next (message.number + 1)) 0 messages

-- The first of the numbers that a field of so many numbers may stand for, after these messages of its hart: the
-- greatest of theirs plus 1, less half of that count. It is 0 where that is below 0, or where there is no message.
abbrev pub lowest_of : Option ℕ → List Message → ℕ
lowest_of None before = 0
lowest_of (Some numbers) before = next_of before - numbers / 2

-- This number, or the one so many further on, where this one is below the lowest.
abbrev pub not_below : ℕ → ℕ → ℕ → ℕ
not_below lowest numbers number = if nat_lt number lowest then number + numbers else number

-- The first number from the lowest on that a field stands for, which counts so many numbers and then begins again at 0.
-- It is among those with the same quotient as the lowest, or among those with the next.
abbrev pub first_from : ℕ → ℕ → ℕ → ℕ
first_from numbers lowest field = not_below lowest numbers (lowest - lowest % numbers + field)

-- The number of a message that comes after so many of its hart. A line without a number has that count. Where the field
-- has the number itself, it is that. Else it is the one of so many numbers from the lowest on that the field stands
-- for, and at most 2^64 - 1.
abbrev pub number_by : Option ℕ → ℕ → ℕ → Option ℕ → ℕ
number_by numbers count lowest None = count
number_by None count lowest (Some number) = number
number_by (Some numbers) count lowest (Some field) = min (first_from numbers lowest field) (2 ^ 64 - 1)
