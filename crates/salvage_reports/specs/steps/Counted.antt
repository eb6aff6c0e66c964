-- How many rows messages add, by their harts and numbers as one key.
use Rattle.std.specs.Prelude.{ℕ, ◌<◌, ◌+◌, ◌*◌, ◌^◌, List, [], ◌∷◌, if◌then◌else◌, map, nat_lt, sum_by}
use Rattle.std.specs.List.{zip}
use Rattle.message.specs.declared.message.Message.{Message}
use Rattle.salvaging.specs.TreatedParts.{taken_by}
use Rattle.salvaging.specs.declared.treatment.Treated.{Treated}
use Rattle.salvage_reports.specs.declared.hart_rows.Counted.{Counted}
use Rattle.salvage_reports.specs.declared.hart_rows.Summed.{Summed}

-- Keys rise by harts, and those of a hart by numbers.
abbrev pub key_of : ℕ → ℕ → ℕ
key_of hart number = hart * 2 ^ 64 + number

-- How many rows a message adds with which this is done, by its key.
abbrev pub counted_of : Message × Treated → Counted
counted_of one = record { key = key_of one.0.hart one.0.number; rows = taken_by one.1.treatment }

abbrev pub all_counted : List Message → List Treated → List Counted
all_counted messages treated = map counted_of (zip messages treated)

-- The number of a message is one of 64 bits.
abbrev pub HasNumber : Message × Treated → Type 0
HasNumber one = one.0.number < 2 ^ 64

abbrev pub key_in : Counted → ℕ
key_in one = one.key

abbrev pub rows_in : Counted → ℕ
rows_in one = one.rows

-- How many rows are added below a key.
abbrev pub adds_below : ℕ → Counted → ℕ
adds_below key one = if nat_lt one.key key then one.rows else 0

abbrev pub rows_below : ℕ → List Counted → ℕ
rows_below key all = sum_by (adds_below key) all

-- Each with all rows up to it, where so many come before.
abbrev pub summed : ℕ → List Counted → List Summed
summed before [] = []
summed before (one ∷ more) = record { key = one.key; rows = before + one.rows } ∷ summed (before + one.rows) more
