-- Which rows of its hart a message settles, over what salvaging leaves of the hart, in the order of the numbers.
use Rattle.std.specs.Prelude.{ℕ, ◌==◌, ◌&&◌, ◌-◌, ◌^◌, Bool, true, if◌then◌else◌, List, map, min, nat_le, sum_by}
use Rattle.std.specs.List.{zip}
use Rattle.listing.specs.declared.form.Form.{Form}
use Rattle.listing.specs.declared.form.Form.TheVariants.{Lines, Table}
use Rattle.message.specs.declared.message.Message.{Message}
use Rattle.salvaging.specs.TreatedParts.{taken_by}
use Rattle.salvaging.specs.declared.treatment.Treated.{Treated}
use Rattle.salvage_reports.specs.declared.hart_rows.TreatedInRows.{TreatedInRows}

-- The message is of this hart, and its number is at most this one.
abbrev pub is_up_to : ℕ → ℕ → Message → Bool
is_up_to hart number message = (message.hart == hart) && nat_le message.number number

-- How many rows a message adds with which this is done, if it is such a message.
abbrev pub adds_up_to : ℕ → ℕ → Message × Treated → ℕ
adds_up_to hart number one = if is_up_to hart number one.0 then taken_by one.1.treatment else 0

-- How many rows these messages leave of a hart up to this number: what those of them add, with which this is done.
abbrev pub rows_up_to : ℕ → ℕ → List (Message × Treated) → ℕ
rows_up_to hart number all = sum_by (adds_up_to hart number) all

-- What is done with one of these messages, and how many rows they leave of its hart up to its number: 2^64 - 1 at most.
abbrev pub in_row : List (Message × Treated) → Message × Treated → TreatedInRows
in_row all one =
    record { treated = one.1; rows = min (rows_up_to one.0.hart one.0.number all) (2 ^ 64 - 1) }

-- What is done with a message, where rows are not to be said.
abbrev pub without_rows : Message × Treated → TreatedInRows
without_rows one = record { treated = one.1; rows = 0 }

-- The form says which rows a message settles.
abbrev pub says_rows : Form → Bool
says_rows (Lines rows) = rows
says_rows Table = true

-- What is done with one of these messages, and its rows, where the form says them.
abbrev pub in_form : Form → List (Message × Treated) → Message × Treated → TreatedInRows
in_form form all one = if says_rows form then in_row all one else without_rows one

-- The same of each of these messages, with which this is done, in their order.
abbrev pub in_rows : Form → List Message → List Treated → List TreatedInRows
in_rows form messages treated = map (in_form form (zip messages treated)) (zip messages treated)
