-- How many rows a log may have.
use Rattle.std.specs.Prelude.{ℕ, Bool, if◌then◌else◌}
use Rattle.retire.specs.Log.{most_long_rows, most_rows}

-- A log may have 4294967295 rows where long logs are asked for, and else 16777216.
abbrev pub most_of : Bool → ℕ
most_of long = if long then most_long_rows else most_rows
