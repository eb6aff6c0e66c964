-- Fields that may have any bytes.
use Rattle.std.specs.Prelude.{ℕ, List, map}
use Rattle.csv.specs.Writing.{default_writer, field_text}
use Rattle.output.specs.Fields.{fields_line}

-- A field as `csv` writes it: between quotes, and with each quote in it doubled, if it has a comma, a quote, a carriage
-- return or a line feed; else as it is.
abbrev pub quoted_field : List ℕ → List ℕ
quoted_field field = field_text default_writer field

-- A line of a table, each field as `csv` writes it.
abbrev pub quoted_line : List (List ℕ) → List ℕ
quoted_line fields = fields_line (map quoted_field fields)
