-- How a byte is written between quotes.
use Rattle.std.specs.Prelude.{ℕ, ◌==◌, if◌then◌else◌, List, [], ◌∷◌}
use Rattle.csv.specs.Writing.{quote_mark}

-- A quote is written twice.
abbrev pub escaped_byte : ℕ → List ℕ
escaped_byte byte = if byte == quote_mark then quote_mark ∷ byte ∷ [] else byte ∷ []
