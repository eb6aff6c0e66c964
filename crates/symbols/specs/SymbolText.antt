-- The text of a symbol.
use Rattle.std.specs.Prelude.{ℕ, ◌++◌, List, [], Option, Some, None, codes}
use Rattle.retire.specs.LogText.{hex}
use Rattle.symbols.specs.Nearest.{Naming, symbol_at}

-- A distance after a name: a plus, the number in hexadecimal, and the bracket that closes.
abbrev pub distance_text : ℕ → List ℕ
distance_text distance = codes "+" ++ (hex distance ++ codes ">")

-- A blank, and in angle brackets the name and the distance, with a plus between the two.
abbrev pub named_text : Option Naming → List ℕ
named_text None = []
named_text (Some symbol) = codes " <" ++ (symbol.name ++ distance_text symbol.distance)

-- What follows a place, by the symbols of a file.
abbrev pub symbol_text : List ℕ → ℕ → List ℕ
symbol_text file place = named_text (symbol_at file place)

-- The same, if a file is given.
abbrev pub name_text : Option (List ℕ) → ℕ → List ℕ
name_text None place = []
name_text (Some file) place = symbol_text file place
