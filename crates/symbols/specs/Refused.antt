-- Which files of symbols are refused.
use Rattle.std.specs.Prelude.{ℕ, if◌then◌else◌, nat_lt, List, [], ◌∷◌, Result, Ok, Err, length}
use Rattle.symbols.specs.File.{Symbol, most_bytes, symbols_of}
use Rattle.symbols.specs.declared.fault.SymbolsFault.{SymbolsFault}
use Rattle.symbols.specs.declared.fault.SymbolsFault.TheVariants.{TooLarge, NoSymbol}

-- A file that has these symbols, or the fault that it has none.
abbrev pub file_with : List ℕ → List Symbol → Result (List ℕ) SymbolsFault
file_with file [] = Err NoSymbol
file_with file (symbol ∷ symbols) = Ok file

-- A file of symbols, or why it is refused: it is too large, or else it has no symbol.
abbrev pub file_or_fault : List ℕ → Result (List ℕ) SymbolsFault
file_or_fault file = if nat_lt most_bytes (length file) then Err TooLarge else file_with file (symbols_of file)
