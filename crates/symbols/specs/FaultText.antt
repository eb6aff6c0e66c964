-- The texts of faults.
use Rattle.std.specs.Prelude.{ℕ, List, codes}
use Rattle.symbols.specs.declared.fault.SymbolsFault.{SymbolsFault}
use Rattle.symbols.specs.declared.fault.SymbolsFault.TheVariants.{TooLarge, NoSymbol, Memory}

-- Why a file's symbols are not read, as a line of text.
abbrev pub symbols_fault_text : SymbolsFault → List ℕ
symbols_fault_text TooLarge = codes "larger than 16777216 bytes"
symbols_fault_text NoSymbol = codes "no symbol of code: give it what nm prints"
symbols_fault_text Memory = codes "out of memory"
