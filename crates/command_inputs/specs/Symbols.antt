-- What is found of a file of symbols: its bytes, or a fault.
use Rattle.std.specs.Prelude.{◌≡◌, ℕ, List, Option, Some, None, Result, Ok, Err}
use Rattle.log_streams.specs.Known.{Content}
use Rattle.symbols.specs.Refused.{file_or_fault}
use Rattle.symbols.specs.declared.fault.SymbolsFault.{SymbolsFault}
use Rattle.command_inputs.specs.Faults.{Path, symbols_fault}
use Rattle.command_inputs.specs.Found.{IsRead}
use Rattle.command_inputs.specs.declared.fault.Fault.{Fault}

-- The file of symbols at a path, or the fault where it is refused: it is too large, or has no symbol.
abbrev pub symbols_or_fault : {W : Type 0} → Path → Result (List ℕ) SymbolsFault → Result (Option (List ℕ)) (Fault W)
symbols_or_fault path (Ok file) = Ok (Some file)
symbols_or_fault path (Err why) = Err (symbols_fault path why)

-- The file of symbols that these bytes are, or the fault where they are not read or refused.
abbrev pub symbols_at : {W : Type 0} → Path → Result (List ℕ) (Fault W) → Result (Option (List ℕ)) (Fault W)
symbols_at path (Err why) = Err why
symbols_at path (Ok bytes) = symbols_or_fault path (file_or_fault bytes)

-- The file of symbols at a path is found.
pub record AreSymbolsAt {W : Type 0} (content : Content) (path : Path) (found : Result (Option (List ℕ)) (Fault W))
    : Type 0 where
  pub bytes : Result (List ℕ) (Fault W)
  pub read : IsRead content path bytes
  pub made : found ≡ symbols_at path bytes

-- The file of symbols is found, if a path of one is given.
abbrev pub AreSymbols : {W : Type 0} → Content → Option Path → Result (Option (List ℕ)) (Fault W) → Type 0
AreSymbols content None found = found ≡ Ok None
AreSymbols content (Some path) found = AreSymbolsAt content path found
