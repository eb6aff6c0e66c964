-- Which files are refused, by the tests in their order.
use Rattle.std.proofs.Common.{◌≡◌, ◌<◌, ◌≤◌, ◌∙◌, ℕ, Bool, if◌then◌else◌, List, [], ◌∷◌, Result, Ok, Err, length}
use Rattle.std.proofs.Common.{ap, sym, refl}
use Rattle.std.proofs.lemmas.Bool.{lt-ltb, le-ltb}
use Rattle.symbols.specs.File.{Symbol, most_bytes, symbols_of}
use Rattle.symbols.specs.Refused.{file_or_fault, file_with}
use Rattle.symbols.specs.declared.fault.SymbolsFault.{SymbolsFault}
use Rattle.symbols.specs.declared.fault.SymbolsFault.TheVariants.{TooLarge, NoSymbol}

-- What is answered, by whether the file is too large.
abbrev by_size : List ℕ → Bool → Result (List ℕ) SymbolsFault
by_size file large = if large then Err TooLarge else file_with file (symbols_of file)

pub is_too_large : (file : List ℕ) → most_bytes < length file → Err TooLarge ≡ file_or_fault file
is_too_large file over = ap (by_size file) (sym (lt-ltb most_bytes (length file) over))

small : (file : List ℕ) → length file ≤ most_bytes → file_with file (symbols_of file) ≡ file_or_fault file
small file few = ap (by_size file) (sym (le-ltb most_bytes (length file) few))

pub has_none : (file : List ℕ) → length file ≤ most_bytes → symbols_of file ≡ [] → Err NoSymbol ≡ file_or_fault file
has_none file few none = ap (file_with file) (sym none) ∙ small file few

pub has_some : (file : List ℕ) → length file ≤ most_bytes → (symbols_of file ≡ [] → ⊥) → Ok file ≡ file_or_fault file
has_some file few some = by_symbols (symbols_of file) some ∙ small file few
  where
    by_symbols : (symbols : List Symbol) → (symbols ≡ [] → ⊥) → Ok file ≡ file_with file symbols
    by_symbols [] some = absurd (some refl)
    by_symbols (symbol ∷ symbols) some = refl
