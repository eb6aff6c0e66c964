-- What is found of symbols, from what is read of their file.
use Rattle.std.specs.Prelude.{◌+◌, if◌then◌else◌, take}
use Rattle.std.proofs.Common.{◌≡◌, ◌⊎◌, ◌∙◌, inl, inr, refl, ℕ, ap, List, Some, Result, Ok, Err}
use Rattle.log_streams.specs.Known.{Content, MayBegin}
use Rattle.symbols.specs.File.{most_bytes, symbols_of}
use Rattle.symbols.specs.Refused.{file_or_fault, file_with}
use Rattle.symbols.specs.declared.fault.SymbolsFault.{SymbolsFault}
use Rattle.symbols.specs.declared.fault.SymbolsFault.TheVariants as symbols
use Rattle.command_inputs.specs.Faults.{Path, symbols_fault}
use Rattle.command_inputs.specs.Found.{IsRead}
use Rattle.command_inputs.proofs.FromStart.{decided, sized}
use Rattle.command_inputs.specs.declared.fault.Fault.TheVariants as fault
use Rattle.command_inputs.specs.declared.fault.Fault.{Fault}
use Rattle.command_inputs.specs.Symbols.{AreSymbolsAt, symbols_or_fault}

-- A file that is not read has no symbols.
pub symbols_unread : {W : Type 0} (content : Content) (path : Path) (why : Fault W)
    → (why ≡ fault.Memory) ⊎ IsRead content path (Err why) → (why ≡ fault.Memory) ⊎ AreSymbolsAt content path (Err why)
symbols_unread content path why (inl denied) = inl denied
symbols_unread content path why (inr read) = inr (record { bytes = Err why; read = read; made = refl })

-- What is answered to a file of symbols: that allocation failed, or what its bytes determine.
abbrev Answered : List ℕ → Result (List ℕ) SymbolsFault → Type 0
Answered bytes answer = (answer ≡ Err symbols.Memory) ⊎ (answer ≡ file_or_fault bytes)

-- The symbols of a file's bytes are those of its first, one more than a file may have.
symbols_from_start : (text : List ℕ) → file_or_fault (take (most_bytes + 1) text) ≡ file_or_fault text
symbols_from_start =
    sized file_or_fault (Err symbols.TooLarge) most_bytes
    (λ bytes is. ap (λ large. if large then Err symbols.TooLarge else file_with bytes (symbols_of bytes)) is)

module _ {W : Type 0} (content : Content) (path : Path) (bytes : List ℕ)
    (begun : MayBegin (Some (most_bytes + 1)) (content path.now) bytes) where
  -- What is made of the first bytes of a file is made of it.
  of_first : (made : Result (List ℕ) SymbolsFault) → made ≡ file_or_fault bytes
      → AreSymbolsAt {W = W} content path (symbols_or_fault path made)
  of_first made is =
      let (text, held, same) =
      decided file_or_fault (most_bytes + 1) symbols_from_start (content path.now) bytes begun in
      record { bytes = Ok text; read = held; made = ap (symbols_or_fault path) (is ∙ same) }

  -- What is taken for symbols has them.
  pub symbols_made : (file : List ℕ) → Answered bytes (Ok file) → AreSymbolsAt {W = W} content path (Ok (Some file))
  symbols_made file (inl denied) = absurd cc
  symbols_made file (inr is) = of_first (Ok file) is

  -- What is refused for symbols is refused by its bytes, unless allocation failed.
  pub symbols_refused : (why : SymbolsFault) → Answered bytes (Err why)
      → (symbols_fault {W = W} path why ≡ fault.Memory)
      ⊎ AreSymbolsAt {W = W} content path (Err (symbols_fault path why))
  symbols_refused why (inl denied) =
      inl (let same : why ≡ symbols.Memory = cc in ap (symbols_fault path) same)
  symbols_refused why (inr is) = inr (of_first (Err why) is)
