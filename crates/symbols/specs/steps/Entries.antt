-- Where the names of a file's symbols are in its bytes.
use Rattle.std.specs.Prelude.{ℕ, ◌≡◌, ◌<◌, ◌≤◌, ◌+◌, ◌-◌, ◌⊎◌, List, [], ◌∷◌, Option}
use Rattle.std.specs.Prelude.{Some, None, length, slice_index_or, take, drop}
use Rattle.std.specs.List.{after_first, before_first, cons_option}
use Rattle.std.specs.List.Sorted.{IsPermutation}
use Rattle.retire.specs.Number.{digits_number}
use Rattle.symbols.specs.File.{Symbol, is_blank, lines_of, name_behind, without_return, without_size}
use Rattle.symbols.specs.declared.entry.Entry.{Entry}

-- The entry of a symbol with this address and this name, which ends here, if there are both.
abbrev pub entry_with : ℕ → Option ℕ → Option (List ℕ) → Option Entry
entry_with end (Some address) (Some name) =
    Some (record { address = address; start = end - length name; length = length name })
entry_with end _ _ = None

-- The entry of a line without its carriage return, which begins here.
abbrev pub entry_in : ℕ → List ℕ → Option Entry
entry_in from text =
    entry_with (from + length text) (digits_number (before_first is_blank text))
    (name_behind (without_size (after_first is_blank text)))

-- The entry of the symbol of a line that begins here, if it has one.
abbrev pub entry_of : ℕ → List ℕ → Option Entry
entry_of from line = entry_in from (without_return line)

-- The entries of lines, the first of which begins here.
abbrev pub entries_from : ℕ → List (List ℕ) → List Entry
entries_from from [] = []
entries_from from (line ∷ lines) = cons_option (entry_of from line) (entries_from (from + length line + 1) lines)

-- The entries of a file, in its order.
abbrev pub entries_of : List ℕ → List Entry
entries_of file = entries_from 0 (lines_of file)

-- The symbol of an entry.
abbrev pub symbol_in : List ℕ → Entry → Symbol
symbol_in file entry = record { address = entry.address; name = take entry.length (drop entry.start file) }

-- An entry comes before another, by the address, and of equal addresses by the file; or the two are at one place.
abbrev pub IsUpTo : Entry → Entry → Type 0
IsUpTo entry other =
    (entry.address < other.address) ⊎ ((entry.address ≡ other.address) × (entry.start ≤ other.start))

-- The entries rise by address, and of equal addresses by their order in the file.
abbrev pub IsInOrder : List Entry → Type 0
IsInOrder entries = (i j : ℕ) (d : Entry) → i ≤ j → j < length entries
    → IsUpTo (slice_index_or entries i d) (slice_index_or entries j d)

-- These are the entries of a file, in order.
pub record AreInOrder (file : List ℕ) (entries : List Entry) : Type 0 where
  pub permuted : IsPermutation (entries_of file) entries
  pub ordered : IsInOrder entries
