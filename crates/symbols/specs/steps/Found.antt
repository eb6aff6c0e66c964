-- What a search among entries in order finds.
use Rattle.std.specs.Prelude.{ℕ, ◌<◌, ◌≤◌, ◌⊎◌, List, All, Contains, Option, Some, None}
use Rattle.symbols.specs.steps.Entries.{IsUpTo}
use Rattle.symbols.specs.declared.entry.Entry.{Entry}

-- This entry is one of the entries at or below a place, and none of those comes after it. Where there is none, all are
-- above the place.
abbrev pub IsLastUpTo : List Entry → ℕ → Option Entry → Type 0
IsLastUpTo entries place None = All (λ other. place < other.address) entries
IsLastUpTo entries place (Some entry) =
    Contains entries entry × (entry.address ≤ place)
    × All (λ other. (place < other.address) ⊎ IsUpTo other entry) entries
