-- The nearest symbol at or below a place.
use Rattle.std.specs.Prelude.{ℕ, ◌-◌, ◌&&◌, nat_le, nat_lt, if◌then◌else◌, List, []}
use Rattle.std.specs.Prelude.{◌∷◌, Option, Some, None, option_map}
use Rattle.symbols.specs.File.{Symbol, symbols_of}

-- The nearer to a place of an item and the nearest of those after it, if there is one: the item, where it is at or
-- below the place, and above the other.
abbrev pub nearer : {X : Type 0} → (X → ℕ) → ℕ → X → Option X → Option X
nearer address place item None = if nat_le (address item) place then Some item else None
nearer address place item (Some other) =
    if nat_le (address item) place && nat_lt (address other) (address item) then Some item else Some other

-- Of the items at or below a place, the one with the greatest address; of equal addresses, the last in the list.
abbrev pub nearest : {X : Type 0} → (X → ℕ) → ℕ → List X → Option X
nearest address place [] = None
nearest address place (item ∷ items) = nearer address place item (nearest address place items)

-- A symbol's name, and how far above its address a place is.
pub record Naming : Type 0 where
  pub name : List ℕ
  pub distance : ℕ

-- A symbol, as it names a place at or above it.
abbrev pub named_by : ℕ → Symbol → Naming
named_by place symbol = record { name = symbol.name; distance = place - symbol.address }

-- What a place is named by the symbols of a file: by the last of them at or below it. A place below all has no name.
abbrev pub symbol_at : List ℕ → ℕ → Option Naming
symbol_at file place = option_map (named_by place) (nearest (λ symbol. symbol.address) place (symbols_of file))
