-- How messages are mixed, turn by turn.
use Rattle.std.specs.Prelude.{◌≡◌, ℕ, ◌++◌, List, [], ◌∷◌, Option, Some, None, set}
use Rattle.std.specs.Io.KnownBytes.{Appends}
use Rattle.std.specs.List.{flat_map}
use Rattle.message.specs.declared.message.Message.{Message}
use Rattle.stimulus.specs.Mixing.{AllAreInFront, AreInFront, IsMixing, Mixed, mixed_from}
use Rattle.stimulus.specs.declared.mixing.Mixing.{Mixing}

-- A hart has these messages left, and the first is taken, if there is one.
abbrev pub TakesNext : List Message → Option Message → List ℕ → Type 0
TakesNext [] taken bytes = (taken ≡ None) × AreInFront [] bytes
TakesNext (message ∷ rest) taken bytes = (taken ≡ Some message) × AreInFront rest bytes

-- The hart at a place has these messages left, and the first is taken, if there is one.
abbrev pub TakesFirst : List (List Message) → ℕ → List Message → Option Message → List (List ℕ) → Type 0
TakesFirst left place [] taken bytes = (taken ≡ None) × AllAreInFront left bytes
TakesFirst left place (message ∷ rest) taken bytes = (taken ≡ Some message) × AllAreInFront (set left place rest) bytes

-- Of these messages a front was written, and what is left comes with so many turns at most. `text` says what a message
-- is written as.
pub record WritesTurns {A : Type 0} (text : Message → List ℕ) (whole : List Message) (count : ℕ) (mixing : Mixing A)
    (old new : Option (List ℕ)) : Type 0 where
  pub mixed : Mixed
  pub stands : IsMixing mixed mixing
  pub front : List ℕ
  pub parted : flat_map text whole ≡ front ++ flat_map text (mixed_from count mixed)
  pub written : Appends old new front
