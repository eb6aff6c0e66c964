-- What a memory keeps.
use Rattle.std.specs.Prelude.{ℕ, ◌≡◌, ◌-◌, List, [], ◌∷◌, length, Option, Some, None, Vec}
use Rattle.rvclass.specs.Memory.{Memory, IsMemory, base_of, byte_count}
use Rattle.rvclass.specs.Piece.{piece_at}
use Rattle.rvclass.specs.declared.part.Part.{Part}
use Rattle.rvclass.specs.steps.Parts.{AreKept, pieces_of}

-- The parts of a list, if there is one.
abbrev pub others_of : {A : Type 0} → Option (Vec Part A) → List Part
others_of None = []
others_of (Some parts) = parts.items

-- The pieces: the first, and those of the parts.
abbrev pub kept_pieces : ℕ → List ℕ → List Part → Memory
kept_pieces base bytes parts = piece_at base bytes ∷ pieces_of parts

-- The pieces are a memory, the parts after the first are in order, and the counts are right.
pub record IsKept (base : ℕ) (bytes : List ℕ) (windows : ℕ) (others : List Part) (lowest count : ℕ) : Type 0 where
  pub memory : IsMemory (kept_pieces base bytes others)
  pub few : windows ≡ length bytes - 3
  pub parts : AreKept others
  pub low : lowest ≡ base_of (kept_pieces base bytes others)
  pub all : count ≡ byte_count (kept_pieces base bytes others)
