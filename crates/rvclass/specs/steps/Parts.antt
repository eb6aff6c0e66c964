-- The pieces that a memory keeps after its first.
use Rattle.std.specs.Prelude.{◌≡◌, ◌≤◌, List, [], ◌∷◌, map}
use Rattle.std.specs.List.{AllByRecursion}
use Rattle.rvclass.specs.Memory.{rank_of, AreApart}
use Rattle.rvclass.specs.Piece.{Piece, IsPiece, piece_at}
use Rattle.rvclass.specs.declared.part.Part.{Part}
use Rattle.rvclass.specs.steps.HeldBytes.{held_bytes}

-- The piece of a part.
abbrev pub piece_of : Part → Piece
piece_of part = piece_at part.base (held_bytes part.bytes)

-- The pieces of parts.
abbrev pub pieces_of : List Part → List Piece
pieces_of parts = map piece_of parts

-- Each part has its piece's rank, and no part has a lower rank than one before it.
abbrev pub AreKept : List Part → Type 0
AreKept [] = Unit {0}
AreKept (part ∷ parts) =
    (part.rank ≡ rank_of (piece_of part)) × AllByRecursion (λ other. part.rank ≤ other.rank) parts × AreKept parts

-- A search among the parts by rank finds what stands at an address.
pub record AreSearchable (parts : List Part) : Type 0 where
  pub kept : AreKept parts
  pub each : AllByRecursion IsPiece (pieces_of parts)
  pub apart : AreApart (pieces_of parts)
