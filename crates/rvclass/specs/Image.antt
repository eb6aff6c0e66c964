-- The image of a program in memory.
use Rattle.std.specs.Prelude.{ℕ, List, [], ◌∷◌}
use Rattle.rvclass.specs.Memory.{Memory, IsMemory}
use Rattle.rvclass.specs.Piece.{piece_at}

-- The bytes of a program: pieces, each from a base address on.
abbrev pub Image : Type 0
Image = Memory

-- The image of one piece: these bytes from a base on.
abbrev pub image_at : ℕ → List ℕ → Image
image_at base bytes = piece_at base bytes ∷ []

-- The bounds of every program's image, by this project's profile.
abbrev pub IsImage : Image → Type 0
IsImage image = IsMemory image
