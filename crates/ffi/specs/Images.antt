-- What an image makes that is handed in, as one piece or as several.
use Rattle.std.specs.Prelude.{ℕ, ◌≡◌, ◌≤◌, ◌++◌, ◌&&◌, nat_le, Bool, true, if◌then◌else◌, List, [], ◌∷◌, length}
use Rattle.std.specs.Prelude.{Result, Ok, Err, IsOk}
use Rattle.rvclass.specs.Adding.{add_piece}
use Rattle.rvclass.specs.declared.piece_fault.PieceFault.{PieceFault}
use Rattle.rvclass.specs.Image.{Image, image_at}
use Rattle.rvclass.specs.Program.{program_of}
use Rattle.rvclass.specs.declared.fault.ProgramFault.{ProgramFault}
use Rattle.ffi.specs.declared.fault.ImageFault.{ImageFault}
use Rattle.ffi.specs.declared.fault.ImageFault.TheVariants.{First, Memory, NotSorted}
use Rattle.ffi.specs.declared.fault.ImageFault.TheVariants.{Piece}
use Rattle.ffi.specs.declared.images.ImagePiece.{ImagePiece}

-- The program of an image, or why there is none.
abbrev pub Judged : Type 0
Judged = Result Image ImageFault

-- The program of one piece, or why it makes none.
abbrev pub judged_first : Result Image ProgramFault → Judged
judged_first (Ok program) = Ok program
judged_first (Err why) = Err (First why)

-- The program of an image, whose first byte is at a base, or why it makes none.
abbrev pub judged_image : ℕ → List ℕ → Judged
judged_image base image = judged_first (program_of base image)

-- The program with a piece added, or why it is not added.
abbrev pub judged_next : Result Image PieceFault → Judged
judged_next (Ok program) = Ok program
judged_next (Err why) = Err (Piece why)

-- A program with a piece added, where there is a program; the first fault stays.
abbrev pub with_piece : Judged → ImagePiece → Judged
with_piece (Err fault) piece = Err fault
with_piece (Ok program) piece = judged_next (add_piece program piece.base piece.bytes.now)

-- A program with pieces added, one after the other, or the first fault.
abbrev pub with_pieces : Judged → List ImagePiece → Judged
with_pieces image [] = image
with_pieces image (piece ∷ pieces) = with_pieces (with_piece image piece) pieces

-- The program of pieces, of which the first is an image of its own and the others are added in turn. Without any piece
-- the program has no bytes.
abbrev pub judged_in_turn : List ImagePiece → Judged
judged_in_turn [] = Ok (image_at 0 [])
judged_in_turn (first ∷ others) = with_pieces (judged_image first.base first.bytes.now) others

-- No base is below this one, nor below that of the piece before it.
abbrev pub are_sorted_from : ℕ → List ImagePiece → Bool
are_sorted_from base [] = true
are_sorted_from base (piece ∷ pieces) = nat_le base piece.base && are_sorted_from piece.base pieces

-- The program of pieces that are sorted by base, or why there is none.
abbrev pub judged_pieces : List ImagePiece → Judged
judged_pieces pieces = if are_sorted_from 0 pieces then judged_in_turn pieces else Err NotSorted

-- What pieces make when an allocation may fail: what they make, or, where pieces up to one after the first make a
-- program, no answer for want of memory.
pub data IsJudged (pieces : List ImagePiece) (image : Judged) : Type 0 where
  Judges : image ≡ judged_pieces pieces → IsJudged pieces image
  NoMemory : are_sorted_from 0 pieces ≡ true → (front rest : List ImagePiece) → pieces ≡ front ++ rest
      → 2 ≤ length front → IsOk (judged_in_turn front) → image ≡ Err Memory
      → IsJudged pieces image

-- Something holds of what pieces make.
abbrev pub OfPieces : List ImagePiece → (Judged → Type 0) → Type 0
OfPieces pieces Holds = (image : Judged) × IsJudged pieces image × Holds image
