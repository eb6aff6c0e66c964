-- Pieces that are added to a program, one after the other.
use Rattle.std.specs.Prelude.{◌≡◌, ◌≤◌, ◌++◌, List, Ok, Err, IsOk, length}
use Rattle.rvclass.specs.Image.{Image}
use Rattle.ffi.specs.Images.{Judged, with_pieces}
use Rattle.ffi.specs.declared.fault.ImageFault.TheVariants.{Memory}
use Rattle.ffi.specs.declared.images.ImagePiece.{ImagePiece}

-- What a program makes with pieces added when an allocation may fail: what they make, or, where pieces from the first
-- on are added, no answer for want of memory.
pub data AreAdded (program : Image) (pieces : List ImagePiece) (image : Judged) : Type 0 where
  Adds : image ≡ with_pieces (Ok program) pieces → AreAdded program pieces image
  NoMemory : (front rest : List ImagePiece) → pieces ≡ front ++ rest → 1 ≤ length front
      → IsOk (with_pieces (Ok program) front) → image ≡ Err Memory
      → AreAdded program pieces image
