-- The first pieces were added.
use Rattle.std.proofs.Common.{◌≡◌, Ok, take}
use Rattle.ffi.specs.Images.{with_pieces}
use Rattle.ffi.proofs.images.add_pieces.Given as goal

abbrev pub invariant-loop-place : goal.invariant-loop-place
invariant-loop-place l = with_pieces (Ok l.fn.program) (take l.place l.pieces) ≡ Ok l.program
