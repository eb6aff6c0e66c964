-- The pieces so far are sorted.
use Rattle.std.proofs.Common.{◌≡◌, drop}
use Rattle.ffi.specs.Images.{are_sorted_from}
use Rattle.ffi.proofs.images.are_sorted.Given as goal

abbrev pub invariant-loop-piece : goal.invariant-loop-piece
invariant-loop-piece l = are_sorted_from 0 l.pieces ≡ are_sorted_from l.least (drop l.piece-index l.pieces)
