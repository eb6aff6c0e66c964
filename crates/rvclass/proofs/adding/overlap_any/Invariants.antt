-- No part so far is overlapped.
use Rattle.std.proofs.Common.{◌≡◌, drop}
use Rattle.rvclass.specs.Memory.{overlaps}
use Rattle.rvclass.specs.Piece.{piece_at}
use Rattle.rvclass.specs.steps.Parts.{pieces_of}
use Rattle.rvclass.proofs.adding.overlap_any.Given as goal

abbrev pub invariant-loop-part : goal.invariant-loop-part
invariant-loop-part l =
    overlaps (piece_at l.base l.bytes) (pieces_of l.parts)
    ≡ overlaps (piece_at l.base l.bytes) (pieces_of (drop l.part-index l.parts))
