-- The rows of the events that were handed out before the piece are written or held.
use Rattle.std.proofs.Common.{◌≡◌, ◌≤◌, ◌++◌, length}
use Rattle.std.specs.Vec.{vec_capacity}
use Rattle.parallel_decode.proofs.SplitLemmas.{HandsOut}
use Rattle.parallel_decode.proofs.packet_rows.write_events.Given as goal

abbrev pub invariant-loop-left : goal.invariant-loop-left
invariant-loop-left g l = record {
  handed : HandsOut (g.O.Write.contents l.fn.out) (g.O.Write.contents l.out) l.fn.room.items l.room.items
      (l.fn.piece.items ++ l.fn.left) (l.piece.items ++ l.left);
  piece : vec_capacity l.piece ≡ vec_capacity l.fn.piece;
  room : vec_capacity l.fn.room ≤ vec_capacity l.room;
}

abbrev pub decreases-loop-left : goal.decreases-loop-left
decreases-loop-left g l = length l.left
