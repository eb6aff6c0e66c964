-- The harts before this one are ended, and the others are as they were.
use Rattle.std.proofs.Common.{◌≡◌, ◌<◌, ◌≤◌, ℕ, length, slice_get}
use Rattle.std.specs.Prelude.{Some}
use Rattle.losses.specs.steps.Collecting.{IsEnded}
use Rattle.losses.specs.declared.hart_trace.HartTrace.{HartTrace}
use Rattle.losses.specs.declared.part.HartPieces.{HartPieces}
use Rattle.losses.proofs.collecting.end_all.Given as goal

abbrev pub invariant-loop-hart : goal.invariant-loop-hart
invariant-loop-hart g l = record {
  traces_count : length l.traces.items ≡ length l.fn.traces.items;
  pieces_count : length l.pieces.items ≡ length l.fn.pieces.items;
  traces_left : (k : ℕ) (trace : HartTrace _) → l.hart ≤ k → slice_get l.traces.items k ≡ Some trace
      → slice_get l.fn.traces.items k ≡ Some trace;
  pieces_left : (k : ℕ) (pieces : HartPieces _) → l.hart ≤ k → slice_get l.pieces.items k ≡ Some pieces
      → slice_get l.fn.pieces.items k ≡ Some pieces;
  ended : (k : ℕ) (trace : HartTrace _) (old new : HartPieces _) → k < l.hart
      → slice_get l.fn.traces.items k ≡ Some trace → slice_get l.fn.pieces.items k ≡ Some old
      → slice_get l.pieces.items k ≡ Some new → IsEnded trace old new;
}
