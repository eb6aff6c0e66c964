-- So many harts have a trace and pieces, each new, and there is room for the rest.
use Rattle.std.proofs.Common.{◌≡◌, ◌≤◌, All, length}
use Rattle.std.specs.Vec.{vec_capacity}
use Rattle.losses.specs.steps.Collecting.{IsNewPieces, IsNewTrace}
use Rattle.losses.proofs.collecting.Collection.new.Given as goal

abbrev pub invariant-loop : goal.invariant-loop
invariant-loop g l = record {
  traces_count : length l.traces.items ≡ l.counter;
  pieces_count : length l.pieces.items ≡ l.counter;
  traces_room : l.count ≤ vec_capacity l.traces;
  pieces_room : l.count ≤ vec_capacity l.pieces;
  traces : All IsNewTrace l.traces.items;
  pieces : All IsNewPieces l.pieces.items;
}
