use Rattle.std.proofs.Common.{◌≡◌, length}
use Rattle.side_by_side.specs.Places.{HoldsBelow}
use Rattle.side_by_side.proofs.task.results_in_turn.Given as goal

-- The results so far are those of the jobs so far.
abbrev pub invariant-loop-place : goal.invariant-loop-place
invariant-loop-place g l = record {
  count : length l.found.items ≡ l.place;
  each : HoldsBelow (g.T.Task.Gives l.task) l.place l.jobs l.found.items;
}
