use Rattle.std.specs.List.{AllAdjacentBelow}
use Rattle.salvaging.proofs.Rising.{IsBelow}
use Rattle.salvaging.proofs.received.rise.Given as goal

-- Each number so far is below the next one.
abbrev pub invariant-loop-at : goal.invariant-loop-at
invariant-loop-at l = AllAdjacentBelow IsBelow l.came l.at
