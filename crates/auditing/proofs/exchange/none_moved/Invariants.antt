-- So many rows of zeros are made.
use Rattle.std.proofs.Common.{◌≡◌, map, replicate}
use Rattle.auditing.proofs.exchange.none_moved.Given as goal

abbrev pub invariant-loop : goal.invariant-loop
invariant-loop g l = map (λ counts. counts.items) l.moves.items ≡ replicate l.counter (replicate l.harts 0)
