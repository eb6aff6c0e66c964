-- The core keeps its number of harts, which `offer` asks for.
use Rattle.std.proofs.Common.{◌≡◌}
use Rattle.trace_tests.proofs.funnels.allocations.fills_and_empties.Given as goal

abbrev pub invariant-loop-number : goal.invariant-loop-number
invariant-loop-number g l = l.core.harts ≡ 64
