use Rattle.std.proofs.Common.{◌≡◌}
use Rattle.trace_tests.proofs.funnels.workers.take_some.Given as goal

abbrev pub invariant-loop : goal.invariant-loop
invariant-loop g l = l.outlet.funnel ≡ l.fn.outlet.funnel
