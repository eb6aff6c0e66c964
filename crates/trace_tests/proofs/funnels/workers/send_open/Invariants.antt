use Rattle.std.proofs.Common.{◌≡◌}
use Rattle.trace_tests.proofs.funnels.workers.send_open.Given as goal

abbrev pub invariant-loop : goal.invariant-loop
invariant-loop g l = l.port.funnel ≡ l.fn.port.funnel
