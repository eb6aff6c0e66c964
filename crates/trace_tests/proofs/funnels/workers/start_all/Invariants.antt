use Rattle.std.proofs.Common.{◌≡◌, vec_len, All}
use Rattle.trace_tests.proofs.funnels.workers.start_all.Given as goal

abbrev pub invariant-loop-port : goal.invariant-loop-port
invariant-loop-port g l = record {
  ports : All (λ port. port.funnel ≡ l.outlet.funnel) l.ports.items;
  workers : All (λ worker. worker.promise.0.value.funnel ≡ l.outlet.funnel) l.workers.items;
}

abbrev pub decreases-loop-port : goal.decreases-loop-port
decreases-loop-port g l = vec_len l.ports
