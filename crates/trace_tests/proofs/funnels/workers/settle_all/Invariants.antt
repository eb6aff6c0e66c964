use Rattle.std.proofs.Common.{◌≡◌, vec_len, All}
use Rattle.trace_tests.proofs.funnels.workers.settle_all.Given as goal

abbrev pub invariant-loop-worker : goal.invariant-loop-worker
invariant-loop-worker g l = All (λ worker. worker.promise.0.value.funnel ≡ l.outlet.funnel) l.workers.items

abbrev pub decreases-loop-worker : goal.decreases-loop-worker
decreases-loop-worker g l = vec_len l.workers
