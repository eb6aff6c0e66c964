use Rattle.std.proofs.Common.{◌≡◌, ◌≤◌, ◌+◌, All, length, vec_capacity, vec_len}
use Rattle.funnel.specs.Ends.{AreNewPorts}
use Rattle.bench.specs.steps.Gathering.{IsWorkerOf, harts_of}
use Rattle.bench.proofs.StartedLemmas.{AreBegun}
use Rattle.bench.proofs.starting.start_all.Given as goal

abbrev pub invariant-loop-port : goal.invariant-loop-port
invariant-loop-port g l = record {
  ports : AreNewPorts l.outlet.funnel (vec_len l.ports) l.ports.items;
  few : vec_len l.ports ≤ length l.plan.logs.now;
  room : vec_len l.workers + vec_len l.ports ≤ vec_capacity l.workers;
  workers : All (IsWorkerOf (λ payloads. payloads.source) l.outlet.funnel l.plan.config l.plan.logs.now) l.workers.items;
  keep : l.collector.keep ≡ l.fn.collector.keep;
  harts : AreBegun l.plan.config l.plan.logs.now (vec_len l.ports) (harts_of l.workers.items) l.collector;
}

abbrev pub decreases-loop-port : goal.decreases-loop-port
decreases-loop-port g l = vec_len l.ports
