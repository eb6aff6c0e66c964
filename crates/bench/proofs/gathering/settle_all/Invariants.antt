use Rattle.std.proofs.Common.{◌≡◌, ◌⊎◌, ℕ, All, Some, true, length, slice_get, vec_len}
use Rattle.std.specs.Prelude.{Contains}
use Rattle.legalpath.specs.ProgramLog.{ProgramLog}
use Rattle.message.specs.OfHart.{of_hart}
use Rattle.bench.specs.Stopping.{LacksPayloads}
use Rattle.bench.specs.Working.{CarryFirst}
use Rattle.bench.specs.steps.Gathering.{IsWorkerOf, harts_of}
use Rattle.bench.proofs.gathering.settle_all.Given as goal

abbrev pub invariant-loop-worker : goal.invariant-loop-worker
invariant-loop-worker g l = record {
  outlet : l.outlet ≡ l.fn.outlet;
  workers : All (IsWorkerOf g.S.Payloads.at l.fn.outlet.funnel l.plan.config l.plan.logs.now) l.workers.items;
  count : length l.handed_back ≡ length l.fn.handed_back;
  lacks : (hart : ℕ) → slice_get l.handed_back hart ≡ Some true
      → LacksPayloads l.plan.config.period l.plan.config.mode l.plan.logs.now l.fn.outlet.taken hart;
  carried : (hart : ℕ) (log : ProgramLog) → slice_get l.plan.logs.now hart ≡ Some log
      → Contains (harts_of l.fn.workers.items) hart
      → CarryFirst l.plan.config.period l.plan.config.mode log (of_hart hart l.fn.outlet.taken)
      ⊎ Contains (harts_of l.workers.items) hart;
}

abbrev pub decreases-loop-worker : goal.decreases-loop-worker
decreases-loop-worker g l = vec_len l.workers
