use Rattle.std.proofs.Common.{◌≡◌, ℕ, List}
use Rattle.legalpath.specs.ProgramLog.{ProgramLog}
use Rattle.bench.specs.declared.config.Config.{Config}
use Rattle.bench.specs.steps.Gathering.{AreGathered}
use Rattle.bench.proofs.gathering.collect.Given as goal

abbrev pub invariant-loop : goal.invariant-loop
invariant-loop g l = record {
  gathered : (config : Config) (logs : List ProgramLog) (started : List ℕ)
      → AreGathered config logs started l.fn.outlet.taken l.fn.collector
      → AreGathered config logs started l.outlet.taken l.collector;
  outlet : l.outlet ≡ record l.fn.outlet { taken = l.outlet.taken };
  keep : l.collector.keep ≡ l.fn.collector.keep;
}
