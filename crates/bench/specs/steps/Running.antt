-- What a run over the ends of a funnel returns, and what it leaves of the outlet.
use Rattle.std.specs.Prelude.{◌≡◌, IfOk, List, OnErr, Result}
use Rattle.legalpath.specs.ProgramLog.{ProgramLog}
use Rattle.funnel.specs.Ends.{OutletView}
use Rattle.bench.specs.Beginnings.{AreBeginnings, AreCarried, AreThoseTaken, LackSomeTaken}
use Rattle.bench.specs.Stopping.{IfHandedBack, LacksPayloads, NamesOpen, NoRefusedIsClosed}
use Rattle.bench.specs.declared.config.Config.{Config}
use Rattle.bench.specs.declared.outcome.Outcome.{Outcome}

-- Of each hart the first payloads of its log were taken and decoded, unless memory or its thread was refused for it:
-- then fewer were decoded. The stop names a hart that is not closed. Where an allocation fails that is for no single
-- hart, the outlet is as it was. Otherwise only what it took changes.
pub record IsRun {A E : Type 0} (config : Config) (logs : List ProgramLog) (old new : OutletView)
    (result : Result (Outcome A) E) : Type 0 where
  pub beginnings : IfOk result (λ outcome. AreBeginnings config logs outcome.harts.items)
  pub taken : IfOk result (λ outcome. AreThoseTaken config logs new.taken outcome.harts.items)
  pub carried : IfOk result (λ outcome. AreCarried config logs new.taken outcome.harts.items)
  pub lacks : IfOk result (λ outcome. LackSomeTaken new.taken outcome.harts.items)
  pub stop : IfOk result (λ outcome. NamesOpen outcome.stop outcome.harts.items)
  pub refused_harts : IfOk result (λ outcome. NoRefusedIsClosed outcome.harts.items)
  pub handed_back : IfOk result
      (λ outcome. IfHandedBack (LacksPayloads config.period config.mode logs new.taken) outcome.stop)
  pub untouched : OnErr result (new ≡ old)
  pub funnel : new ≡ record old { taken = new.taken }
