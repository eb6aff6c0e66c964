-- What is gathered after each message, for all logs at once, which no tactic puts together.
use Rattle.std.proofs.Common.{ap, ◌∙◌}
use Rattle.funnel.specs.Ends.{OutletView}
use Rattle.bench.proofs.gathering.collect.Goals.{in-None, in-Some+then-left-eq0, in-Some+else-left-eq0+in_default}
use Rattle.bench.proofs.gathering.collect.Goals as goal

pub loop-preserved : goal.loop-preserved
loop-preserved g c = record {
  gathered = λ config logs started before.
      c.collect_one.ensures.gathered config logs started
      (c.loop.invariant.gathered config logs started before);
  outlet =
      c.collect_one.ensures.outlet
      ∙ ap (λ (outlet : OutletView). record outlet { taken = c.collect_one.new.outlet.taken }) c.loop.invariant.outlet;
  keep = c.collect_one.ensures.keep ∙ c.loop.invariant.keep;
}

pub returns-clause-gathered : goal.returns-clause-gathered
returns-clause-gathered g c = λ config logs started before.
    let now = c.loop.invariant.gathered config logs started before in
    elim c.match-next.branch [
      | in-None w ↦ rw (w.collector-is, w.outlet-is) now
      | in-Some+then-left-eq0 w ↦ rw (w.collector-is, w.outlet-is) now
      | in-Some+else-left-eq0+in_default w ↦
          rw (w.collector-is, w.outlet-is) (w.collect_one.ensures.gathered config logs started now)
    ]
