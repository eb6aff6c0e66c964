-- What is gathered with the message that was taken: by a lemma on collectors, which no tactic finds.
use Rattle.std.proofs.Common.{sym, subst}
use Rattle.funnel.specs.Ends.{OutletView}
use Rattle.bench.specs.steps.Gathering.{AreGathered}
use Rattle.bench.proofs.GatheredLemmas.{gathered_more}
use Rattle.bench.proofs.gathering.collect_one.Goals as goal

pub returns-clause-gathered : goal.returns-clause-gathered
returns-clause-gathered g c = λ config logs started before.
    subst (λ (o : OutletView). AreGathered config logs started o.taken c.take_in.new.self)
    (sym c.in-Ok.ensures.taken)
    (gathered_more config c.in-Ok.message c.take_in.result c.args.collector.now c.take_in.new.self
    c.take_in.ensures started logs c.args.outlet.now.taken before c.in-Ok.ensures.number)
