-- One log more of which nothing is known.
use Rattle.log_streams.proofs.PlacesLemmas.{none-of-more, none-of-none}
use Rattle.log_streams.proofs.in_order.none_known.Goals as goal

pub loop-init : goal.loop-init
loop-init g c = none-of-none c.new-all.result.items c.new-all.ensures.items

pub loop-preserved : goal.loop-preserved
loop-preserved g c =
    none-of-more c.loop.all.items c.push.new.self.items c.loop.counter c.loop.invariant.0 c.loop.invariant.1
    c.in_ok-push.ensures.items

pub returns-clause-none : goal.returns-clause-none
returns-clause-none g c = c.loop.invariant.1
