-- What a collector has at first, by the calls that made its parts: by a lemma on lists, which no tactic finds.
use Rattle.std.proofs.Common.{refl}
use Rattle.bench.proofs.CollectorLemmas.{opened_begun, opened_collected}
use Rattle.bench.proofs.collecting.Collector.new.Goals as goal

pub invariant_of-result : goal.invariant_of-result
invariant_of-result g c =
    opened_collected c.args.logs.now c.args.keep c.in_ok-receiver.receiver _ _ c.in_ok-receiver.ensures refl
    c.in_ok-harts.ensures.harts c.in_ok-harts.ensures.legal

pub returns-clause-begun : goal.returns-clause-begun
returns-clause-begun g c =
    opened_begun c.args.logs.now c.args.keep c.in_ok-receiver.receiver _ _ c.in_ok-receiver.ensures refl
    c.in_ok-harts.ensures.harts c.in_ok-harts.ensures.legal
