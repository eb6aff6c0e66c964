-- What was taken of the worker's hart: by a lemma on messages, which no tactic finds.
use Rattle.bench.proofs.WorkLemmas.{settled_first, settled_lacks}
use Rattle.bench.proofs.gathering.settle.Goals as goal

pub returns-clause-carried : goal.returns-clause-carried
returns-clause-carried g c =
    let promise = c.args.worker.promise in
    let at = g.S.Payloads.at promise.source.value in
    settled_first at.period at.mode at.log promise.port.value c.join-receipt.result.receipt c.args.outlet.now.taken
    c.join-receipt.result.handed_back c.join-receipt.ensures c.settle-settled.ensures.beginning

pub returns-clause-lacks : goal.returns-clause-lacks
returns-clause-lacks g c =
    let promise = c.args.worker.promise in
    let at = g.S.Payloads.at promise.source.value in
    settled_lacks at.period at.mode at.log promise.port.value c.join-receipt.result.receipt c.args.outlet.now.taken
    c.join-receipt.result.handed_back c.join-receipt.ensures c.settle-settled.ensures.beginning
