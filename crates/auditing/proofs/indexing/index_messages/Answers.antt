-- One message more is indexed: by a law on captures, which no tactic finds.
use Rattle.auditing.proofs.Indexed.{index_end, index_next}
use Rattle.auditing.proofs.indexing.index_messages.Goals as goal

pub loop-hart-preserved : goal.loop-hart-preserved
loop-hart-preserved g c = λ messages ranges whole.
    index_next c.args.harts messages c.loop-hart.left.now c.loop-hart.index.items c.add_payload.new.index.items
    c.in-Some.hart c.in-Some.payload.now c.in-Some.rest.now (c.loop-hart.invariant messages ranges whole)
    (λ none. let never = c.in-Some.ensures.end none in cc)
    (λ m behind is begins. c.in-Some.ensures.first m behind is begins) c.in_ok-add_payload.ensures

pub returns : goal.returns
returns g c = λ messages ranges whole.
    index_end c.args.harts messages c.loop-hart.left.now c.loop-hart.index.items
    (c.loop-hart.invariant messages ranges whole)
    (λ m behind is begins. c.in_default.ensures.first m behind is begins)
