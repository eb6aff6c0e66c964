-- One hart more is listed: the search does not look into the definition.
use Rattle.std.proofs.Common.{◌∙◌, ap}
use Rattle.stimulus.proofs.OrderLemmas.{weighed_more, weighed_none}
use Rattle.stimulus.proofs.order.weighed.Goals as goal

pub loop-hart-init : goal.loop-hart-init
loop-hart-init g c = ap (λ l. (l, c.args.random.now)) c.new-listed.ensures.items ∙ weighed_none c.args.random.now

pub loop-hart-preserved : goal.loop-hart-preserved
loop-hart-preserved g c =
    weighed_more c.args.random.now c.loop-hart.hart _ c.loop-hart.listed.items _ c.loop-hart.random _
    c.loop-hart.invariant c.next_word.ensures c.in_ok-add_hart.ensures
