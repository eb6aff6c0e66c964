-- That nothing is distributed yet, and that a message more is, are lemmas on lists.
use Rattle.std.proofs.Common.{sym, ◌∙◌}
use Rattle.salvaging.proofs.Distributed.{distributes_more, distributes_none}
use Rattle.salvaging.proofs.distributing.distribute.Goals as goal

pub loop-message-init : goal.loop-message-init
loop-message-init g c = (
  sym c.in_ok-lists.lists.ok.0 ∙ c.in_ok-lists.ensures.len ∙ c.from.ensures,
  distributes_none _ c.args.messages.now c.new.result c.in_ok-lists.lists.items c.new.ensures.items
      c.in_ok-lists.ensures.items,
)

pub loop-message-preserved : goal.loop-message-preserved
loop-message-preserved g c =
    let adds = c.in_ok-add.ensures in (
      adds.count ∙ c.loop-message.invariant.0,
      distributes_more c.args.messages.now c.loop-message.message-index c.message-item.result c.loop-message.lists.items
          c.add.new.lists.items c.loop-message-test.true c.message-item.is c.loop-message.invariant.1 adds,
    )
