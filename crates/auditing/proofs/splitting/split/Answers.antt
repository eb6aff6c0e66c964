-- One message more: by a lemma on lists, which no tactic finds.
use Rattle.std.proofs.Common.{◌<◌, ◌∙◌, length, ap, arith}
use Rattle.auditing.proofs.SplitLemmas.{split_next}
use Rattle.auditing.specs.steps.Splitting.{added}
use Rattle.auditing.proofs.splitting.split.Goals as goal

pub loop-message-preserved : goal.loop-message-preserved
loop-message-preserved g c =
    let m = c.message-item.result in
    let lists = c.loop-message.lists.items in
    let within : c.loop-message.message-index < length c.args.messages.now = omega arith in
    split_next c.args.by c.args.harts c.args.messages.now c.loop-message.message-index m lists
    c.add_payload.new.lists.items within c.message-item.is c.loop-message.invariant
    (c.in_ok-add_payload.ensures ∙ ap (added lists m.hart) c.known.ensures)
