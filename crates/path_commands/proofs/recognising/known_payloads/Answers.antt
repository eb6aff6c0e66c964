-- One payload more is kept: by lemmas on messages, which no tactic finds.
use Rattle.std.proofs.Common.{◌∙◌, arith}
use Rattle.std.proofs.lemmas.Grind.{common_steps}
use Rattle.path_commands.proofs.AddedPayloads.{added_all, added_more, added_none}
use Rattle.path_commands.proofs.recognising.known_payloads.Goals as goal

pub loop-message-init : goal.loop-message-init
loop-message-init c = λ messages all is.
    added_none c.args.framed c.args.by messages c.new-left.result c.new-known.result all (c.new-left.ensures ∙ is)
    c.new-known.ensures

pub loop-message-preserved : goal.loop-message-preserved
loop-message-preserved c = λ messages all is.
    let has = c.loop-message.invariant messages all is in
    added_more c.args.framed c.args.by messages c.loop-message.left c.next.new.self c.loop-message.known has
    c.next.result c.next.ensures.reads_back c.in-Ok-Some.message c.add.new.self
    (grind (arith, common_steps)) (grind (arith, common_steps))
    (λ sent keeps. c.in_ok-add.ensures.kept c.args.framed c.args.by sent keeps)

pub returns : goal.returns
returns c = λ messages all is.
    added_all c.args.framed c.args.by messages c.loop-message.left c.next.new.self c.loop-message.known
    (c.loop-message.invariant messages all is) c.next.result c.next.ensures.reads_back
    (λ m found. absurd (grind (arith, common_steps)))
