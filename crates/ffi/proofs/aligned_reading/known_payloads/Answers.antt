-- The payload of one message more is kept: by lemmas on lists, which no tactic finds.
use Rattle.std.proofs.Common.{◌∙◌, ◌<◌, ◌++◌, ◌∷◌, [], ap, arith, length, subst, sym, take}
use Rattle.std.proofs.lemmas.List.{get_or_read, take_more}
use Rattle.auditing.specs.PayloadSights.{KeepsPayloads}
use Rattle.ffi.proofs.aligned_reading.known_payloads.Goals as goal

pub loop-message-preserved : goal.loop-message-preserved
loop-message-preserved c =
    let sent = c.args.sent.now in
    let at = c.loop-message.message-index in
    let message = c.message-item.result in
    let within : at < length sent = omega arith in
    let next =
    take_more sent at message within
    ∙ ap (λ m. take at sent ++ m ∷ []) (sym (get_or_read sent at message within c.message-item.is message)) in
    subst (λ front. KeepsPayloads c.args.framed c.args.by front c.add.new.self) (sym next)
    (c.in_ok-add.ensures.kept c.args.framed c.args.by (take at sent) c.loop-message.invariant)
