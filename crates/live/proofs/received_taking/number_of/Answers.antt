-- The number of a hart, message by message: by lemmas, which no tactic finds.
use Rattle.std.proofs.Common.{◌≡◌, ◌∙◌, ◌+◌, ◌-◌, suc, ap, arith, sym, take}
use Rattle.std.proofs.lemmas.Bool.{ne_eqb}
use Rattle.std.proofs.lemmas.List.{take_rest}
use Rattle.live.specs.Received.{messages_from, number_among}
use Rattle.live.proofs.ReceivedRows.{among_later}
use Rattle.live.proofs.received_taking.number_of.Goals as goal

pub loop-preserved : goal.loop-preserved
loop-preserved c =
    let left = c.loop.left.now in
    let n = c.args.count - (c.loop.counter + 1) in
    let less = c.loop-test.true in
    let e : c.args.count - c.loop.counter ≡ suc n = omega (arith, less) in
    c.loop.invariant ∙ ap (λ k. number_among (take k (messages_from left)) c.args.hart) e
    ∙ among_later n c.args.hart c.in-Some.size left c.in-Some-message_in.message c.in-Some.ensures.value
    c.in-Some-message_in.ensures.value
    (ne_eqb c.in-Some-message_in.message.hart c.args.hart c.if-message-hart.false)
    ∙ ap (λ l. number_among (take n (messages_from l)) c.args.hart) (sym (take_rest left c.in-Some.size))
