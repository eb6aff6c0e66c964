-- Which messages come before those of the last number is found by lemmas on lists.
use Rattle.std.proofs.Common.{◌≡◌, ◌<◌, ◌+◌, ◌-◌, ap, arith, length, subst, sym, ◌∙◌}
use Rattle.salvaging.specs.declared.received.ReceivedMessage.{ReceivedMessage}
use Rattle.salvaging.specs.steps.Grouping.{IsLastGroup}
use Rattle.salvaging.proofs.LastRead.{all_read, last_read, reads_last}
use Rattle.salvaging.proofs.grouping.before_last.Goals as goal

pub loop-at-init : goal.loop-at-init
loop-at-init c = reads_last c.args.came.now c.index-came-came.result c.requires c.index-came-came.is

pub returns-then-came-at : goal.returns-then-came-at
returns-then-came-at c =
    let at = c.loop-at.at in
    let some = c.loop-at-test.true in
    let within = c.loop-at.auto.at in
    let any : 0 < length c.args.came.now = c.requires in
    let here : at ≡ at - 1 + 1 = omega (arith, some) in
    subst (λ n. IsLastGroup c.args.came.now n) here
    (last_read c.args.came.now c.index-came-came.result.message.now.number at c.loop-at.invariant
    c.index-came-at.result some (omega (arith, within)) c.index-came-at.is (omega (arith, within, any))
    (λ same. c.if-came-at.true (ap (λ (one : ReceivedMessage). one.message.now.number)
    (sym c.index-came-at.is) ∙ same)))

pub returns : goal.returns
returns c =
    let over = c.loop-at-test.false in
    all_read c.args.came.now c.index-came-came.result.message.now.number c.loop-at.at c.loop-at.invariant
    (omega (arith, over)) c.requires
