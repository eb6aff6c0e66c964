-- One message more is counted: by a law on captures, which no tactic finds.
use Rattle.std.proofs.Common.{◌≡◌, ◌<◌, ◌-◌, ◌^◌, ◌++◌, replicate, sym, ap, subst, ◌∙◌, arith, rules}
use Rattle.std.specs.Prelude.{IfSome, max}
use Rattle.std.proofs.lemmas.Grind.{common_steps}
use Rattle.message.specs.Capture.{message_bytes}
use Rattle.message.specs.Cut.{IsMessage}
use Rattle.message.specs.declared.message.Message.{Message}
use Rattle.auditing.proofs.Counting.{counted_more, counted_none, placed_none}
use Rattle.auditing.specs.steps.Indexing.{HasCounted}
use Rattle.auditing.proofs.judging.count_messages.Goals as goal

pub loop-number-init : goal.loop-number-init
loop-number-init g c =
    let items : c.in_ok-counts.counts.items ≡ replicate c.args.harts 0 =
    first_of (search rules, grind (arith, common_steps)) in
    subst (λ counts. HasCounted c.args.harts c.args.left c.args.left counts 0 0) (sym items)
    (counted_none c.args.harts c.args.left)

pub loop-number-preserved : goal.loop-number-preserved
loop-number-preserved g c =
    let found = c.in-Ok-Some.field-0-is in
    let left = c.loop-number.left in
    let next = c.next.new.self in
    let is = subst (λ o. IfSome o (λ m. IsMessage m)) found c.in-Ok-Some.ensures.ranges in
    let begins =
    subst (λ o. IfSome o (λ (m : Message). left ≡ message_bytes m ++ next)) found c.in-Ok-Some.ensures.message in
    let short : c.loop-number.number < 2 ^ 64 - 1 = c.loop-number-test.true in
    let few : c.args.harts < 2 ^ 16 = omega arith in
    counted_more c.args.harts c.args.left left next c.loop-number.counts.items c.place.new.counts.items
    c.loop-number.highest c.max-highest.result c.loop-number.number c.in-Ok-Some.message c.loop-number.invariant few
    short is begins (placed_none _ _ (sym c.in-Ok.ensures.value)) c.in-Ok.ensures.state
    (c.max-highest.ensures ∙ ap (λ h. max c.loop-number.highest h) c.saturating_add.ensures)
