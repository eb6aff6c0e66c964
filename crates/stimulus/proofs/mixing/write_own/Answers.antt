-- One message after the other is read and written: by lemmas on what is left, which no tactic finds.
use Rattle.std.proofs.Common.{subst}
use Rattle.output.proofs.Beginnings.{whole_begun}
use Rattle.stimulus.specs.steps.Drawing.{TakesNext}
use Rattle.stimulus.proofs.LeftMessages.{left_all, left_begun, left_more, left_none}
use Rattle.stimulus.proofs.mixing.write_own.Goals as goal

pub loop-message-init : goal.loop-message-init
loop-message-init g c = λ messages front.
    left_none g.F.Form.text messages _ (g.W.Write.contents c.args.sink.now) front

pub loop-message-preserved : goal.loop-message-preserved
loop-message-preserved g c = λ messages front.
    left_more g.F.Form.text messages _ _ c.in-Some.message (g.W.Write.contents c.args.sink.now)
    (g.W.Write.contents c.loop-message.sink) (g.W.Write.contents c.write.new.sink)
    (c.loop-message.invariant messages front)
    (λ left stands. subst (λ taken. TakesNext left taken c.next_of.new.own) c.in-Some.is
    (c.next_of.ensures.taken left stands))
    c.in_ok-write.ensures.text

pub returns-clause-text : goal.returns-clause-text
returns-clause-text g c = λ messages front.
    left_all g.F.Form.text messages _ c.next_of.new.own (g.W.Write.contents c.args.sink.now)
    (g.W.Write.contents c.loop-message.sink) (c.loop-message.invariant messages front)
    (λ left stands. subst (λ taken. TakesNext left taken c.next_of.new.own) c.in_default.is
    (c.next_of.ensures.taken left stands))

pub returns-in_err-write-clause-begun : goal.returns-in_err-write-clause-begun
returns-in_err-write-clause-begun g c = λ messages front.
    left_begun g.F.Form.text messages _ _ c.in-Some.message (g.W.Write.contents c.args.sink.now)
    (g.W.Write.contents c.loop-message.sink) (g.W.Write.contents c.write.new.sink)
    (c.loop-message.invariant messages front)
    (λ left stands. subst (λ taken. TakesNext left taken c.next_of.new.own) c.in-Some.is
    (c.next_of.ensures.taken left stands)) c.write.ensures.begun

pub returns-clause-begun : goal.returns-clause-begun
returns-clause-begun g c = λ messages front.
    whole_begun _ (g.W.Write.contents c.args.sink.now) (g.W.Write.contents c.loop-message.sink)
    (returns-clause-text g c messages front)
