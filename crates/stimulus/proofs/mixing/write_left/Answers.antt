-- The messages of one hart after the other are written: by lemmas on what is left, which no tactic finds.
use Rattle.std.proofs.Common.{◌≡◌, arith, length, subst, sym}
use Rattle.output.proofs.Beginnings.{whole_begun}
use Rattle.stimulus.specs.Mixing.{AllAreInFront}
use Rattle.stimulus.proofs.LeftMessages.{harts_all, harts_begun, harts_more, harts_none}
use Rattle.stimulus.proofs.mixing.write_left.Goals as goal

pub loop-own-init : goal.loop-own-init
loop-own-init g c = λ messages fronts.
    harts_none g.F.Form.text messages _ (g.W.Write.contents c.args.sink.now)
    (subst (AllAreInFront messages) (sym c.into_iter-own-iterator.ensures.into_iter_gives.0) fronts)

pub loop-own-preserved : goal.loop-own-preserved
loop-own-preserved g c = λ messages fronts.
    harts_more g.F.Form.text messages c.next.new.self.rest.items c.in-Some.own (g.W.Write.contents c.args.sink.now)
    (g.W.Write.contents c.loop-own.sink) (g.W.Write.contents c.write_own.new.sink) c.loop-own.own-iterator.rest.items
    c.in-Some.ensures.steps.0 (c.loop-own.invariant messages fronts) c.in_ok-write_own.ensures.text

pub returns-in_err-write_own-clause-begun : goal.returns-in_err-write_own-clause-begun
returns-in_err-write_own-clause-begun g c = λ messages fronts.
    harts_begun g.F.Form.text messages c.next.new.self.rest.items c.in-Some.own (g.W.Write.contents c.args.sink.now)
    (g.W.Write.contents c.loop-own.sink) (g.W.Write.contents c.write_own.new.sink) c.loop-own.own-iterator.rest.items
    c.in-Some.ensures.steps.0 (c.loop-own.invariant messages fronts) c.write_own.ensures.begun

pub returns-clause-text : goal.returns-clause-text
returns-clause-text g c = λ messages fronts.
    let rest = c.loop-own.own-iterator.rest in
    let none : length rest.items ≡ 0 = omega (arith, c.in-None.ensures.steps.0, rest.ok.0) in
    harts_all g.F.Form.text messages rest.items (g.W.Write.contents c.args.sink.now)
    (g.W.Write.contents c.loop-own.sink) none (c.loop-own.invariant messages fronts)

pub returns-clause-begun : goal.returns-clause-begun
returns-clause-begun g c = λ messages fronts.
    whole_begun _ (g.W.Write.contents c.args.sink.now) (g.W.Write.contents c.loop-own.sink)
    (returns-clause-text g c messages fronts)
