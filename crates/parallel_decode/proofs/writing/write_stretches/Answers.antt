-- One stretch more at a time: by lemmas on the text that is left, which no tactic finds.
use Rattle.std.proofs.Common.{◌≡◌, Err, Ok, arith, subst, sym}
use Rattle.std.proofs.lemmas.Grind.{common_steps}
use Rattle.parallel_decode.proofs.PuttingLemmas.{left_none, puts_more, puts_next, puts_none}
use Rattle.parallel_decode.specs.steps.Putting.{PutsOn, PutsRest}
use Rattle.parallel_decode.proofs.writing.write_stretches.Goals as goal

pub loop-at-init : goal.loop-at-init
loop-at-init g c = puts_none c.args.plan.now c.args.from (g.O.Write.contents c.args.out.now)

pub loop-at-preserved : goal.loop-at-preserved
loop-at-preserved g c =
    let old = g.O.Write.contents c.args.out.now in
    let mid = g.O.Write.contents c.loop-at.out in
    let new = g.O.Write.contents c.write_at.new.out in
    subst (λ next. PutsOn c.args.plan.now c.args.from (Ok next) old new) c.in_ok-write_at.ensures.next
    (puts_next c.args.plan.now c.args.from c.loop-at.at _ old mid new c.loop-at.invariant c.in_ok-write_at.ensures.put)

pub returns-in_err-write_at : goal.returns-in_err-write_at
returns-in_err-write_at g c =
    let old = g.O.Write.contents c.args.out.now in
    let new = g.O.Write.contents c.write_at.new.out in
    let why = c.in_err-write_at.field-0.0 in
    let failed : c.from_residual.result ≡ Err why = grind (arith, common_steps) in
    subst (λ ended. PutsRest c.args.plan.now c.args.from ended old new) (sym failed)
    (puts_more c.args.plan.now c.args.from c.loop-at.at (Err why) old (g.O.Write.contents c.loop-at.out) new
    c.loop-at.invariant c.in_err-write_at.ensures.put)

pub returns : goal.returns
returns g c = λ text old left.
    left_none c.args.plan.now c.loop-at.at text old (g.O.Write.contents c.loop-at.out) (omega (arith, c.loop-at-test.false))
    (c.loop-at.invariant text old left)
