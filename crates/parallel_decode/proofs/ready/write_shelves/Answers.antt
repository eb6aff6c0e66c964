-- What is written goes on from place to place: by a lemma.
use Rattle.std.proofs.Common.{◌≡◌, Err, arith, subst, sym}
use Rattle.std.proofs.lemmas.Grind.{common_steps}
use Rattle.parallel_decode.proofs.PuttingLemmas.{puts_more, puts_next, puts_none}
use Rattle.parallel_decode.specs.steps.Putting.{PutsOn}
use Rattle.parallel_decode.proofs.ready.write_shelves.Goals as goal

pub loop-shelf-init : goal.loop-shelf-init
loop-shelf-init g c = puts_none c.args.job.now.plan c.args.from (g.O.Write.contents c.args.out.now)

pub loop-shelf-preserved : goal.loop-shelf-preserved
loop-shelf-preserved g c =
    puts_next c.args.job.now.plan c.args.from c.loop-shelf.at _ (g.O.Write.contents c.args.out.now) (g.O.Write.contents c.loop-shelf.out)
    (g.O.Write.contents c.write_shelf.new.out) c.loop-shelf.invariant c.in_ok-at.ensures

pub returns-in_err-at : goal.returns-in_err-at
returns-in_err-at g c =
    let old = g.O.Write.contents c.args.out.now in
    let new = g.O.Write.contents c.write_shelf.new.out in
    let why = c.in_err-at.field-0.0 in
    let failed : c.from_residual.result ≡ Err why = grind (arith, common_steps) in
    subst (λ ended. PutsOn c.args.job.now.plan c.args.from ended old new) (sym failed)
    (puts_more c.args.job.now.plan c.args.from c.loop-shelf.at (Err why) old (g.O.Write.contents c.loop-shelf.out) new c.loop-shelf.invariant
    c.in_err-at.ensures)
