-- What is written goes on from place to place: by a lemma.
use Rattle.std.proofs.Common.{◌≡◌, Err, arith, subst, sym}
use Rattle.std.proofs.lemmas.Grind.{common_steps}
use Rattle.parallel_decode.proofs.PuttingLemmas.{puts_more, puts_next, puts_none}
use Rattle.parallel_decode.specs.steps.Putting.{PutsOn}
use Rattle.parallel_decode.proofs.rounds.write_rounds.Goals as goal

pub loop-init : goal.loop-init
loop-init g c = puts_none c.args.plan 0 (g.O.Write.contents c.args.out.now)

pub loop-preserved : goal.loop-preserved
loop-preserved g c =
    puts_next c.args.plan 0 c.loop.at _ (g.O.Write.contents c.args.out.now) (g.O.Write.contents c.loop.out)
    (g.O.Write.contents c.write_round.new.out) c.loop.invariant c.in_ok-next.ensures

pub returns-in_err-next : goal.returns-in_err-next
returns-in_err-next g c =
    let old = g.O.Write.contents c.args.out.now in
    let new = g.O.Write.contents c.write_round.new.out in
    let why = c.in_err-next.field-0.0 in
    let failed : c.from_residual.result ≡ Err why = grind (arith, common_steps) in
    subst (λ ended. PutsOn c.args.plan 0 ended old new) (sym failed)
    (puts_more c.args.plan 0 c.loop.at (Err why) old (g.O.Write.contents c.loop.out) new c.loop.invariant
    c.in_err-next.ensures)
