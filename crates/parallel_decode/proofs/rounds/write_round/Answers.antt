-- What the threads did not write is written behind it: what each call adds is handed on.
use Rattle.std.proofs.Common.{◌≡◌, Err, arith, subst, sym}
use Rattle.std.proofs.lemmas.Grind.{common_steps}
use Rattle.parallel_decode.proofs.PuttingLemmas.{puts_more}
use Rattle.parallel_decode.specs.steps.Putting.{PutsOn}
use Rattle.parallel_decode.proofs.rounds.write_round.Goals as goal

pub returns-in_err-at : goal.returns-in_err-at
returns-in_err-at g c =
    let why = c.in_err-at.field-0.0 in
    let failed : c.from_residual.result ≡ Err why = grind (arith, common_steps) in
    subst (λ ended. PutsOn c.args.job.now.plan c.args.from ended (g.O.Write.contents c.args.out.now)
    (g.O.Write.contents c.write_in_threads.new.out)) (sym failed) c.in_err-at.ensures

pub returns : goal.returns
returns g c =
    puts_more c.args.job.now.plan c.args.from c.in_ok-at.at c.write_on.result (g.O.Write.contents c.args.out.now)
    (g.O.Write.contents c.write_in_threads.new.out) (g.O.Write.contents c.write_on.new.out) c.in_ok-at.ensures
    c.write_on.ensures
