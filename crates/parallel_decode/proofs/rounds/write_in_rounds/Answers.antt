-- What is left at last is written behind the rest: what each call adds is handed on.
use Rattle.std.proofs.Common.{◌≡◌, Err, arith, subst, sym}
use Rattle.std.proofs.lemmas.Grind.{common_steps}
use Rattle.parallel_decode.specs.steps.Putting.{PutsRest}
use Rattle.parallel_decode.proofs.rounds.write_in_rounds.Goals as goal

pub returns-in_err-at : goal.returns-in_err-at
returns-in_err-at g c =
    let why = c.in_err-at.field-0.0 in
    let failed : c.from_residual.result ≡ Err why = grind (arith, common_steps) in
    subst (λ ended. PutsRest c.args.plan 0 ended (g.O.Write.contents c.args.out.now)
    (g.O.Write.contents c.write_rounds.new.out)) (sym failed) c.in_err-at.ensures

pub returns : goal.returns
returns g c = λ text old left. c.write_stretches-rest.ensures text old (c.in_ok-at.ensures text old left)
