-- The stretch comes next: by lemmas on the text that is left, which no tactic finds.
use Rattle.std.proofs.Common.{◌≡◌, Err, Some, arith, get_or, slice_get, subst, sym}
use Rattle.std.proofs.lemmas.Grind.{common_steps}
use Rattle.std.proofs.lemmas.Option.{slice_get-get_or}
use Rattle.parallel_decode.proofs.PuttingLemmas.{have_part, stretch_fails, stretch_more}
use Rattle.parallel_decode.specs.declared.stretch.Stretch.{Stretch}
use Rattle.parallel_decode.specs.steps.Putting.{IsPutUpTo}
use Rattle.parallel_decode.proofs.writing.write_at.Goals.{After-index-plan-at}
use Rattle.parallel_decode.proofs.writing.write_at.Goals as goal

module _ (g : _) (c : After-index-plan-at g) where
  abbrev stretch : Stretch
  stretch = get_or c.args.plan.now.stretches.now c.args.at c.index-plan-at.result

  here : slice_get c.args.plan.now.stretches.now c.args.at ≡ Some stretch
  here = slice_get-get_or c.args.plan.now.stretches.now c.args.at c.index-plan-at.result c.requires.within

pub write_stretch-requires : goal.write_stretch-requires
write_stretch-requires g c =
    have_part c.args.plan.now c.args.at _
    (here g (goal.at.write_stretch-requires g c).After-index-plan-at) c.requires.sound

pub returns-in_err-write_stretch-clause-put : goal.returns-in_err-write_stretch-clause-put
returns-in_err-write_stretch-clause-put g c = λ text old left.
    let new = g.O.Write.contents c.write_stretch.new.out in
    let why = c.in_err-write_stretch.field-0.0 in
    let failed : c.from_residual.result ≡ Err why = grind (arith, common_steps) in
    subst (λ ended. IsPutUpTo c.args.plan.now ended text old new) (sym failed)
    (stretch_fails c.args.plan.now c.args.at _
    (here g (goal.at.returns-in_err-write_stretch-clause-put g c).After-index-plan-at) text old
    (g.O.Write.contents c.args.out.now) left why new c.in_err-write_stretch.ensures)

pub returns-clause-put : goal.returns-clause-put
returns-clause-put g c = λ text old left.
    stretch_more c.args.plan.now c.args.at _
    (here g (goal.at.returns-clause-put g c).After-index-plan-at) text old (g.O.Write.contents c.args.out.now) left
    (g.O.Write.contents c.write_stretch.new.out) c.in_ok-write_stretch.ensures
