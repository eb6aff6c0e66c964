-- The counts so far and one more: by a lemma on lists.
use Rattle.std.proofs.Common.{◌<◌, arith, length, subst, sym, take}
use Rattle.std.proofs.lemmas.List.{take_more}
use Rattle.salvaging.specs.steps.Farness.{IsGreatestUpTo}
use Rattle.salvaging.proofs.BoundSteps.{none_yet, one_more}
use Rattle.salvaging.proofs.far.greatest_upto.Goals as goal

pub loop-count-init : goal.loop-count-init
loop-count-init c = none_yet c.args.limit

pub loop-count-preserved : goal.loop-count-preserved
loop-count-preserved c =
    let at = c.loop-count.count-index in
    let counts = c.args.counts.now in
    let within : at < length counts = omega arith in
    subst (λ l. IsGreatestUpTo l c.args.limit c.greater_of-most.result) (sym (take_more counts at 0 within))
    (one_more (take at counts) c.args.limit c.loop-count.most c.loop-count.invariant _ _ c.greater_of-most.ensures)
