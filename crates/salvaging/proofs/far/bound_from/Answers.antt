-- A step to the next bound is a lemma on lists.
use Rattle.std.proofs.Common.{arith}
use Rattle.salvaging.proofs.BoundSteps.{bound_end, bound_next, bound_start}
use Rattle.salvaging.proofs.far.bound_from.Goals as goal

pub loop-bound-init : goal.loop-bound-init
loop-bound-init c =
    bound_start c.args.counts.now c.args.first c.greatest_upto-next.result c.requires.fits c.greatest_upto-next.ensures

pub loop-bound-preserved : goal.loop-bound-preserved
loop-bound-preserved c =
    bound_next c.args.counts.now c.args.first c.loop-bound.bound c.loop-bound.next
    c.greatest_upto-next-in-loop-bound.result c.loop-bound.invariant c.requires.few c.loop-bound-test.true
    c.greatest_upto-next-in-loop-bound.ensures

pub returns-clause-bound : goal.returns-clause-bound
returns-clause-bound c =
    let over = c.loop-bound-test.false in
    bound_end c.args.counts.now c.args.first c.loop-bound.bound c.loop-bound.next c.loop-bound.invariant
    (omega (arith, over))
