-- The place is the first that passes the test, by its lemma on lists.
use Rattle.std.proofs.Common.{length, false, ap, sym, arith}
use Rattle.std.specs.Prelude.{not}
use Rattle.std.proofs.lemmas.Grind.{common_steps}
use Rattle.std.proofs.lemmas.List.Sums.{position_or_len_is}
use Rattle.auditing.proofs.lost.first_lost.Goals as goal

pub returns-then-not-came : goal.returns-then-not-came
returns-then-not-came c =
    sym (position_or_len_is not c.args.came.now c.loop-place.place false (omega arith)
    (λ k below. ap not (c.loop-place.invariant k below)) (λ within. grind (arith, common_steps)))

pub returns : goal.returns
returns c =
    let end = c.loop-place-test.false in
    sym (position_or_len_is not c.args.came.now (length c.args.came.now) false (omega arith)
    (λ k below. ap not (c.loop-place.invariant k (omega (arith, below, end)))) (λ within. absurd (omega (arith, within))))
