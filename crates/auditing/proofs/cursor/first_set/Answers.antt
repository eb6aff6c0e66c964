-- The place is the first that is set, by its lemma on lists.
use Rattle.std.proofs.Common.{length, false, sym, arith}
use Rattle.std.proofs.lemmas.List.Sums.{position_or_len_is}
use Rattle.auditing.proofs.cursor.first_set.Goals as goal

pub returns-then-flag : goal.returns-then-flag
returns-then-flag c =
    sym (position_or_len_is (λ flag. flag) c.args.flags.now c.loop-place.place false (omega arith)
    (λ k below. (c.loop-place.invariant k below)) (λ within. c.if-flag.true))

pub returns : goal.returns
returns c =
    let end = c.loop-place-test.false in
    sym (position_or_len_is (λ flag. flag) c.args.flags.now (length c.args.flags.now) false (omega arith)
    (λ k below. (c.loop-place.invariant k (omega (arith, below, end)))) (λ within. absurd (omega (arith, within))))
