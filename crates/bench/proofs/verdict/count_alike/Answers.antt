-- What is alike behind the place follows by cases on both lists.
use Rattle.std.proofs.Common.{◌∙◌, sym, arith}
use Rattle.retire.specs.declared.event.Event.TheVariants.{Retire}
use Rattle.bench.proofs.AlikeLemmas.{count_alike-differs, count_alike-ended, count_alike-more, count_alike-over}
use Rattle.bench.proofs.verdict.count_alike.Goals as goal

pub returns-then-place-log-clause-count : goal.returns-then-place-log-clause-count
returns-then-place-log-clause-count c =
    let none = count_alike-ended c.args.decoded.now c.args.log.now c.loop-place.place c.if-place-log.true in
    omega (arith, none, c.loop-place.invariant.counted)

pub returns-then-not-is_alike-clause-count : goal.returns-then-not-is_alike-clause-count
returns-then-not-is_alike-clause-count c =
    let none = count_alike-differs (Retire 0 0 0) (Retire 0 0 0) c.args.decoded.now c.args.log.now c.loop-place.place
    c.loop-place-test.true c.if-place-log.false (sym c.is_alike.ensures ∙ c.if-not-is_alike.true) in
    omega (arith, none, c.loop-place.invariant.counted)

pub loop-place-preserved : goal.loop-place-preserved
loop-place-preserved c =
    let one = count_alike-more (Retire 0 0 0) (Retire 0 0 0) c.args.decoded.now c.args.log.now c.loop-place.place
    c.loop-place-test.true c.if-place-log.false (sym c.is_alike.ensures ∙ c.if-not-is_alike.false) in
    record {
      within = omega (arith, c.if-place-log.false);
      counted = omega (arith, one, c.loop-place.invariant.counted);
    }

pub returns-clause-count : goal.returns-clause-count
returns-clause-count c =
    let none = count_alike-over c.args.decoded.now c.args.log.now c.loop-place.place c.loop-place-test.false in
    omega (arith, none, c.loop-place.invariant.counted, c.loop-place-test.false, c.loop-place.auto.place-end)
