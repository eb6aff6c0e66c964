-- What the ranges become by one piece more is a lemma.
use Rattle.std.proofs.Common.{◌≡◌, ◌∙◌, arith, length, sym}
use Rattle.rvclass.specs.Memory.{in_order}
use Rattle.explaining.proofs.RangesLemmas.{counted, is_none, is_one, left_counted, not_more}
use Rattle.explaining.proofs.ranges.range_count.Goals.{then-is_some, else-is_some}
use Rattle.explaining.proofs.ranges.range_count.Goals as goal

pub loop-piece-preserved : goal.loop-piece-preserved
loop-piece-preserved c =
    let all = in_order c.args.program.now in
    let inv = c.loop-piece.invariant in
    let number = inv.0 in
    let few = inv.1 in
    let step = counted all c.loop-piece.piece c.loop-piece.range c.extent-extent.result c.passed.result
    c.carried-range.result c.extent-extent.ensures.extent c.passed.ensures c.carried-range.ensures in
    let more = not_more all c.loop-piece.piece c.loop-piece.range c.extent-extent.result c.passed.result
    c.carried-range.result c.extent-extent.ensures.extent c.passed.ensures c.carried-range.ensures in
    elim c.if-is_some.branch [
      | then-is_some w ↦
          let one = is_one c.passed.result (sym c.is_some.ensures ∙ w.if-is_some.true) in
          let count = w.count-is in
          (omega (arith, number, step, one, count), omega (arith, few, more, one, count))
      | else-is_some w ↦
          let none = is_none c.passed.result (sym c.is_some.ensures ∙ w.if-is_some.false) in
          let count = w.count-is in
          (omega (arith, number, step, none, count), omega (arith, few, more, none, count))
    ]

pub returns-then-is_some-2 : goal.returns-then-is_some-2
returns-then-is_some-2 c =
    let all = c.piece_count-piece-end.ensures in
    let end = c.loop-piece-test.false in
    let within = c.loop-piece.auto.piece-end in
    let done : c.loop-piece.piece ≡ length c.args.program.now = omega (arith, all, end, within) in
    let number = c.loop-piece.invariant.0 in
    let left = left_counted c.args.program.now c.loop-piece.piece c.loop-piece.range done in
    let one = is_one c.loop-piece.range (sym c.is_some-2.ensures ∙ c.if-is_some-2.true) in
    omega (arith, number, left, one)

pub returns-else-is_some-2 : goal.returns-else-is_some-2
returns-else-is_some-2 c =
    let all = c.piece_count-piece-end.ensures in
    let end = c.loop-piece-test.false in
    let within = c.loop-piece.auto.piece-end in
    let done : c.loop-piece.piece ≡ length c.args.program.now = omega (arith, all, end, within) in
    let number = c.loop-piece.invariant.0 in
    let left = left_counted c.args.program.now c.loop-piece.piece c.loop-piece.range done in
    let none = is_none c.loop-piece.range (sym c.is_some-2.ensures ∙ c.if-is_some-2.false) in
    omega (arith, number, left, none)
