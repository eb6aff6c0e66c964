-- What the ranges become by one piece more is a lemma.
use Rattle.std.proofs.Common.{◌≡◌, ◌∙◌, ◌+◌, arith, drop, length, refl, sym, ap}
use Rattle.std.specs.List.{slice_get}
use Rattle.rvclass.specs.Memory.{in_order}
use Rattle.explaining.proofs.RangesLemmas.{first_ends, last_one, later_one, no_later, none_ends}
use Rattle.explaining.specs.steps.JoinedRanges.{ranges_on}
use Rattle.explaining.proofs.ranges.range_at.Goals.{in-Some+else-left-eq0, in_default}
use Rattle.explaining.proofs.ranges.range_at.Goals as goal

pub returns-then-left-eq0 : goal.returns-then-left-eq0
returns-then-left-eq0 c =
    sym (c.loop-piece.invariant
    ∙ first_ends (in_order c.args.program.now) c.loop-piece.piece c.loop-piece.range c.extent-extent.result
    c.passed.result _ c.extent-extent.ensures.extent c.passed.ensures refl c.in-Some.one c.loop-piece.left c.in-Some.is
    c.if-left-eq0.true)

pub loop-piece-preserved : goal.loop-piece-preserved
loop-piece-preserved c =
    let all = in_order c.args.program.now in
    let next = ranges_on c.carried-range.result (drop (c.loop-piece.piece + 1) all) in
    elim c.match-passed.branch [
      | in-Some+else-left-eq0 w ↦
          c.loop-piece.invariant
          ∙ later_one all c.loop-piece.piece c.loop-piece.range c.extent-extent.result c.passed.result
          c.carried-range.result c.extent-extent.ensures.extent c.passed.ensures c.carried-range.ensures
          w.in-Some.one c.loop-piece.left w.in-Some.is w.if-left-eq0.false
          ∙ ap (slice_get next) (sym w.left-is)
      | in_default w ↦
          c.loop-piece.invariant
          ∙ none_ends all c.loop-piece.piece c.loop-piece.range c.extent-extent.result c.passed.result
          c.carried-range.result c.extent-extent.ensures.extent c.passed.ensures c.carried-range.ensures
          c.loop-piece.left w.in_default.not-Some
          ∙ ap (slice_get next) (sym w.left-is)
    ]

pub returns-then-left-eq0-2 : goal.returns-then-left-eq0-2
returns-then-left-eq0-2 c =
    let all = c.piece_count-piece-end.ensures in
    let end = c.loop-piece-test.false in
    let within = c.loop-piece.auto.piece-end in
    let done : c.loop-piece.piece ≡ length c.args.program.now = omega (arith, all, end, within) in
    sym (c.loop-piece.invariant
    ∙ last_one c.args.program.now c.loop-piece.piece c.loop-piece.range done c.loop-piece.left c.if-left-eq0-2.true)

pub returns-else-left-eq0-2 : goal.returns-else-left-eq0-2
returns-else-left-eq0-2 c =
    let all = c.piece_count-piece-end.ensures in
    let end = c.loop-piece-test.false in
    let within = c.loop-piece.auto.piece-end in
    let done : c.loop-piece.piece ≡ length c.args.program.now = omega (arith, all, end, within) in
    sym (c.loop-piece.invariant
    ∙ no_later c.args.program.now c.loop-piece.piece c.loop-piece.range done c.loop-piece.left c.if-left-eq0-2.false)
