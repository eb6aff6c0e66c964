-- Each step of the loop is a lemma about the walk that is left, which no search names.
use Rattle.std.proofs.Common.{◌≡◌, refl, ap, ◌∙◌, ◌-◌, min, arith, vec_capacity, vec_len}
use Rattle.decoder.proofs.HandsOut.{hand_starts, hand_carries, hand_lost, hand_goes, hand_over}
use Rattle.decoder.proofs.rest.after_walk.Goals as goal

pub loop-init : goal.loop-init
loop-init g c = (refl, omega arith, hand_starts _ _ _ _ _ _ c.requires.1)

pub retrace-requires-clause-here : goal.retrace-requires-clause-here
retrace-requires-clause-here g c =
    hand_carries _ _ _ _ _ c.loop.counter _ _ _ c.loop.invariant.2
    (omega (arith, c.loop-test.true, c.min-count.ensures))

pub push_reserved-requires : goal.push_reserved-requires
push_reserved-requires g c =
    omega (
      arith,
      c.loop-test.true,
      c.min-count.ensures,
      c.capacity.ensures,
      c.len.ensures,
      c.loop.invariant.0,
      c.loop.invariant.1,
    )

pub returns-then-not-retrace : goal.returns-then-not-retrace
returns-then-not-retrace g c =
    absurd (hand_lost _ _ _ _ _ c.loop.counter _ _ _ c.loop.invariant.2 c.args.walk.course.outcomes c.retrace.new.here
    c.retrace.new.used c.retrace.result (omega (arith, c.loop-test.true, c.min-count.ensures)) c.retrace.ensures
    cc)

pub loop-preserved : goal.loop-preserved
loop-preserved g c = (
  c.push_reserved.ensures.capacity ∙ c.loop.invariant.0,
  omega (arith, c.push_reserved.ensures.len, c.loop.invariant.1),
  hand_goes _ _ _ _ _ c.loop.counter _ _ _ c.loop.invariant.2 c.args.walk.course.outcomes c.retrace.new.here
      c.retrace.new.used c.retrace.result c.event.result _ (omega (arith, c.loop-test.true, c.min-count.ensures))
      c.retrace.ensures (cc) c.event.ensures c.push_reserved.ensures.items,
)

pub returns : goal.returns
returns g c =
    let all : c.loop.counter ≡ c.min-count.result = omega (arith, c.loop-test.false, c.loop.auto.counter-end) in
    let least : c.min-count.result
    ≡ min c.args.walk.count (vec_capacity c.args.piece.now - vec_len c.args.piece.now) =
    c.min-count.ensures ∙ ap (λ n. min c.args.walk.count (n - c.len.result)) c.capacity.ensures
    ∙ ap (λ n. min c.args.walk.count (vec_capacity c.args.piece.now - n)) c.len.ensures in
    let over = hand_over _ _ _ _ _ c.loop.counter _ _ _ c.loop.invariant.2 _ _ all least in
    record {
      rest = (c.requires.0, over.goes);
      appended = over.appended;
      left = over.later;
      room = c.loop.invariant.0;
    }
