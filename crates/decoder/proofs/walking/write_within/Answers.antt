-- Each step of the loop is a lemma about the walk that is left, which no search names.
use Rattle.std.proofs.Common.{refl, ◌∙◌}
use Rattle.decoder.proofs.PassesByStep.{write_starts, write_carries, write_has_room, write_lost, write_over, write_goes}
use Rattle.decoder.proofs.walking.write_within.Goals as goal

pub loop-init : goal.loop-init
loop-init g c = (refl, write_starts _ _ _ _ _ _ _ _ _ c.requires.from c.requires.room)

pub retrace-requires-clause-here : goal.retrace-requires-clause-here
retrace-requires-clause-here g c = write_carries _ _ _ _ _ _ _ c.loop.counter _ _ _ _ _ c.loop.invariant.1
    c.loop-test.true

pub push_reserved-requires : goal.push_reserved-requires
push_reserved-requires g c = write_has_room _ _ _ _ _ _ _ c.loop.counter _ _ _ _ _ c.loop.invariant.1 c.loop-test.true

pub returns-then-not-retrace-clause-walk : goal.returns-then-not-retrace-clause-walk
returns-then-not-retrace-clause-walk g c =
    write_lost _ _ _ _ _ _ _ c.loop.counter _ _ _ _ _ c.loop.invariant.1 c.args.course.now.outcomes c.retrace.new.here
    c.retrace.new.used c.retrace.result c.loop-test.true c.retrace.ensures cc

pub loop-preserved : goal.loop-preserved
loop-preserved g c = (
  c.push_reserved.ensures.capacity ∙ c.loop.invariant.0,
  write_goes _ _ _ _ _ _ _ c.loop.counter _ _ _ _ _ c.loop.invariant.1 c.args.course.now.outcomes c.retrace.new.here
      c.retrace.new.used c.retrace.result c.event.result _ _ _ c.loop-test.true c.retrace.ensures (cc) c.event.ensures
      c.push_reserved.ensures.items c.push_reserved.ensures.len c.push_reserved.ensures.capacity,
)

pub returns-clause-walk : goal.returns-clause-walk
returns-clause-walk g c = write_over _ _ _ _ _ _ _ c.loop.counter _ _ _ _ _ c.loop.invariant.1 c.loop-test.false

pub returns-clause-room : goal.returns-clause-room
returns-clause-room g c = c.loop.invariant.0
