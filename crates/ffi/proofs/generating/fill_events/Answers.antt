-- One event more is written: by lemmas on walks, which no tactic finds.
use Rattle.std.proofs.Common.{arith}
use Rattle.rvclass.specs.Fetch.{words_of}
use Rattle.ffi.proofs.EventsGiven.{given_all, given_more, given_none}
use Rattle.ffi.proofs.generating.fill_events.Goals as goal

pub loop-place-init : goal.loop-place-init
loop-place-init c = given_none (words_of c.args.program.now) c.args.walk.now c.args.events.now

pub loop-place-preserved : goal.loop-place-preserved
loop-place-preserved c =
    given_more (words_of c.args.program.now) c.args.walk.now c.args.events.now c.loop-place.place c.loop-place.walk _
    c.loop-place.events c.step.result c.numbers_of_event.result c.loop-place-test.true c.loop-place.invariant
    c.step.ensures.event c.numbers_of_event.ensures

pub returns-clause-events : goal.returns-clause-events
returns-clause-events c =
    (given_all (words_of c.args.program.now) c.args.walk.now c.args.events.now c.loop-place.place c.loop-place.walk
    c.loop-place.events (omega arith) c.loop-place.invariant).0

pub returns-clause-walk : goal.returns-clause-walk
returns-clause-walk c =
    (given_all (words_of c.args.program.now) c.args.walk.now c.args.events.now c.loop-place.place c.loop-place.walk
    c.loop-place.events (omega arith) c.loop-place.invariant).1
