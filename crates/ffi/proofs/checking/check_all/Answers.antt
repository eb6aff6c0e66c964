-- One row more is checked: by lemmas on lists, which no tactic finds.
use Rattle.rvclass.specs.Fetch.{words_of}
use Rattle.ffi.proofs.EventsPassed.{illegal_at, none_at, passed_none}
use Rattle.ffi.proofs.checking.check_all.Goals as goal

pub loop-place-init : goal.loop-place-init
loop-place-init c =
    let words = words_of c.args.program.now in
    (passed_none words c.args.events.now c.new-path.result (c.new-path.ensures.none words), c.new-path.ensures.rows)

pub returns-in-None : goal.returns-in-None
returns-in-None c =
    none_at (words_of c.args.program.now) c.args.events.now c.loop-place.place c.loop-place.path _
    c.loop-place-test.true (λ some. let same = c.in-None.ensures.only some.0 some.1 in cc) c.loop-place.invariant.0

pub returns-in-Err : goal.returns-in-Err
returns-in-Err c =
    let before = c.loop-place.invariant.0 in
    illegal_at (words_of c.args.program.now) c.args.events.now c.loop-place.place c.loop-place.path _ c.in-Some.event
    c.in-Err.fault c.loop-place-test.true c.in-Some.ensures.found before
    (c.in-Err.ensures.first before.log before.passed)
