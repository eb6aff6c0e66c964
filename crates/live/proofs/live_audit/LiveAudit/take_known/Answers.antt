-- A message is taken in two steps: by lemmas on steps, which no tactic finds.
use Rattle.live.specs.Course.{looking, settling}
use Rattle.live.specs.Live.{judged, waits}
use Rattle.live.proofs.Following.{looked_later}
use Rattle.live.proofs.Settling.{settling_later, went_then}
use Rattle.live.proofs.Steps.{stops_first}
use Rattle.live.proofs.live_audit.LiveAudit.take_known.Goals as goal

pub returns-in-Ok : goal.returns-in-Ok
returns-in-Ok g c = λ all read asked state right stands was within.
    let one = c.args.one in
    let course = settling all state one (state.waiting one.message.hart) asked in
    let before = c.in-Ok.ensures all read asked state one.place right stands was in
    went_then _ g.L.LiveLines.Told g.met.L.LiveLines.joined all c.args.lines.now c.settle.new.lines c.judge_first.new.lines asked
    course (λ next. looking all next one.message (judged waits all.window all.sent next one)) c.judge_first.result
    c.judge_first.new.self (g.S.SentSource.left c.judge_first.new.source)
    (settling_later all state one (state.waiting one.message.hart) asked) before.1.told
    (c.judge_first.ensures all before.0 course.asked course.step.state right before.1.stands before.2 within)

pub returns-in-Err : goal.returns-in-Err
returns-in-Err g c = λ all read asked state right stands was within.
    let one = c.args.one in
    let course = settling all state one (state.waiting one.message.hart) asked in
    stops_first course (λ next. looking all next one.message (judged waits all.window all.sent next one)) all
    (λ told. g.L.LiveLines.Told c.args.lines.now told c.settle.new.lines) asked c.in-Err.why
    (g.S.SentSource.left c.settle.new.source)
    (looked_later all course.step.state.front one.message.hart one.message.number course.asked)
    (c.in-Err.ensures all read asked state one.place right stands was)
