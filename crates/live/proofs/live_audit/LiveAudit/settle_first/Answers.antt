-- What waits is decided in two steps: by lemmas on steps, which no tactic finds.
use Rattle.live.specs.Course.{going_on, looking}
use Rattle.live.specs.Live.{judged, strange}
use Rattle.live.proofs.Following.{looked_later}
use Rattle.live.proofs.Settling.{going_later, went_then}
use Rattle.live.proofs.Steps.{stops_first}
use Rattle.live.proofs.live_audit.LiveAudit.settle_first.Goals as goal

pub returns-in-Ok : goal.returns-in-Ok
returns-in-Ok g c = λ all read asked state right stands was.
    let first = c.args.first.now in
    let course = going_on all state first.message c.args.message.now asked in
    let before = c.in-Ok.ensures all read asked state right stands was in
    went_then _ g.L.LiveLines.Told g.met.L.LiveLines.joined all c.args.lines.now c.go_on.new.lines c.judge_last.new.lines
    asked course (λ next. looking all next first.message (judged strange all.window all.sent next first)) c.judge_last.result
    c.judge_last.new.self (g.S.SentSource.left c.judge_last.new.source)
    (going_later all state first.message c.args.message.now asked) before.1.told
    (c.judge_last.ensures all before.0 course.asked course.step.state right before.1.stands before.2)

pub returns-in-Err : goal.returns-in-Err
returns-in-Err g c = λ all read asked state right stands was.
    let first = c.args.first.now in
    let course = going_on all state first.message c.args.message.now asked in
    stops_first course (λ next. looking all next first.message (judged strange all.window all.sent next first)) all
    (λ told. g.L.LiveLines.Told c.args.lines.now told c.go_on.new.lines) asked c.in-Err.why
    (g.S.SentSource.left c.go_on.new.source)
    (looked_later all course.step.state.front first.message.hart first.message.number course.asked)
    (c.in-Err.ensures all read asked state right stands was)
