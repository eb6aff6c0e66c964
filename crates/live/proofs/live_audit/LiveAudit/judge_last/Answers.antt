-- What is beyond is a stranger: by lemmas on steps, which no tactic finds.
use Rattle.std.proofs.Common.{Ok, subst}
use Rattle.live.specs.Live.{strange}
use Rattle.live.specs.steps.Advancing.{IsJudged}
use Rattle.live.proofs.Settling.{last_strange}
use Rattle.live.proofs.live_audit.LiveAudit.judge_last.Goals as goal

pub returns-in-Ok-true : goal.returns-in-Ok-true
returns-in-Ok-true g c = λ all read asked state right stands was.
    let left = g.S.SentSource.left c.judge.new.source in
    let one = c.args.one.now in
    let judged =
    subst (λ b. IsJudged all (λ told. g.L.LiveLines.Told c.args.lines.now told c.judge.new.lines) asked state one (Ok b)
    c.judge.new.self left) c.in-Ok-true.field-0-test (c.in-Ok-true.ensures all read asked state right stands was) in (
      judged.1.0,
      last_strange _ g.L.LiveLines.Told g.met.L.LiveLines.joined all c.args.lines.now c.judge.new.lines c.decided.new.self
          judged.1.0 state one c.judge.new.self left judged.0 judged.1.1 c.decided.ensures,
      judged.1.2,
    )

pub returns-in-Ok-false : goal.returns-in-Ok-false
returns-in-Ok-false g c = λ all read asked state right stands was.
    let left = g.S.SentSource.left c.judge.new.source in
    subst (λ b. IsJudged all (λ told. g.L.LiveLines.Told c.args.lines.now told c.judge.new.lines) asked state c.args.one.now (Ok b)
    c.judge.new.self left) c.in-Ok-false.field-0-test (c.in-Ok-false.ensures all read asked state right stands was) strange

pub returns-in-Err : goal.returns-in-Err
returns-in-Err g c = λ all read asked state right stands was. c.in-Err.ensures all read asked state right stands was strange
