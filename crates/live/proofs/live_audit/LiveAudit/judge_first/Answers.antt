-- What is beyond waits: by lemmas on steps, which no tactic finds.
use Rattle.std.proofs.Common.{List, Ok, subst, sym}
use Rattle.live.specs.Auditing.{GoesTo, LiveHolding}
use Rattle.live.specs.Lines.{Line}
use Rattle.live.specs.Live.{judged as look_up, stays, waits}
use Rattle.live.specs.steps.Advancing.{IsJudged}
use Rattle.live.proofs.Settling.{first_waits}
use Rattle.live.proofs.live_audit.LiveAudit.judge_first.Goals as goal

pub returns-in-Ok-true : goal.returns-in-Ok-true
returns-in-Ok-true g c = λ all read asked state right stands was within.
    let left = g.S.SentSource.left c.judge.new.source in
    let one = c.args.one in
    let Told : List Line → Type 0 = λ told. g.L.LiveLines.Told c.args.lines.now told c.judge.new.lines in
    let judged =
    subst (λ b. IsJudged all Told asked state one (Ok b) c.judge.new.self left) c.in-Ok-true.field-0-test
    (c.in-Ok-true.ensures all read asked state right stands was) in
    let own : LiveHolding =
    record { window = c.self.inside.window; waiting = c.self.inside.waiting.items; runs = c.self.inside.runs.items } in
    let goes : GoesTo all judged.1.0 Told (stays state) own left =
    subst (λ o. GoesTo all judged.1.0 Told (stays state) o left) (sym c.self.view_is) judged.1.1 in (
      judged.1.0,
      subst (λ w. GoesTo all judged.1.0 Told (look_up waits all.window all.sent state one) (record own { waiting = w }) left)
          (sym c.wait.ensures) (first_waits all judged.1.0 Told state one own left judged.0 goes within),
      judged.1.2,
    )

pub returns-in-Ok-false : goal.returns-in-Ok-false
returns-in-Ok-false g c = λ all read asked state right stands was within.
    let left = g.S.SentSource.left c.judge.new.source in
    subst (λ b. IsJudged all (λ told. g.L.LiveLines.Told c.args.lines.now told c.judge.new.lines) asked state c.args.one (Ok b)
    c.judge.new.self left) c.in-Ok-false.field-0-test (c.in-Ok-false.ensures all read asked state right stands was) waits

pub returns-in-Err : goal.returns-in-Err
returns-in-Err g c = λ all read asked state right stands was within. c.in-Err.ensures all read asked state right stands was waits
