-- RECEIVED ends: by lemmas on steps, which no tactic finds.
use Rattle.std.proofs.Common.{◌≡◌, ◌≤◌, ◌∙◌, ℕ, arith, length, subst, sym}
use Rattle.live.specs.Auditing.{Goes, GoesTo, LiveHolding, Stands, Stops}
use Rattle.live.specs.Course.{moves_near}
use Rattle.live.specs.Live.{Step, finished}
use Rattle.live.specs.steps.Advancing.{NoneBefore, reaching}
use Rattle.live.proofs.Ending.{asks_all, ends_on, ends_stopped, none_known, reads_all}
use Rattle.live.proofs.Following.{asked_read}
use Rattle.live.proofs.live_audit.LiveAudit.end.Goals as goal

whole_length : (count : ℕ) → count ≤ count
whole_length count = omega arith

pub returns-in-Ok : goal.returns-in-Ok
returns-in-Ok g c = λ all read state right stood.
    let left = g.S.SentSource.left c.args.source.now in
    let after = g.S.SentSource.left c.read_on.new.source in
    let own : LiveHolding =
    record { window = c.self.inside.window; waiting = c.self.inside.waiting.items; runs = c.self.inside.runs.items } in
    let stands : Stands all read state own left = subst (λ o. Stands all read state o left) (sym c.self.view_is) stood in
    let harts : c.len-harts.result ≡ all.harts = c.len-harts.ensures ∙ c.self.inside.waiting.ok.0 ∙ stands.waits in
    let within = stands.reads.within in
    let on =
    subst (λ h. Goes all (λ told. g.L.LiveLines.Told c.args.lines.now told c.read_on.new.lines) (reaching all state h 0 read)
    c.read_on.new.self after) harts
    (c.in-Ok.ensures all read read state right stood (asked_read all read within)
    (subst (λ h. NoneBefore all read h 0) (sym harts) (none_known all right read 0))) in
    let up = asks_all all right 0 in
    let now = on.2.count in
    let to : on.0 ≡ length all.sent = omega (arith, up, now, within) in
    let near = moves_near all (length all.sent) state in
    let goes : GoesTo all (length all.sent) (λ told. g.L.LiveLines.Told c.args.lines.now told c.read_on.new.lines) near
    c.read_on.new.self after =
    subst (λ n. GoesTo all n (λ told. g.L.LiveLines.Told c.args.lines.now told c.read_on.new.lines) near c.read_on.new.self
    after) to
    (subst (λ n. GoesTo all on.0 (λ told. g.L.LiveLines.Told c.args.lines.now told c.read_on.new.lines)
    (moves_near all n state) c.read_on.new.self after) (reads_all all right 0) on.1) in (
      subst (λ (step : Step). g.L.LiveLines.Told c.args.lines.now step.lines c.finish.new.lines) (sym (ends_on all state (length all.sent) (whole_length (length all.sent))))
          (g.met.L.LiveLines.joined c.args.lines.now c.read_on.new.lines c.finish.new.lines near.lines
          (finished all.harts all.window all.sent near.state).lines goes.told
          (c.finish.ensures all near.state after right goes.stands)),
      on.2.ended (omega (arith, up, within)),
    )

pub returns-in-Err : goal.returns-in-Err
returns-in-Err g c = λ all read state right stood.
    let left = g.S.SentSource.left c.args.source.now in
    let after = g.S.SentSource.left c.read_on.new.source in
    let own : LiveHolding =
    record { window = c.self.inside.window; waiting = c.self.inside.waiting.items; runs = c.self.inside.runs.items } in
    let stands : Stands all read state own left = subst (λ o. Stands all read state o left) (sym c.self.view_is) stood in
    let harts : c.len-harts.result ≡ all.harts = c.len-harts.ensures ∙ c.self.inside.waiting.ok.0 ∙ stands.waits in
    ends_stopped all right read stands.reads.within (λ told. g.L.LiveLines.Told c.args.lines.now told c.read_on.new.lines) state
    c.in-Err.why after
    (subst (λ h. Stops all (λ told. g.L.LiveLines.Told c.args.lines.now told c.read_on.new.lines) read
    (reaching all state h 0 read) c.in-Err.why after) harts
    (c.in-Err.ensures all read read state right stood (asked_read all read stands.reads.within)
    (subst (λ h. NoneBefore all read h 0) (sym harts) (none_known all right read 0))))
