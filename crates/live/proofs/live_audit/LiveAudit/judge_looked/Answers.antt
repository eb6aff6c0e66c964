-- A message is decided: by lemmas on what is held, which no tactic finds.
use Rattle.std.proofs.Common.{[], ◌∷◌, drop, subst, sym, take}
use Rattle.live.specs.Auditing.{LiveHolding, Stands}
use Rattle.live.specs.Holds.{came_by}
use Rattle.live.specs.Lines.{Decided}
use Rattle.live.specs.Live.{finds, passes_all}
use Rattle.live.specs.View.{standing_of}
use Rattle.live.proofs.Judges.{found_changed, judged_found, judged_late, judged_undecided}
use Rattle.live.proofs.Steps.{goes_as, goes_then}
use Rattle.live.proofs.live_audit.LiveAudit.judge_looked.Goals as goal

pub returns-in-TooLate : goal.returns-in-TooLate
returns-in-TooLate g c = λ all read asked state left right stood settled was beyond.
    let some = take read all.sent in
    let own : LiveHolding = record {
      window = c.self.inside.window;
      waiting = c.self.inside.waiting.items;
      runs = c.self.inside.runs.items;
    } in
    let stands : Stands all read state own left = subst (λ o. Stands all read state o left) (sym c.self.view_is) stood in (
      read,
      judged_late all right read state own left stands c.args.one.now settled c.judge.new.self
          (c.judge.ensures.taken some state.came state.front stands.reads.holds) c.judge.ensures.window
          c.judge.ensures.harts c.judge.ensures.by (c.in-TooLate.ensures.judged some state.came state.front stands.reads.holds)
          (λ told. g.L.LiveLines.Told c.args.lines.now told c.too_late.new.self) c.too_late.ensures beyond,
      was,
    )

pub returns-in-Undecided : goal.returns-in-Undecided
returns-in-Undecided g c = λ all read asked state left right stood settled was.
    let some = take read all.sent in
    let own : LiveHolding = record {
      window = c.self.inside.window;
      waiting = c.self.inside.waiting.items;
      runs = c.self.inside.runs.items;
    } in
    let stands : Stands all read state own left = subst (λ o. Stands all read state o left) (sym c.self.view_is) stood in
    let same =
    judged_undecided all right read state own left stands c.args.one.now settled c.judge.new.self
    (c.judge.ensures.taken some state.came state.front stands.reads.holds) c.judge.ensures.window c.judge.ensures.harts c.judge.ensures.by
    (c.in-Undecided.ensures.judged some state.came state.front stands.reads.holds) in
    (same.0, (read, record { stands = same.1; told = g.met.L.LiveLines.nothing c.args.lines.now }, was))

pub returns-in-Found : goal.returns-in-Found
returns-in-Found g c = λ all read asked state left right stood settled was beyond.
    let some = take read all.sent in
    let one = c.args.one.now in
    let own : LiveHolding = record {
      window = c.self.inside.window;
      waiting = c.self.inside.waiting.items;
      runs = c.self.inside.runs.items;
    } in
    let stands : Stands all read state own left = subst (λ o. Stands all read state o left) (sym c.self.view_is) stood in
    let found =
    judged_found all right read state own left stands one settled c.judge.new.self
    (c.judge.ensures.taken some state.came state.front stands.reads.holds) c.judge.ensures.window c.judge.ensures.harts c.judge.ensures.by
    c.in-Found.finding c.in-Found.ahead (c.in-Found.ensures.judged some state.came state.front stands.reads.holds) in
    let first = finds all.sent state one c.in-Found.finding in
    let told =
    subst (λ p. g.L.LiveLines.Told c.args.lines.now (Decided one c.in-Found.finding p ∷ []) c.decided.new.self)
    (found_changed all right read state own left stands one c.in-Found.finding c.in-Found.ahead
    (c.in-Found.ensures.judged some state.came state.front stands.reads.holds) c.judge.new.self.window
    c.judge.ensures.window _
    (λ place. c.changed_from.ensures some (came_by state.came one.message (standing_of own.window.window some state.front
    one.message.hart one.message.number)) state.front place
    (c.judge.ensures.taken some state.came state.front stands.reads.holds))) c.decided.ensures in (
      read,
      goes_as all read (λ told. g.L.LiveLines.Told c.args.lines.now told c.pass_all.new.lines) _ _ c.pass_all.new.self left
          (sym (found.2 beyond))
          (goes_then _ g.L.LiveLines.Told g.met.L.LiveLines.joined all c.args.lines.now c.decided.new.self
          c.pass_all.new.lines first
          (λ next. passes_all all.window all.sent next (take c.in-Found.ahead (drop next.front all.sent))) read
          c.pass_all.new.self left told
          (c.pass_all.ensures all read first.state left right found.0 found.1)),
      was,
    )
