-- What waits for the next message is decided: by lemmas on what is held, which no tactic finds.
use Rattle.std.proofs.Common.{◌∙◌, [], ◌∷◌, ap, subst, sym, take}
use Rattle.live.specs.Auditing.{GoesTo, LiveHolding, Stands}
use Rattle.live.specs.Holds.{came_by, judged_by}
use Rattle.live.specs.Lines.{Decided}
use Rattle.live.specs.Live.{met}
use Rattle.live.specs.View.{standing_of}
use Rattle.live.proofs.Judges.{found_changed}
use Rattle.live.proofs.Meets.{meets_none, meets_one, met_stands}
use Rattle.live.proofs.live_audit.LiveAudit.meet.Goals.{in-Found, in-TooLate, in-Undecided}
use Rattle.live.proofs.live_audit.LiveAudit.meet.Goals as goal

pub returns-in_default : goal.returns-in_default
returns-in_default g c = λ all read state left message right before_stands before is.
    let own : LiveHolding =
    record {
      window = c.self.inside.window;
      waiting = c.self.inside.waiting.items;
      runs = c.self.inside.runs.items;
    } in
    let stands : Stands all read state own left =
    subst (λ o. Stands all read state o left) (sym c.self.view_is) before_stands in
    subst (λ w. GoesTo all read (λ told. g.L.LiveLines.Told c.args.lines.now told c.args.lines.now)
    (met all.sent state message (state.waiting message.hart)) (record own { waiting = w }) left)
    (sym (c.take_met.ensures.rest _ c.next.ensures))
    (meets_none all right read state own left stands message before is
    (sym c.in_default.is ∙ c.take_met.ensures.taken _ c.next.ensures)
    (λ told. g.L.LiveLines.Told c.args.lines.now told c.args.lines.now) (g.met.L.LiveLines.nothing c.args.lines.now))

pub returns : goal.returns
returns g c = λ all read state left message right before_stands before is.
    let some = take read all.sent in
    let own : LiveHolding =
    record {
      window = c.self.inside.window;
      waiting = c.self.inside.waiting.items;
      runs = c.self.inside.runs.items;
    } in
    let stands : Stands all read state own left =
    subst (λ o. Stands all read state o left) (sym c.self.view_is) before_stands in
    let one = c.in-Some.one in
    let holds = stands.reads.holds in
    let taken = sym c.in-Some.is ∙ c.take_met.ensures.taken _ c.next.ensures in
    let its = c.judge.ensures.judged some state.came state.front holds in
    let at = met_stands all right read state own left stands message before is one taken in
    subst (λ w. GoesTo all read (λ told. g.L.LiveLines.Told c.args.lines.now told c.match-judge.lines)
    (met all.sent state message (state.waiting message.hart))
    (record own { window = c.judge.new.self; waiting = w }) left)
    (sym (c.take_met.ensures.rest _ c.next.ensures))
    (elim c.match-judge.branch [
      | in-Found w ↦
          rw w.lines-is
          (meets_one all right read state own left stands message before is one taken c.judge.new.self
          w.in-Found.finding w.in-Found.ahead (sym w.in-Found.is ∙ its) (c.judge.ensures.taken some state.came state.front holds)
          c.judge.ensures.window c.judge.ensures.harts c.judge.ensures.by
          (λ told. g.L.LiveLines.Told c.args.lines.now told w.decided.new.self)
          (subst (λ p. g.L.LiveLines.Told c.args.lines.now (Decided one w.in-Found.finding p ∷ []) w.decided.new.self)
          (found_changed all right read state own left stands one w.in-Found.finding w.in-Found.ahead (sym w.in-Found.is ∙ its)
          c.judge.new.self.window c.judge.ensures.window _
          (λ place. w.changed_from.ensures some (came_by state.came one.message (standing_of own.window.window some state.front
          one.message.hart one.message.number)) state.front place (c.judge.ensures.taken some state.came state.front holds)))
          w.decided.ensures))
      | in-TooLate w ↦
          let never =
          sym w.in-TooLate.is
          ∙ its
          ∙ ap (judged_by own.window.by own.window.window some state.came state.front one.message) at in
          cc
      | in-Undecided w ↦
          let never =
          sym w.in-Undecided.is
          ∙ its
          ∙ ap (judged_by own.window.by own.window.window some state.came state.front one.message) at in
          cc
    ])
