-- The front goes on by one: by lemmas on what is held, which no tactic finds.
use Rattle.std.proofs.Common.{◌+◌, List, subst, sym, take}
use Rattle.live.specs.Auditing.{GoesTo, LiveHolding}
use Rattle.live.specs.Lines.{Line}
use Rattle.live.specs.Live.{gives, met}
use Rattle.live.proofs.Meets.{pass_counted, pass_none, pass_some, pass_within}
use Rattle.live.proofs.live_audit.LiveAudit.pass.Goals as goal

pub returns-in-Some : goal.returns-in-Some
returns-in-Some g c = λ all read state left message right stands before is.
    let some = take read all.sent in
    let own : LiveHolding =
    record {
      window = c.self.inside.window;
      waiting = c.self.inside.waiting.items;
      runs = c.self.inside.runs.items;
    } in
    let Told : List Line → Type 0 = λ told. g.L.LiveLines.Told c.args.lines.now told c.meet.new.lines in
    let goes : GoesTo all read Told (met all.sent state message (state.waiting message.hart)) own left =
    subst (λ o. GoesTo all read Told (met all.sent state message (state.waiting message.hart)) o left)
    (sym c.self.view_is) (c.meet.ensures all read state left message right stands before is) in
    let first = met all.sent state message (state.waiting message.hart) in
    let now = first.state in
    let moved = record now { front = state.front + 1 } in
    let within = pass_within all right read state left message before own Told goes in
    let holds = c.pass.ensures.passed some now.came now.front goes.stands.reads.holds within in
    let given = c.pass.ensures.given some now.came now.front goes.stands.reads.holds within in
    let slot = c.in-Some.slot in
    let counted =
    pass_counted all right read state left message before own Told goes c.pass.new.self holds c.pass.ensures.window
    c.pass.ensures.harts c.pass.ensures.by c.pass.result given slot c.in-Some.is in
    let gave = c.give.ensures.given moved goes.stands.runs counted in
    pass_some all right read state left message before own Told goes c.pass.new.self holds c.pass.ensures.window
    c.pass.ensures.harts c.pass.ensures.by c.pass.result given slot c.in-Some.is c.give.new.runs.items c.give.ensures.count gave.1
    (λ told. g.L.LiveLines.Told c.args.lines.now told c.give.new.lines)
    (g.met.L.LiveLines.joined c.args.lines.now c.meet.new.lines c.give.new.lines first.lines
    (gives moved slot).lines goes.told gave.0)

pub returns-in-None : goal.returns-in-None
returns-in-None g c = λ all read state left message right stands before is.
    let some = take read all.sent in
    let own : LiveHolding =
    record {
      window = c.self.inside.window;
      waiting = c.self.inside.waiting.items;
      runs = c.self.inside.runs.items;
    } in
    let Told : List Line → Type 0 = λ told. g.L.LiveLines.Told c.args.lines.now told c.meet.new.lines in
    let goes : GoesTo all read Told (met all.sent state message (state.waiting message.hart)) own left =
    subst (λ o. GoesTo all read Told (met all.sent state message (state.waiting message.hart)) o left)
    (sym c.self.view_is) (c.meet.ensures all read state left message right stands before is) in
    let now = (met all.sent state message (state.waiting message.hart)).state in
    let within = pass_within all right read state left message before own Told goes in
    let holds = c.pass.ensures.passed some now.came now.front goes.stands.reads.holds within in
    let given = c.pass.ensures.given some now.came now.front goes.stands.reads.holds within in
    pass_none all right read state left message before own Told goes c.pass.new.self holds c.pass.ensures.window
    c.pass.ensures.harts c.pass.ensures.by c.pass.result given c.in-None.is
