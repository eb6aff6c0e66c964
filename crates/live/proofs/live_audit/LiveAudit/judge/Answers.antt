-- A message is looked up: by lemmas on what was read, which no tactic finds.
use Rattle.std.proofs.Common.{refl, subst, sym}
use Rattle.live.specs.Auditing.{LiveHolding, Stands}
use Rattle.live.specs.Course.{looking}
use Rattle.live.specs.Live.{judged}
use Rattle.live.proofs.Following.{fails_again, looked_again}
use Rattle.live.proofs.Steps.{stops_at_once}
use Rattle.live.proofs.Widening.{stands_looked}
use Rattle.live.proofs.live_audit.LiveAudit.judge.Goals as goal

pub returns-in-Ok : goal.returns-in-Ok
returns-in-Ok g c = λ all read asked state right stood was.
    let left = g.S.SentSource.left c.args.source.now in
    let after = g.S.SentSource.left c.look.new.source in
    let one = c.args.one.now in
    let own : LiveHolding = record {
      window = c.self.inside.window;
      waiting = c.self.inside.waiting.items;
      runs = c.self.inside.runs.items;
    } in
    let stands : Stands all read state own left = subst (λ o. Stands all read state o left) (sym c.self.view_is) stood in
    let looked = c.in-Ok.ensures all read state.came state.front right stands.reads in
    c.judge_looked.ensures all looked.read asked state after right
    (stands_looked all read state own left stands one.message.hart one.message.number c.look.new.window after looked)
    looked.settled
    (looked_again all asked read was state.front one.message.hart one.message.number looked.read looked.was)

pub returns-in-Err : goal.returns-in-Err
returns-in-Err g c = λ all read asked state right stood was beyond.
    let left = g.S.SentSource.left c.args.source.now in
    let after = g.S.SentSource.left c.look.new.source in
    let one = c.args.one.now in
    let own : LiveHolding =
    record { window = c.self.inside.window; waiting = c.self.inside.waiting.items; runs = c.self.inside.runs.items } in
    let stands : Stands all read state own left = subst (λ o. Stands all read state o left) (sym c.self.view_is) stood in
    stops_at_once all (λ told. g.L.LiveLines.Told c.args.lines.now told c.args.lines.now) asked
    (looking all state one.message (judged beyond all.window all.sent state one) asked) c.in-Err.why after
    (fails_again all asked read was state.front one.message.hart one.message.number c.in-Err.why after
    (c.in-Err.ensures all read state.came state.front right stands.reads).fails) refl
    (g.met.L.LiveLines.nothing c.args.lines.now)
