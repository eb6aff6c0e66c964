-- Whether the path was out is asked of what is held of SENT: the rest stays, which no tactic finds.
use Rattle.std.proofs.Common.{subst, sym}
use Rattle.live.specs.Auditing.{LiveHolding, Stands}
use Rattle.live.specs.Course.{doubted_to}
use Rattle.live.specs.Live.{is_outage}
use Rattle.live.proofs.Settling.{found_asked}
use Rattle.live.proofs.live_audit.LiveAudit.is_outage.Goals as goal

pub returns : goal.returns
returns g c = λ all read asked state right stood was.
    let left = g.S.SentSource.left c.args.source.now in
    let own : LiveHolding =
    record { window = c.self.inside.window; waiting = c.self.inside.waiting.items; runs = c.self.inside.runs.items } in
    let stands : Stands all read state own left = subst (λ o. Stands all read state o left) (sym c.self.view_is) stood in
    found_asked all asked (doubted_to all state c.args.first.now c.args.second.now asked) read state own left stands (is_outage all.window all.sent state c.args.first.now c.args.second.now)
    c.is_outage.result c.is_outage.new.window (g.S.SentSource.left c.is_outage.new.source)
    (c.is_outage.ensures all read asked state right stands.reads was)
