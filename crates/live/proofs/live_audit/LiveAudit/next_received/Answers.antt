-- The next of RECEIVED is read by what is held of SENT: the rest stays, which no tactic finds.
use Rattle.std.proofs.Common.{subst, sym}
use Rattle.live.specs.Auditing.{LiveHolding, Stands}
use Rattle.live.specs.ReceivedLeft.{sought_to}
use Rattle.live.proofs.ReceivedStands.{stands_on}
use Rattle.live.proofs.live_audit.LiveAudit.next_received.Goals as goal

pub returns-clause-span : goal.returns-clause-span
returns-clause-span g c = λ all read state rest right stood left fits.
    let own : LiveHolding =
    record { window = c.self.inside.window; waiting = c.self.inside.waiting.items; runs = c.self.inside.runs.items } in
    let stands : Stands all read state own (g.S.SentSource.left c.args.source.now) =
    subst (λ o. Stands all read state o (g.S.SentSource.left c.args.source.now)) (sym c.self.view_is) stood in
    c.next.ensures.span all state.came state.front read rest right stands.reads left fits

pub returns-clause-stands : goal.returns-clause-stands
returns-clause-stands g c = λ all read state rest right stood left fits.
    let own : LiveHolding =
    record { window = c.self.inside.window; waiting = c.self.inside.waiting.items; runs = c.self.inside.runs.items } in
    let stands : Stands all read state own (g.S.SentSource.left c.args.source.now) =
    subst (λ o. Stands all read state o (g.S.SentSource.left c.args.source.now)) (sym c.self.view_is) stood in
    stands_on all read state own (g.S.SentSource.left c.args.source.now) stands rest (sought_to c.args.received.now c.next.new.self)
    c.next.result c.next.new.window
    (g.S.SentSource.left c.next.new.source)
    (c.next.ensures.follows all state.came state.front read rest right stands.reads left fits)

pub returns-clause-receives : goal.returns-clause-receives
returns-clause-receives g c = λ harts receives. c.next.ensures.receives harts receives
