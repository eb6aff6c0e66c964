-- No message is of a hart that is not known: by a lemma on SENT, which no tactic finds.
use Rattle.std.proofs.Common.{◌≡◌, ◌∙◌, subst, sym}
use Rattle.live.specs.Auditing.{LiveHolding, Stands}
use Rattle.live.specs.steps.Advancing.{ReadsNext}
use Rattle.live.proofs.Ending.{reads_sent}
use Rattle.live.proofs.live_audit.LiveAudit.read_sent.Goals as goal

pub returns : goal.returns
returns g c = λ all read state right stood.
    let left = g.S.SentSource.left c.args.source.now in
    let after = g.S.SentSource.left c.read_next.new.source in
    let own : LiveHolding =
    record { window = c.self.inside.window; waiting = c.self.inside.waiting.items; runs = c.self.inside.runs.items } in
    let stands : Stands all read state own left = subst (λ o. Stands all read state o left) (sym c.self.view_is) stood in
    let harts : c.len-harts.result ≡ all.harts = c.len-harts.ensures ∙ c.self.inside.waiting.ok.0 ∙ stands.waits in
    reads_sent all right read (λ told. g.L.LiveLines.Told c.args.lines.now told c.read_next.new.lines) state
    c.read_next.result c.read_next.new.self after
    (subst (λ h. ReadsNext all read (λ told. g.L.LiveLines.Told c.args.lines.now told c.read_next.new.lines) state h 0
    c.read_next.result c.read_next.new.self after) harts (c.read_next.ensures all read state right stood))
