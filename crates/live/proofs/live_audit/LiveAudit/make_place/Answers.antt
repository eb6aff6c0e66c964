-- A place is made by passing one message: by lemmas on steps, which no tactic finds.
use Rattle.std.proofs.Common.{◌∙◌, ap, length, ltb, not, sym}
use Rattle.std.proofs.Common.{◌+◌}
use Rattle.live.specs.Auditing.{LiveHolding}
use Rattle.live.proofs.ReadingOn.{full_next, place_full, place_left, place_made, place_there}
use Rattle.live.proofs.live_audit.LiveAudit.make_place.Goals as goal

pub returns-then-not-is_full : goal.returns-then-not-is_full
returns-then-not-is_full g c = λ all read state left right stands.
    place_there all read state c.args.self.now left stands
    (λ told. g.L.LiveLines.Told c.args.lines.now told c.args.lines.now) (g.met.L.LiveLines.nothing c.args.lines.now)
    (place_left all read state c.args.self.now left stands
    (ap (λ (o : LiveHolding). not (ltb (length o.window.slots) (o.window.near + o.window.window))) (sym c.self.view_is)
    ∙ sym c.is_full.ensures ∙ c.if-not-is_full.true))

pub returns : goal.returns
returns g c = λ all read state left right stands.
    let full =
    place_full all read state c.args.self.now left stands
    (ap (λ (o : LiveHolding). not (ltb (length o.window.slots) (o.window.near + o.window.window))) (sym c.self.view_is)
    ∙ sym c.is_full.ensures ∙ c.if-not-is_full.false) in
    let next = full_next all read state c.args.self.now left stands full in
    place_made all read state c.args.self.now left stands
    (λ told. g.L.LiveLines.Told c.args.lines.now told c.pass.new.lines) c.pass.new.self next.0 full next.1
    (c.pass.ensures all read state left next.0 right stands next.2 next.1)
