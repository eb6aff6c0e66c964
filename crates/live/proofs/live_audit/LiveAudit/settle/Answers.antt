-- What waits is taken: by lemmas on steps, which no tactic finds.
use Rattle.std.proofs.Common.{◌≡◌, ◌∙◌, None, Some, ap, subst, sym}
use Rattle.live.specs.Auditing.{Goes, LiveHolding, Stands, Went}
use Rattle.live.specs.Course.{settling}
use Rattle.live.specs.Live.{settles}
use Rattle.live.specs.declared.arrived.Arrived.{Arrived}
use Rattle.live.proofs.Settling.{settles_none, stands_settles}
use Rattle.live.proofs.live_audit.LiveAudit.settle.Goals as goal

pub returns-in-None : goal.returns-in-None
returns-in-None g c = λ all read asked state place right stood was.
    let hart = c.args.message.now.hart in
    let left = g.S.SentSource.left c.args.source.now in
    let one : Arrived = record { place = place; message = c.args.message.now } in
    let own : LiveHolding = record {
      window = c.self.inside.window;
      waiting = c.self.inside.waiting.items;
      runs = c.self.inside.runs.items;
    } in
    let stands : Stands all read state own left = subst (λ o. Stands all read state o left) (sym c.self.view_is) stood in
    let none : state.waiting hart ≡ None =
    sym (ap (λ w. w hart) stands.waiting) ∙ sym c.in-None.ensures.taken in
    let emptied =
    subst (λ w. Stands all read (settles state hart) (record own { waiting = w }) left)
    (sym c.take_waiting.ensures.rest) (stands_settles all read state own left stands hart) in
    subst (λ w. Goes all (λ told. g.L.LiveLines.Told c.args.lines.now told c.args.lines.now)
    (settling all state one w asked) (record own { waiting = c.take_waiting.new.waiting.items }) left)
    (sym none) (
      read,
      record {
        stands =
            subst (λ s. Stands all read s (record own { waiting = c.take_waiting.new.waiting.items }) left)
            (settles_none state hart none) emptied;
        told = g.met.L.LiveLines.nothing c.args.lines.now;
      },
      was,
    )

pub returns-in-Some : goal.returns-in-Some
returns-in-Some g c = λ all read asked state place right stood was.
    let hart = c.args.message.now.hart in
    let left = g.S.SentSource.left c.args.source.now in
    let one : Arrived = record { place = place; message = c.args.message.now } in
    let own : LiveHolding = record {
      window = c.self.inside.window;
      waiting = c.self.inside.waiting.items;
      runs = c.self.inside.runs.items;
    } in
    let stands : Stands all read state own left = subst (λ o. Stands all read state o left) (sym c.self.view_is) stood in
    let some : state.waiting hart ≡ Some c.in-Some.first =
    sym (ap (λ w. w hart) stands.waiting) ∙ sym c.in-Some.ensures.taken in
    let emptied =
    subst (λ w. Stands all read (settles state hart) (record own { waiting = w }) left)
    (sym c.take_waiting.ensures.rest) (stands_settles all read state own left stands hart) in
    subst (λ w. Went all (λ told. g.L.LiveLines.Told c.args.lines.now told c.settle_first.new.lines) asked
    (settling all state one w asked) c.settle_first.result c.settle_first.new.self
    (g.S.SentSource.left c.settle_first.new.source)) (sym some)
    (c.settle_first.ensures all read asked (settles state hart) right emptied was)
