-- One message more is read: by lemmas on steps, which no tactic finds.
use Rattle.std.proofs.Common.{◌+◌, ◌∙◌, inl, List, Ok, subst, sym, take}
use Rattle.live.specs.Auditing.{LiveHolding, Stands}
use Rattle.live.specs.Course.{moves_near}
use Rattle.live.specs.Lines.{Line}
use Rattle.live.specs.steps.Advancing.{MakesPlace}
use Rattle.live.specs.steps.Looking.{IsNextSent}
use Rattle.live.proofs.ReadingOn.{read_last}
use Rattle.live.proofs.live_audit.LiveAudit.read_next.Goals as goal

pub returns-in-Ok-Some : goal.returns-in-Ok-Some
returns-in-Ok-Some g c = λ all read state right stood.
    let left = g.S.SentSource.left c.args.source.now in
    let after = g.S.SentSource.left c.next_sent.new.source in
    let own : LiveHolding =
    record { window = c.self.inside.window; waiting = c.self.inside.waiting.items; runs = c.self.inside.runs.items } in
    let stands : Stands all read state own left = subst (λ o. Stands all read state o left) (sym c.self.view_is) stood in
    let Told : List Line → Type 0 = λ told. g.L.LiveLines.Told c.args.lines.now told c.make_place.new.lines in
    let next =
    subst (λ o. IsNextSent all read own.window (Ok o) after) c.in-Ok-Some.field-0-is
    (c.in-Ok-Some.ensures all read state.came state.front right stands.reads) in
    let placed : LiveHolding = record {
      window = c.self-in-Ok-Some.inside.window;
      waiting = c.self-in-Ok-Some.inside.waiting.items;
      runs = c.self-in-Ok-Some.inside.runs.items;
    } in
    let place : MakesPlace all read Told state placed left =
    subst (λ o. MakesPlace all read Told state o left) (sym c.self-in-Ok-Some.view_is)
    (c.make_place.ensures all read state left right stood) in
    let moved = (moves_near all (read + 1) state).state in
    read_last all right read state own left stands c.in-Ok-Some.message next.2 Told placed place after
    c.read_placed.new.window next.0 next.1 c.args.hart c.args.number c.read_placed.result
    (c.read_placed.ensures.read (take read all.sent) moved.came moved.front place.0.stands.reads.holds)
    c.read_placed.ensures.window c.read_placed.ensures.harts c.read_placed.ensures.by

pub returns-in-Ok-None : goal.returns-in-Ok-None
returns-in-Ok-None g c = λ all read state right stood.
    let left = g.S.SentSource.left c.args.source.now in
    let after = g.S.SentSource.left c.next_sent.new.source in
    let own : LiveHolding =
    record { window = c.self.inside.window; waiting = c.self.inside.waiting.items; runs = c.self.inside.runs.items } in
    let stands : Stands all read state own left = subst (λ o. Stands all read state o left) (sym c.self.view_is) stood in
    let next =
    subst (λ o. IsNextSent all read own.window (Ok o) after) c.in-Ok-None.field-0-is
    (c.in-Ok-None.ensures all read state.came state.front right stands.reads) in
    inl (
      next.0,
      record {
        stands = subst (λ l. Stands all read state c.args.self.now l) (stands.reads.remains ∙ sym next.1) stood;
        told = g.met.L.LiveLines.nothing c.args.lines.now;
      },
      next.2,
    )

pub returns-in-Err : goal.returns-in-Err
returns-in-Err g c = λ all read state right stood.
    let left = g.S.SentSource.left c.args.source.now in
    let own : LiveHolding =
    record { window = c.self.inside.window; waiting = c.self.inside.waiting.items; runs = c.self.inside.runs.items } in
    let stands : Stands all read state own left = subst (λ o. Stands all read state o left) (sym c.self.view_is) stood in
    let fails = c.in-Err.ensures all read state.came state.front right stands.reads in
    (fails.0, fails.1, g.met.L.LiveLines.nothing c.args.lines.now)
