-- Each message is taken behind those before it: by lemmas on lists, which no tactic finds.
use Rattle.std.proofs.Common.{[], ◌≤◌, ◌∷◌, ◌++◌, take, length, sym, ap, subst, ◌∙◌, arith}
use Rattle.std.proofs.lemmas.List.{length-replicate, take_all, take_more}
use Rattle.std.proofs.lemmas.Result.{err_from_is_err_and}
use Rattle.std.specs.Prelude.{IsOk}
use Rattle.rvclass.specs.Fetch.{words_of}
use Rattle.message.specs.Accepted.{newcomers}
use Rattle.message.specs.Harts.{newcomer}
use Rattle.message.specs.Lossy.{accepting_lossy, harts_after_lossy}
use Rattle.losses.specs.Stops.{AreAcceptedLossy, expected_lossy}
use Rattle.losses.specs.steps.Taking.{Collects}
use Rattle.losses.proofs.AllRuns.{each_hart_describes, every_hart_first}
use Rattle.losses.proofs.InTurn.{expected-push, length-harts_after, stops_at, taken-push}
use Rattle.losses.proofs.collecting.take_all.Goals as goal

pub loop-place-init : goal.loop-place-init
loop-place-init g c =
    let made = c.in_ok-collection.collection in
    let new = c.in_ok-collection.ensures in
    let count = ap length new.demux ∙ length-replicate c.args.harts newcomer in
    record {
      each_hart = record { traces = new.traces_count ∙ sym count; pieces = new.pieces_count ∙ sym count };
      count = count;
      of_any = every_hart_first (words_of c.args.program.now) c.args.mode c.args.harts made.demux made.traces.items
          made.pieces.items new.demux new.traces new.pieces;
      accepted = tt;
      expected = new.demux;
    }

pub returns-in_err-take : goal.returns-in_err-take
returns-in_err-take g c =
    let words = words_of c.args.program.now in
    let front = take c.loop-place.place c.args.messages.now in
    let before = c.loop-place.collection in
    let inv = c.loop-place.invariant in
    let made = err_from_is_err_and c.from_residual-in_err-take.result c.from_residual-in_err-take.ensures.1 in
    rw (made.1, made.2) (stops_at words c.args.mode c.args.harts c.args.messages.now c.loop-place.place
    c.index-messages-place.result before.demux c.loop-place-test.true c.index-messages-place.is inv.expected
    inv.accepted c.in_err-take.field-0.0 c.in_err-take.ensures.fault
    (c.in_err-take.ensures.takes.of_any front inv.of_any)
    (each_hart_describes words c.args.mode c.args.harts front before.demux before.traces.items before.pieces.items
    inv.of_any inv.count (inv.each_hart.traces ∙ inv.count) (inv.each_hart.pieces ∙ inv.count)))

pub loop-place-preserved : goal.loop-place-preserved
loop-place-preserved g c =
    let messages = c.args.messages.now in
    let place = c.loop-place.place in
    let message = c.index-messages-place.result in
    let inv = c.loop-place.invariant in
    let harts = newcomers c.args.harts in
    let front = take place messages in
    let more = take_more messages place message c.loop-place-test.true
    ∙ ap (λ m. front ++ m ∷ []) (sym c.index-messages-place.is) in
    let took = c.in_ok-take.ensures in
    record {
      each_hart = took.each_hart;
      count = ap length took.expected ∙ length-harts_after c.loop-place.collection.demux message ∙ inv.count;
      of_any = subst (λ ms. Collects c.args.program.now c.args.mode ms c.take.new.self) (sym more)
          (took.takes.of_any front inv.of_any);
      accepted = subst (AreAcceptedLossy harts) (sym more) (taken-push harts front message inv.accepted
          (subst (λ hs. IsOk (accepting_lossy hs message)) inv.expected took.accepted));
      expected = took.expected ∙ ap (λ hs. harts_after_lossy hs message) inv.expected
          ∙ sym (expected-push harts front message) ∙ ap (expected_lossy harts) (sym more);
    }

pub returns : goal.returns
returns g c =
    let inv = c.loop-place.invariant in
    let end = c.loop-place-test.false in
    let past : length c.args.messages.now ≤ c.loop-place.place = omega (arith, end) in
    let whole = take_all c.loop-place.place c.args.messages.now past in
    record {
      of_any = subst (λ ms. Collects c.args.program.now c.args.mode ms c.loop-place.collection) whole inv.of_any;
      each_hart = inv.each_hart;
      count = inv.count;
      accepted = subst (AreAcceptedLossy (newcomers c.args.harts)) whole inv.accepted;
    }
