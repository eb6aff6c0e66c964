-- The clauses hold for any messages before, which the search does not instantiate.
use Rattle.std.proofs.Common.{◌≡◌, ◌+◌, ◌-◌, ◌∙◌, arith, length, refl, subst, sym}
use Rattle.rvclass.specs.Fetch.{words_of}
use Rattle.stimulus.specs.Mixed.{after_closing, closes, goes}
use Rattle.stimulus.specs.steps.Sending.{AllBegun, AllSend}
use Rattle.stimulus.proofs.CaptureLemmas.{closing_grow, closing_more, closing_none}
use Rattle.stimulus.proofs.SendLemmas.{all_begun, all_both, all_stay, all_then_begun, begun_longer, closed_more}
use Rattle.stimulus.proofs.capturing.finish_all.Goals as goal

pub loop-place-init : goal.loop-place-init
loop-place-init g c = record {
  sent = λ plan sent are.
      let words = words_of c.args.program.now in
      let old = g.W.Write.contents c.args.sink.now in
      subst (λ after. AllSend words plan sent after c.args.senders.now.items old old)
      (sym (closing_none words plan sent)) (all_stay words plan sent c.args.senders.now.items old are);
  closed = λ hart below. let never : ⊥ = omega (arith, below) in absurd never;
  count = refl;
}

pub loop-place-preserved : goal.loop-place-preserved
loop-place-preserved g c =
    let words = words_of c.args.program.now in
    let contents = g.W.Write.contents in
    let place = c.loop-place.place in record {
      sent = λ plan sent are.
          let one = c.loop-place.invariant.sent plan sent are in
          let mid = after_closing words plan sent place in
          subst (λ after. AllSend words plan sent after c.finish_at.new.senders.items (contents c.args.sink.now)
          (contents c.finish_at.new.sink)) (closing_more words plan sent place)
          (all_both words plan sent mid (goes words plan closes place mid) c.loop-place.senders.items
          c.finish_at.new.senders.items (contents c.args.sink.now) (contents c.loop-place.sink)
          (contents c.finish_at.new.sink) one (c.in_ok-finish_at.ensures.sent plan _ one.sent));
      closed = closed_more c.loop-place.senders.items c.finish_at.new.senders.items c.loop-place.place
          c.loop-place.invariant.closed c.in_ok-finish_at.ensures.others c.in_ok-finish_at.ensures.closed;
      count = c.finish_at.ensures.count ∙ c.loop-place.invariant.count;
    }

pub returns-clause-sent : goal.returns-clause-sent
returns-clause-sent g c = λ plan sent are.
    let words = words_of c.args.program.now in
    let all : c.loop-place.place ≡ length c.args.senders.now.items = omega (arith, c.loop-place.invariant.count) in
    subst (λ n. AllSend words plan sent (after_closing words plan sent n) c.loop-place.senders.items
    (g.W.Write.contents c.args.sink.now) (g.W.Write.contents c.loop-place.sink)) all
    (c.loop-place.invariant.sent plan sent are)

pub returns-clause-begun : goal.returns-clause-begun
returns-clause-begun g c = λ plan sent are.
    let words = words_of c.args.program.now in
    all_begun words plan sent (after_closing words plan sent (length c.args.senders.now.items))
    c.loop-place.senders.items (g.W.Write.contents c.args.sink.now) (g.W.Write.contents c.loop-place.sink)
    (returns-clause-sent g c plan sent are)

pub returns-in_err-finish_at-clause-begun : goal.returns-in_err-finish_at-clause-begun
returns-in_err-finish_at-clause-begun g c = λ plan sent are.
    let words = words_of c.args.program.now in
    let contents = g.W.Write.contents in
    let place = c.loop-place.place in
    let harts = length c.args.senders.now.items in
    let one = c.loop-place.invariant.sent plan sent are in
    let mid = after_closing words plan sent place in
    begun_longer sent (after_closing words plan sent (place + 1)) (after_closing words plan sent harts)
    (contents c.args.sink.now) (contents c.finish_at.new.sink)
    (subst (λ after. AllBegun sent after (contents c.args.sink.now) (contents c.finish_at.new.sink))
    (closing_more words plan sent place)
    (all_then_begun words plan sent mid (goes words plan closes place mid) c.loop-place.senders.items
    (contents c.args.sink.now) (contents c.loop-place.sink) (contents c.finish_at.new.sink) one
    (c.finish_at.ensures.begun plan _ one.sent)))
    (closing_grow words plan sent (place + 1) (harts - (place + 1)) harts
    (omega (arith, c.loop-place-test.true, c.loop-place.invariant.count)))

pub returns-clause-closed : goal.returns-clause-closed
returns-clause-closed g c = λ hart below.
    c.loop-place.invariant.closed hart (omega (arith, below, c.loop-place.invariant.count))
