-- The clauses hold for any harts, which the search does not instantiate.
use Rattle.std.proofs.Common.{◌≡◌, ◌+◌, ◌-◌, arith, subst}
use Rattle.rvclass.specs.Fetch.{words_of}
use Rattle.stimulus.specs.Mixed.{after_turns}
use Rattle.stimulus.specs.Order.{drawn_of}
use Rattle.stimulus.specs.steps.Sending.{AllSend}
use Rattle.stimulus.proofs.CaptureLemmas.{closing_begun, sending_begun, turned_more, turned_none}
use Rattle.stimulus.proofs.SendLemmas.{all_begun}
use Rattle.stimulus.proofs.capturing.send_mixed.Goals as goal

pub loop-init : goal.loop-init
loop-init g c = λ plan sent are.
    turned_none (words_of c.args.program.now) plan (sent, drawn_of c.args.order.now) c.args.senders.now.items
    (g.W.Write.contents c.args.sink.now) are

pub loop-preserved : goal.loop-preserved
loop-preserved g c = λ plan sent are.
    let words = words_of c.args.program.now in
    let contents = g.W.Write.contents in
    let turned = c.loop.invariant plan sent are in
    let one = c.in_ok-finish_one.ensures.sent plan _ turned.sent.sent in
    turned_more words plan (sent, drawn_of c.args.order.now) c.loop.counter (drawn_of c.loop.order)
    (drawn_of c.next-turn.new.self) c.next-turn.result c.loop.senders.items c.finish_one.new.senders.items
    c.send_one.new.senders.items (contents c.args.sink.now) (contents c.loop.sink) (contents c.finish_one.new.sink)
    (contents c.send_one.new.sink) turned c.next-turn.ensures one (c.in_ok-send_one.ensures.sent plan _ one.sent)

pub returns-clause-sent : goal.returns-clause-sent
returns-clause-sent g c = λ plan sent are.
    let words = words_of c.args.program.now in
    let all : c.loop.counter ≡ c.args.count = omega arith in
    subst (λ n. AllSend words plan sent (after_turns words plan (sent, drawn_of c.args.order.now) n).0
    c.loop.senders.items (g.W.Write.contents c.args.sink.now) (g.W.Write.contents c.loop.sink)) all
    (c.loop.invariant plan sent are).sent

pub returns-clause-begun : goal.returns-clause-begun
returns-clause-begun g c = λ plan sent are.
    let words = words_of c.args.program.now in
    all_begun words plan sent (after_turns words plan (sent, drawn_of c.args.order.now) c.args.count).0
    c.loop.senders.items (g.W.Write.contents c.args.sink.now) (g.W.Write.contents c.loop.sink)
    (returns-clause-sent g c plan sent are)

pub returns-in_err-finish_one-clause-begun : goal.returns-in_err-finish_one-clause-begun
returns-in_err-finish_one-clause-begun g c = λ plan sent are.
    let contents = g.W.Write.contents in
    let words = words_of c.args.program.now in
    let turned = c.loop.invariant plan sent are in
    let test = c.loop-test.true in
    closing_begun words plan (sent, drawn_of c.args.order.now) c.loop.counter (drawn_of c.loop.order)
    (drawn_of c.next-turn.new.self) c.next-turn.result c.loop.senders.items c.finish_one.new.senders.items
    c.finish_one.new.senders.items (contents c.args.sink.now) (contents c.loop.sink) (contents c.finish_one.new.sink)
    (contents c.finish_one.new.sink) turned c.next-turn.ensures c.args.count (c.args.count - (c.loop.counter + 1))
    (omega (arith, test)) (c.finish_one.ensures.begun plan _ turned.sent.sent)

pub returns-in_err-send_one-clause-begun : goal.returns-in_err-send_one-clause-begun
returns-in_err-send_one-clause-begun g c = λ plan sent are.
    let contents = g.W.Write.contents in
    let words = words_of c.args.program.now in
    let turned = c.loop.invariant plan sent are in
    let one = c.in_ok-finish_one.ensures.sent plan _ turned.sent.sent in
    let test = c.loop-test.true in
    sending_begun words plan (sent, drawn_of c.args.order.now) c.loop.counter (drawn_of c.loop.order)
    (drawn_of c.next-turn.new.self) c.next-turn.result c.loop.senders.items c.finish_one.new.senders.items
    c.send_one.new.senders.items (contents c.args.sink.now) (contents c.loop.sink) (contents c.finish_one.new.sink)
    (contents c.send_one.new.sink) turned c.next-turn.ensures c.args.count (c.args.count - (c.loop.counter + 1))
    (omega (arith, test)) one (c.send_one.ensures.begun plan _ one.sent)
