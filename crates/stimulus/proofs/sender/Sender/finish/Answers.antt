-- The clauses hold for any hart, which the search does not instantiate.
use Rattle.rvclass.specs.Fetch.{words_of}
use Rattle.stimulus.specs.Mixed.{has_turn}
use Rattle.stimulus.proofs.SendLemmas.{begun_none, first_begun, second_begun, sends_both, sends_none}
use Rattle.stimulus.proofs.TraceLemmas.{is_fresh}
use Rattle.stimulus.proofs.sender.Sender.finish.Goals as goal

pub returns-in_ok-send-in-Fresh-clause-sent : goal.returns-in_ok-send-in-Fresh-clause-sent
returns-in_ok-send-in-Fresh-clause-sent g c = λ plan hart stand has.
    let words = words_of c.args.program.now in
    let fresh = (is_fresh words plan hart stand c.args.self.now.tracer has.tracer c.in-Fresh.is).1 in
    let one = c.in_ok-send-in-Fresh.ensures.sent plan hart stand has in
    sends_both words plan hart stand fresh c.send.new.self c.close.new.self (g.W.Write.contents c.args.sink.now)
    (g.W.Write.contents c.send.new.sink) (g.W.Write.contents c.close.new.sink) c.close.result one.text
    (c.close.ensures.sent plan hart (has_turn stand) one.has)

pub returns-in-Closed-clause-sent : goal.returns-in-Closed-clause-sent
returns-in-Closed-clause-sent g c = λ plan hart stand has.
    sends_none (words_of c.args.program.now) plan hart stand c.args.self.now (g.W.Write.contents c.args.sink.now) has
    c.in-Closed.is

pub returns-in_err-send-in-Fresh-clause-begun : goal.returns-in_err-send-in-Fresh-clause-begun
returns-in_err-send-in-Fresh-clause-begun g c = λ plan hart stand has.
    let words = words_of c.args.program.now in
    let fresh = (is_fresh words plan hart stand c.args.self.now.tracer has.tracer c.in-Fresh.is).1 in
    first_begun words plan hart stand fresh c.send.new.self c.send.new.self (g.W.Write.contents c.args.sink.now)
    (g.W.Write.contents c.send.new.sink) (g.W.Write.contents c.send.new.sink)
    (c.send.ensures.begun plan hart stand has)

pub returns-in_ok-send-in-Fresh-clause-begun : goal.returns-in_ok-send-in-Fresh-clause-begun
returns-in_ok-send-in-Fresh-clause-begun g c = λ plan hart stand has.
    let words = words_of c.args.program.now in
    let fresh = (is_fresh words plan hart stand c.args.self.now.tracer has.tracer c.in-Fresh.is).1 in
    let one = c.in_ok-send-in-Fresh.ensures.sent plan hart stand has in
    second_begun words plan hart stand fresh c.send.new.self c.close.new.self (g.W.Write.contents c.args.sink.now)
    (g.W.Write.contents c.send.new.sink) (g.W.Write.contents c.close.new.sink) one.text
    (c.close.ensures.begun plan hart (has_turn stand) one.has)

pub returns-in-Closed-clause-begun : goal.returns-in-Closed-clause-begun
returns-in-Closed-clause-begun g c = λ plan hart stand has. begun_none _ (g.W.Write.contents c.args.sink.now)
