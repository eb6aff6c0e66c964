-- The clauses hold for any hart, which the search does not instantiate.
use Rattle.rvclass.specs.Fetch.{words_of}
use Rattle.stimulus.specs.Mixed.{closes}
use Rattle.stimulus.proofs.SendLemmas.{sends_begun, sends_on}
use Rattle.stimulus.proofs.sender.Sender.close.Goals as goal

pub returns-clause-sent : goal.returns-clause-sent
returns-clause-sent g c = λ plan hart stand has.
    sends_on (words_of c.args.program.now) plan hart stand (closes stand) c.args.self.now c.close-burst.new.self
    c.write_all.new.self c.close-burst.result.items (g.W.Write.contents c.args.sink.now)
    (g.W.Write.contents c.write_all.new.sink) has (c.close-burst.ensures.given plan hart stand has.tracer)
    c.as_slice.result.now c.write_all.result c.as_slice.ensures.value
    (c.close-burst.ensures.profile plan hart stand has.tracer) c.write_all.ensures.numbered

pub returns-clause-begun : goal.returns-clause-begun
returns-clause-begun g c = λ plan hart stand has.
    sends_begun (words_of c.args.program.now) plan hart stand (closes stand) c.args.self.now c.close-burst.new.self
    c.write_all.new.self c.close-burst.result.items (g.W.Write.contents c.args.sink.now)
    (g.W.Write.contents c.write_all.new.sink) has (c.close-burst.ensures.given plan hart stand has.tracer)
    c.as_slice.result.now c.as_slice.ensures.value
    (c.close-burst.ensures.profile plan hart stand has.tracer) c.write_all.ensures.begun
