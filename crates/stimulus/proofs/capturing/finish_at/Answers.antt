-- The sender at the hart's place: by lemmas on lists, which no tactic finds.
use Rattle.std.proofs.Common.{length, refl}
use Rattle.std.proofs.lemmas.Option.{slice_get_read}
use Rattle.rvclass.specs.Fetch.{words_of}
use Rattle.stimulus.specs.Mixed.{closes}
use Rattle.stimulus.proofs.SendLemmas.{closed_here_on, closed_there_on, one_begun, one_goes_on}
use Rattle.stimulus.proofs.capturing.finish_at.Goals as goal

pub returns-clause-sent : goal.returns-clause-sent
returns-clause-sent g c = λ plan sent are.
    let senders = c.args.senders.now.items in
    let place = c.args.place in
    one_goes_on (words_of c.args.program.now) plan closes sent senders place c.index_mut.result.now c.finish.new.self
    (g.W.Write.contents c.args.sink.now) (g.W.Write.contents c.finish.new.sink) are c.requires
    (slice_get_read senders (length senders) place c.index_mut.result.now refl c.requires c.index_mut.ensures.value)
    c.finish.result (c.finish.ensures.sent plan place)

pub returns-clause-begun : goal.returns-clause-begun
returns-clause-begun g c = λ plan sent are.
    let senders = c.args.senders.now.items in
    let place = c.args.place in
    one_begun (words_of c.args.program.now) plan closes sent senders place c.index_mut.result.now c.finish.new.self
    (g.W.Write.contents c.args.sink.now) (g.W.Write.contents c.finish.new.sink) are c.requires
    (slice_get_read senders (length senders) place c.index_mut.result.now refl c.requires c.index_mut.ensures.value)
    (c.finish.ensures.begun plan place)

pub returns-clause-closed : goal.returns-clause-closed
returns-clause-closed g c =
    closed_here_on c.args.senders.now.items c.args.place c.finish.new.self c.finish.result c.finish.ensures.closed

pub returns-clause-others : goal.returns-clause-others
returns-clause-others g c = λ other closed.
    closed_there_on c.args.senders.now.items c.args.place c.finish.new.self c.finish.result other
    c.finish.ensures.closed closed
