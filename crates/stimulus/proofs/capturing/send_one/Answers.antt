-- The sender at the hart's place: by lemmas on lists, which no tactic finds.
use Rattle.std.proofs.Common.{◌<◌, arith, length, refl, set, subst}
use Rattle.std.proofs.lemmas.Option.{slice_get_read}
use Rattle.std.specs.Prelude.{OnOk}
use Rattle.rvclass.specs.Fetch.{words_of}
use Rattle.stimulus.specs.Mixed.{goes, has_turn}
use Rattle.stimulus.specs.steps.Sending.{AllBegun, AllSend}
use Rattle.stimulus.proofs.SendLemmas.{all_begun, goes_past, one_begun, one_goes_on}
use Rattle.stimulus.proofs.capturing.send_one.Goals as goal

pub returns-then-place-len-clause-sent : goal.returns-then-place-len-clause-sent
returns-then-place-len-clause-sent g c = λ plan sent are.
    goes_past (words_of c.args.program.now) plan has_turn sent c.args.senders.now.items c.args.hart
    (g.W.Write.contents c.args.sink.now) are (omega (arith, c.if-place-len.true, c.len.ensures, c.from-place.ensures))

pub returns-clause-sent : goal.returns-clause-sent
returns-clause-sent g c = λ plan sent are.
    let words = words_of c.args.program.now in
    let senders = c.args.senders.now.items in
    let place = c.from-place.result in
    let within : place < length senders = omega (arith, c.if-place-len.false, c.len.ensures, c.args.senders.now.ok.0) in
    subst (λ hart. OnOk c.send.result (AllSend words plan sent (goes words plan has_turn hart sent)
    (set senders place c.send.new.self) (g.W.Write.contents c.args.sink.now) (g.W.Write.contents c.send.new.sink)))
    c.from-place.ensures
    (one_goes_on words plan has_turn sent senders place c.index_mut.result.now c.send.new.self
    (g.W.Write.contents c.args.sink.now) (g.W.Write.contents c.send.new.sink) are within
    (slice_get_read senders (length senders) place c.index_mut.result.now refl within c.index_mut.ensures.value)
    c.send.result (c.send.ensures.sent plan place))

pub returns-then-place-len-clause-begun : goal.returns-then-place-len-clause-begun
returns-then-place-len-clause-begun g c = λ plan sent are.
    let words = words_of c.args.program.now in
    all_begun words plan sent (goes words plan has_turn c.args.hart sent) c.args.senders.now.items
    (g.W.Write.contents c.args.sink.now) (g.W.Write.contents c.args.sink.now)
    (returns-then-place-len-clause-sent g c plan sent are)

pub returns-clause-begun : goal.returns-clause-begun
returns-clause-begun g c = λ plan sent are.
    let words = words_of c.args.program.now in
    let senders = c.args.senders.now.items in
    let place = c.from-place.result in
    let within : place < length senders = omega (arith, c.if-place-len.false, c.len.ensures, c.args.senders.now.ok.0) in
    subst (λ hart. AllBegun sent (goes words plan has_turn hart sent) (g.W.Write.contents c.args.sink.now)
    (g.W.Write.contents c.send.new.sink)) c.from-place.ensures
    (one_begun words plan has_turn sent senders place c.index_mut.result.now c.send.new.self
    (g.W.Write.contents c.args.sink.now) (g.W.Write.contents c.send.new.sink) are within
    (slice_get_read senders (length senders) place c.index_mut.result.now refl within c.index_mut.ensures.value)
    (c.send.ensures.begun plan place))
