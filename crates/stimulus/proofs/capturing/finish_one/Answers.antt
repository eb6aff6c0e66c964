-- The clause holds for any messages before, which the search does not instantiate.
use Rattle.std.proofs.Common.{◌∙◌, Some, ap, arith, subst, sym}
use Rattle.std.specs.Prelude.{OnOk}
use Rattle.rvclass.specs.Fetch.{words_of}
use Rattle.stimulus.specs.Mixed.{closes, closes_one}
use Rattle.stimulus.specs.steps.Sending.{AllBegun, AllSend}
use Rattle.stimulus.proofs.SendLemmas.{all_begun, all_stay, goes_past}
use Rattle.stimulus.proofs.capturing.finish_one.Goals as goal

pub returns-in_default-clause-sent : goal.returns-in_default-clause-sent
returns-in_default-clause-sent g c = λ plan sent are.
    let words = words_of c.args.program.now in
    let old = g.W.Write.contents c.args.sink.now in
    subst (λ hart. AllSend words plan sent (closes_one words plan hart sent) c.args.senders.now.items old old)
    (sym c.in_default.is) (all_stay words plan sent c.args.senders.now.items old are)

pub returns-then-place-len-clause-sent : goal.returns-then-place-len-clause-sent
returns-then-place-len-clause-sent g c = λ plan sent are.
    let words = words_of c.args.program.now in
    let old = g.W.Write.contents c.args.sink.now in
    subst (λ hart. AllSend words plan sent (closes_one words plan hart sent) c.args.senders.now.items old old)
    (sym c.in-Some.is)
    (goes_past words plan closes sent c.args.senders.now.items c.in-Some.hart old are
    (omega (arith, c.if-place-len.true, c.len.ensures, c.from-place.ensures)))

pub returns-clause-sent : goal.returns-clause-sent
returns-clause-sent g c = λ plan sent are.
    let words = words_of c.args.program.now in
    subst (λ hart. OnOk c.finish_at.result (AllSend words plan sent (closes_one words plan hart sent)
    c.finish_at.new.senders.items (g.W.Write.contents c.args.sink.now) (g.W.Write.contents c.finish_at.new.sink)))
    (ap Some c.from-place.ensures ∙ sym c.in-Some.is) (c.finish_at.ensures.sent plan sent are)

pub returns-in_default-clause-begun : goal.returns-in_default-clause-begun
returns-in_default-clause-begun g c = λ plan sent are.
    let words = words_of c.args.program.now in
    let old = g.W.Write.contents c.args.sink.now in
    all_begun words plan sent (closes_one words plan c.args.hart sent) c.args.senders.now.items old old
    (returns-in_default-clause-sent g c plan sent are)

pub returns-then-place-len-clause-begun : goal.returns-then-place-len-clause-begun
returns-then-place-len-clause-begun g c = λ plan sent are.
    let words = words_of c.args.program.now in
    let old = g.W.Write.contents c.args.sink.now in
    all_begun words plan sent (closes_one words plan c.args.hart sent) c.args.senders.now.items old old
    (returns-then-place-len-clause-sent g c plan sent are)

pub returns-clause-begun : goal.returns-clause-begun
returns-clause-begun g c = λ plan sent are.
    let words = words_of c.args.program.now in
    subst (λ hart. AllBegun sent (closes_one words plan hart sent) (g.W.Write.contents c.args.sink.now)
    (g.W.Write.contents c.finish_at.new.sink))
    (ap Some c.from-place.ensures ∙ sym c.in-Some.is) (c.finish_at.ensures.begun plan sent are)
