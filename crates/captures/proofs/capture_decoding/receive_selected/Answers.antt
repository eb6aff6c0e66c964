-- What a receiver says of a message of any programs is said of this one's, and what it says of one is said of a list.
use Rattle.std.proofs.Common.{[], All, refl, subst, sym, ◌∙◌}
use Rattle.std.proofs.lemmas.List.Elements.{All-cons, All-nil}
use Rattle.std.proofs.lemmas.Result.{on_ok_weaker}
use Rattle.message.proofs.Selecting.{one_selected}
use Rattle.receiver.specs.Agreeing.{Agrees}
use Rattle.rvclass.specs.Fetch.{words_of}
use Rattle.captures.proofs.capture_decoding.receive_selected.Goals as goal

pub returns-then-selects-clause-not_received : goal.returns-then-selects-clause-not_received
returns-then-selects-clause-not_received g c = λ harts messages has.
    c.receive.ensures.not_received (λ hart. words_of c.args.program.now) harts messages refl has

pub returns-then-selects-clause-agrees : goal.returns-then-selects-clause-agrees
returns-then-selects-clause-agrees g c =
    let message = c.args.message.now in
    let is = one_selected c.args.range message (sym c.selects.ensures ∙ c.if-selects.true) in
    on_ok_weaker c.receive.result
    (λ agrees. subst (All (Agrees c.args.announced)) (sym is)
    (All-cons (Agrees c.args.announced) message [] agrees (All-nil (Agrees c.args.announced))))
    c.receive.ensures.agrees
