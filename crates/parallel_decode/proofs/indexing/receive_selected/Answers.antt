-- What is received of a hart is received of all: by lemmas on the list of harts.
use Rattle.std.proofs.Common.{rules, ◌≡◌, ◌++◌, ◌<◌, ◌≤◌, ◌∷◌, ℕ, List, [], Err, Some, ap, arith, get_or, length}
use Rattle.std.proofs.Common.{refl, set, slice_get, subst, sym}
use Rattle.std.specs.Vec.{vec_len}
use Rattle.std.proofs.lemmas.Option.{slice_get_read}
use Rattle.rvclass.specs.Fetch.{words_of}
use Rattle.message.proofs.AcceptedLemmas.{accepted_counted}
use Rattle.message.proofs.Answering.{answer-stranger}
use Rattle.message.proofs.Selecting.{one_selected}
use Rattle.message.specs.Accepted.{expected_after, newcomers}
use Rattle.message.specs.OfHart.{of_hart}
use Rattle.parallel_decode.proofs.Owns.{flags-kept, owns-next, refused-own}
use Rattle.parallel_decode.specs.declared.own.Own.{Own}
use Rattle.parallel_decode.specs.steps.Surveying.{AreOwns}
use Rattle.parallel_decode.proofs.indexing.receive_selected.Goals as goal

-- What is at a place within a list.
read-at : (owns : List Own) (count at : ℕ) (own : Own) → count ≡ length owns → at < count → own ≡ get_or owns at own
    → (at < length owns) × (slice_get owns at ≡ Some own)
read-at owns count at own counted below is =
    let within = subst (λ n. at < n) counted below in
    (within, slice_get_read owns (length owns) at own refl within is)

pub returns-in-Ok-clause-received : goal.returns-in-Ok-clause-received
returns-in-Ok-clause-received g c = λ messages are.
    let words = words_of c.args.selection.now.program.now in
    let announced = c.args.announced in
    let message = c.args.message.now in
    let owns = c.args.owns.now.items in
    let own = c.in-Some.own.now in
    let at = read-at owns (vec_len c.args.owns.now) c.from.result own c.args.owns.now.ok.0
    (c.in-Some.ensures.variant.0 refl) c.in-Some.ensures.value in
    let was = are message.hart own (subst (λ n. slice_get owns n ≡ Some own) c.from.ensures at.1) in
    let next = c.in-Ok.ensures.received (of_hart message.hart messages) was.0 was.1 in
    subst (λ more. AreOwns words announced (messages ++ more) (set owns c.from.result c.receive.new.self))
    (sym (one_selected c.args.selection.now.range message (sym c.if-not-selects.ensures)))
    (owns-next words announced messages message owns c.from.result c.receive.new.self (was.0 ++ next.0) c.from.ensures
    are next.2)

pub returns-in-Err-clause-refused : goal.returns-in-Err-clause-refused
returns-in-Err-clause-refused g c = λ messages are accepted.
    let words = words_of c.args.selection.now.program.now in
    let message = c.args.message.now in
    let owns = c.args.owns.now.items in
    let own = c.in-Some.own.now in
    let at = read-at owns (vec_len c.args.owns.now) c.from.result own c.args.owns.now.ok.0
    (c.in-Some.ensures.variant.0 refl) c.in-Some.ensures.value in
    let was = are message.hart own (subst (λ n. slice_get owns n ≡ Some own) c.from.ensures at.1) in (
      sym c.if-not-selects.ensures,
      refused-own words (length owns) c.args.announced messages message accepted
          (subst (λ h. h < length owns) c.from.ensures at.0) c.in-Err.fault
          (c.in-Err.ensures.refused (of_hart message.hart messages) was.0 was.1),
      λ is. c.in-Err.ensures.never_memory (ap (λ why. Err why) is),
    )

pub returns-in-Err-clause-closed : goal.returns-in-Err-clause-closed
returns-in-Err-clause-closed g c =
    let owns = c.args.owns.now.items in
    let own = c.in-Some.own.now in
    let at = read-at owns (vec_len c.args.owns.now) c.from.result own c.args.owns.now.ok.0
    (c.in-Some.ensures.variant.0 refl) c.in-Some.ensures.value in
    flags-kept owns c.from.result own c.receive.new.self at.1 c.in-Err.ensures.flag

pub returns-in-None-clause-refused : goal.returns-in-None-clause-refused
returns-in-None-clause-refused g c = λ messages are accepted.
    let harts = length c.args.owns.now.items in
    let counted = (accepted_counted harts messages accepted).count in
    let over : harts ≤ c.args.message.now.hart = search rules in (
      sym c.if-not-selects.ensures,
      (answer-stranger (expected_after (newcomers harts) messages) c.args.message.now).1 (omega (arith, counted, over)),
      λ is. cc,
    )
