-- Why the message is refused: by what is said of its hart's messages alone.
use Rattle.std.proofs.Common.{◌<◌, ◌≤◌, Err, ap, arith, length, refl, subst, sym}
use Rattle.std.proofs.lemmas.Bool.{ltb-false, ltb-true}
use Rattle.rvclass.specs.Fetch.{words_of}
use Rattle.message.proofs.AcceptedLemmas.{accepted_counted}
use Rattle.message.proofs.Answering.{answer-stranger}
use Rattle.message.specs.Accepted.{expected_after, newcomers}
use Rattle.message.specs.OfHart.{of_hart}
use Rattle.message.specs.declared.fault.DemuxFault.TheVariants.{Stranger}
use Rattle.receiver.specs.declared.fault.ReceiveFault.TheVariants as receiving
use Rattle.parallel_decode.proofs.EndLemmas.{found-at, none-of}
use Rattle.parallel_decode.proofs.Owns.{refused-own}
use Rattle.parallel_decode.specs.steps.Starts.{StartAt}
use Rattle.parallel_decode.proofs.ahead.refusal_of.Goals as goal

pub returns-in_default : goal.returns-in_default
returns-in_default c = λ messages starts accepted.
    let harts = length c.args.places.now in
    let counted = (accepted_counted harts messages accepted).count in
    let past : harts ≤ c.from.result = ltb-false c.from.result harts (sym c.in_default.ensures.lookup.0) in
    let here = c.from.ensures in (
      receiving.Demux Stranger,
      refl,
      sym c.if-not-selects.ensures,
      (answer-stranger (expected_after (newcomers harts) messages) c.args.message).1
          (omega (arith, counted, past, here)),
      λ is. cc,
    )

pub returns : goal.returns
returns c = λ messages starts accepted.
    let words = words_of c.args.work.now.program.now in
    let announced = c.args.work.now.announced in
    let places = c.args.places.now in
    let message = c.args.message in
    let own = c.in-Some.own.now in
    let found = c.in-Some.ensures.lookup in
    let here = c.from.ensures in
    let at = found-at places c.from.result message.hart own found.0 found.1 here in
    let below : c.from.result < length places = ltb-true c.from.result (length places) (sym found.0) in
    let messages_at = subst (λ items. StartAt c.args.work.now.bytes.now items (of_hart message.hart messages))
    (sym c.as_slice.ensures.value) (starts message.hart own at) in
    let received = c.in_ok-end.ensures (λ k any none. absurd (omega (arith, none))) (none-of c.in_ok-end.end.refused (sym c.if-is_some.ensures))
    (of_hart message.hart messages) messages_at in (
      c.in-Err.fault,
      c.from-in-Err.ensures,
      sym c.if-not-selects.ensures,
      refused-own words (length places) announced messages message accepted (omega (arith, below, here)) c.in-Err.fault
          (c.in-Err.ensures.refused (of_hart message.hart messages) received.log received.own),
      λ is. c.in-Err.ensures.never_memory (ap (λ why. Err why) is),
    )
