-- One message more: by lemmas on places and messages.
use Rattle.std.proofs.Common.{◌≡◌, ◌+◌, ◌<◌, ◌++◌, ◌∙◌, [], ◌∷◌, ap, arith, length, refl, subst, sym, take}
use Rattle.std.proofs.lemmas.List.{length-take-le, length_push}
use Rattle.rvclass.specs.Fetch.{words_of}
use Rattle.parallel_decode.proofs.PlaceLemmas.{place-at, places-length}
use Rattle.parallel_decode.specs.steps.Ends.{IsTrail}
use Rattle.parallel_decode.specs.steps.OwnMessages.{IsOwn}
use Rattle.parallel_decode.specs.steps.Starts.{StartsAt}
use Rattle.parallel_decode.proofs.hart.HartSoFar.receive_to.Goals as goal

pub loop-number-preserved : goal.loop-number-preserved
loop-number-preserved c = (
  λ messages are before.
      let words = words_of c.args.work.now.program.now in
      let announced = c.args.work.now.announced in
      let i = c.loop-number.number in
      let places = c.args.places.now in
      let least = c.min-number-end.ensures in
      let test = c.loop-number-test.true in
      let within : i < length places = omega (arith, test, least) in
      let r = c.loop-number.invariant.0 messages are before in
      let taken = c.loop-number.invariant.1 in
      let at = place-at (StartsAt c.args.work.now.bytes.now) places messages i 0 are within in
      let found = c.message_at.ensures at.message at.is_at in
      let some = c.in-Some.is in
      let same : c.in-Some.message ≡ at.message = cc in
      let front = take i messages in
      let counted = length-take-le i messages
      (omega (arith, within, places-length (StartsAt c.args.work.now.bytes.now) places messages are)) in
      let own = subst (λ n. IsOwn words announced (take n messages) r.log c.loop-number.self.own) taken r.received in
      let made = subst (λ n. IsTrail words (take n messages) r.log c.loop-number.self.trail) taken r.made in
      let received = c.in-Ok.ensures.received front r.log own in
      let longer = r.log ++ received.0 in
      let next : front ++ c.in-Some.message ∷ [] ≡ take (i + 1) messages =
      ap (λ m. front ++ m ∷ []) same ∙ sym at.next in
      record {
        log = longer;
        received = subst (λ ms. IsOwn words announced ms longer c.receive.new.self) next received.2;
        made = subst (λ ms. IsTrail words ms longer c.add.new.self) next
            (c.in_ok-add-in-Ok.ensures words front (c.in-Some.message ∷ []) r.log received.0 made
            (omega (arith, counted, length_push front c.in-Some.message)) (omega (arith, counted)) received.1
            received.2.stands);
      },
  refl,
)
