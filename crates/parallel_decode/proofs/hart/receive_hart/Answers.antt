-- All messages were received: by the lemma on this.
use Rattle.std.proofs.Common.{◌≡◌, ◌∙◌, None, Ok, ap, arith, sym}
use Rattle.rvclass.specs.Fetch.{words_of}
use Rattle.parallel_decode.proofs.EndLemmas.{received-end}
use Rattle.parallel_decode.proofs.PlaceLemmas.{places-length}
use Rattle.parallel_decode.specs.steps.Starts.{StartsAt}
use Rattle.parallel_decode.proofs.hart.receive_hart.Goals as goal

pub returns : goal.returns
returns c = λ all none messages are.
    let words = words_of c.args.work.now.program.now in
    let announced = c.args.work.now.announced in
    let passed : c.pass_sections.result ≡ Ok None = c.in_ok-place.was ∙ ap (λ place. Ok place) c.in_default.is in
    let refused : c.in_ok-refused.refused ≡ None = sym c.end-2.ensures.refused ∙ none in
    let received : c.receive_to.result ≡ Ok None = c.in_ok-refused.was ∙ ap (λ place. Ok place) refused in
    let before = c.pass_sections.ensures messages are all (c.new-so_far.ensures words announced messages) passed in
    let whole = c.receive_to.ensures.all (omega arith) received in
    let count = places-length (StartsAt c.args.work.now.bytes.now) c.args.places.now messages are in
    received-end words announced messages c.receive_to.new.self c.end-2.result
    (c.receive_to.ensures.received messages are before received) (omega (arith, whole, count)) c.end-2.ensures.own
    c.end-2.ensures.marks
