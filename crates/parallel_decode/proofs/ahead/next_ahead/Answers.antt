-- The message that was found is in front of the bytes that are left.
use Rattle.std.proofs.Common.{◌≡◌, ◌∙◌, ap, drop, length, subst, sym}
use Rattle.std.proofs.lemmas.List.{take_rest}
use Rattle.std.proofs.lemmas.Result.{IfOk-weaker}
use Rattle.rvclass.specs.Fetch.{words_of}
use Rattle.captures.proofs.FoundInFront.{in_front}
use Rattle.message.specs.Range.{selected}
use Rattle.message.specs.Accepted.{AreAccepted, newcomers}
use Rattle.parallel_decode.proofs.Merging.{refusal-ahead}
use Rattle.parallel_decode.specs.steps.Starts.{AreStarts}
use Rattle.parallel_decode.specs.steps.Walked.{IsAhead, IsRefusal}
use Rattle.parallel_decode.proofs.ahead.next_ahead.Goals as goal

pub returns-in-Ok-Some : goal.returns-in-Ok-Some
returns-in-Ok-Some c = λ messages walked accepted.
    let words = words_of c.args.work.now.program.now in
    let bytes = c.args.work.now.bytes.now in
    let announced = c.args.work.now.announced in
    let range = c.args.range in
    let place = c.args.walk.now.place in
    let own = selected range messages in
    let places = c.as_slice.result.now in
    let message = c.in-Ok-Some.message in
    let said = c.in-Ok-Some.ensures in
    let front = in_front c.new-messages.result c.next.new.self _ message c.in-Ok-Some.field-0-is said.ranges
    said.message said.shorter in
    let count : length places ≡ c.args.harts = ap length c.as_slice.ensures.value ∙ walked.count in
    IfOk-weaker c.refusal_of.result (IsRefusal range words (length places) announced own message)
    (IsAhead range words c.args.harts announced messages (drop place bytes))
    (λ found refusal.
    refusal-ahead range words c.args.harts announced messages (drop place bytes) c.next.new.self message
    front.is_message (sym (c.new-messages.ensures ∙ take_rest bytes place) ∙ front.here) found
    (subst (λ n. IsRefusal range words n announced own message found) count refusal))
    (c.refusal_of.ensures own (subst (λ l. AreStarts bytes l own) (sym c.as_slice.ensures.value) walked.starts)
    (subst (λ n. AreAccepted (newcomers n) own) (sym count) accepted))
