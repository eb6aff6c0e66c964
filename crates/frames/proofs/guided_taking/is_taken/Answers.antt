-- Where no message is known by its payload alone, numbers decide: by a lemma, which no search finds.
use Rattle.std.proofs.Common.{◌≡◌, ◌∙◌, ◌-◌, ◌||◌, Bool, false, true, ℕ, List, ap, drop, length, sym, take, Some}
use Rattle.std.proofs.lemmas.List.{take_rest}
use Rattle.std.proofs.lemmas.Bool.{or_left}
use Rattle.frames.proofs.GuidedTakenLemmas.{its}
use Rattle.frames.proofs.KnownLemmas.{first_by_number}
use Rattle.frames.specs.Frame.{message_size}
use Rattle.frames.specs.GuidedTaken.{after, goes_on, is_counted_at, is_sent_at}
use Rattle.frames.proofs.guided_taking.is_taken.Goals as goal

-- What follows the message, as it is read.
rest : (bytes : List ℕ) (size : ℕ) → Some size ≡ message_size bytes
    → take (length bytes - size) (drop size bytes) ≡ after bytes
rest bytes size begins = take_rest bytes size ∙ ap (λ n. drop n bytes) (its bytes size begins).1

pub returns-then-goes_on : goal.returns-then-goes_on
returns-then-goes_on g c =
    let sees = g.S.Sent.sees c.args.sent.now in
    let bytes = c.args.bytes.now in
    let size = c.in-Some.size in
    let begins = c.in-Some.ensures.value in
    let goes : goes_on (after bytes) ≡ true =
    ap goes_on (sym (rest bytes size begins)) ∙ sym c.goes_on.ensures ∙ c.if-goes_on.true in
    c.if-goes_on.true
    ∙ sym
    (first_by_number sees bytes (c.knows_none.ensures c.if-knows_none.true) (its bytes size begins).0
    ∙ or_left (goes_on (after bytes)) _ goes)

pub returns-else-goes_on : goal.returns-else-goes_on
returns-else-goes_on g c =
    let sees = g.S.Sent.sees c.args.sent.now in
    let bytes = c.args.bytes.now in
    let size = c.in-Some.size in
    let begins = c.in-Some.ensures.value in
    let goes : goes_on (after bytes) ≡ false =
    ap goes_on (sym (rest bytes size begins)) ∙ sym c.goes_on.ensures ∙ c.if-goes_on.false in
    c.is_backed.ensures
    ∙ ap (λ next. is_sent_at sees bytes || is_counted_at sees next) (rest bytes size begins)
    ∙ sym
    (first_by_number sees bytes (c.knows_none.ensures c.if-knows_none.true) (its bytes size begins).0
    ∙ ap (λ (b : Bool). b || (is_sent_at sees bytes || is_counted_at sees (after bytes))) goes)
