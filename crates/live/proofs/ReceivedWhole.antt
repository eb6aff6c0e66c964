-- Of messages one after the other each is taken.
use Rattle.std.proofs.Common.{◌≡◌, ◌∙◌, ℕ, true, All, List, [], ◌∷◌, Some, refl, ap}
use Rattle.std.proofs.lemmas.Bool.{and_from, or_left, or_right}
use Rattle.std.proofs.lemmas.List.Elements.{All-head, All-tail}
use Rattle.frames.proofs.FrameLemmas.{frame_in-message, is_complete-message}
use Rattle.frames.proofs.ScatteredLemmas.{after_message}
use Rattle.frames.specs.Frame.{is_complete}
use Rattle.frames.specs.GuidedTaken.{after, ends_or_begins, goes_on, is_counted_at}
use Rattle.frames.specs.declared.span.Span.TheVariants as span
use Rattle.message.specs.Capture.{capture}
use Rattle.message.specs.Cut.{IsMessage}
use Rattle.message.specs.declared.message.Message.{Message}
use Rattle.live.proofs.ReceivedRuns.{first_taken}
use Rattle.live.specs.Received.{Rule, first_span, is_kept, is_taken_anywhere, sights}

-- Bytes go on with a message after which they end or another one begins.
goes_from : (xs : List ℕ) → is_complete xs ≡ true → ends_or_begins (after xs) ≡ true → goes_on xs ≡ true
goes_from [] whole next = refl
goes_from (b ∷ bytes) whole next = and_from (is_complete (b ∷ bytes)) (ends_or_begins (after (b ∷ bytes))) whole next

ends_from : (xs : List ℕ) → is_complete xs ≡ true → ends_or_begins xs ≡ true
ends_from [] whole = refl
ends_from (b ∷ bytes) whole = whole

whole_ends : (ms : List Message) → All IsMessage ms → ends_or_begins (capture ms) ≡ true
whole_ends [] all = refl
whole_ends (m ∷ ms) all = ends_from (capture (m ∷ ms)) (is_complete-message m (capture ms) (All-head IsMessage m ms all))

whole_goes : (ms : List Message) → All IsMessage ms → goes_on (capture ms) ≡ true
whole_goes [] all = refl
whole_goes (m ∷ ms) all =
    goes_from (capture (m ∷ ms)) (is_complete-message m (capture ms) (All-head IsMessage m ms all))
    (ap ends_or_begins (after_message m (capture ms)) ∙ whole_ends ms (All-tail IsMessage m ms all))

pub whole_first : (rule : Rule) (offset : ℕ) (m : Message) (ms : List Message) → All IsMessage (m ∷ ms)
    → first_span rule offset (capture (m ∷ ms)) ≡ Some (span.Frame offset m)
whole_first rule offset m ms all =
    let xs = capture (m ∷ ms) in
    let one = All-head IsMessage m ms all in
    let whole = is_complete-message m (capture ms) one in
    let next : goes_on (after xs) ≡ true =
    ap goes_on (after_message m (capture ms)) ∙ whole_goes ms (All-tail IsMessage m ms all) in
    let kept : is_kept rule xs ≡ true =
    and_from (is_complete xs) _ whole (or_left (goes_on (after xs)) (is_counted_at (sights rule) (after xs)) next) in
    first_taken rule offset xs whole (or_right (is_taken_anywhere rule xs) (is_kept rule xs) kept)
    ∙ ap (λ n. Some (span.Frame offset n)) (frame_in-message m (capture ms) one)
