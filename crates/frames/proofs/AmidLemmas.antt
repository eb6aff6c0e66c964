-- Messages that were sent are found each at its place.
use Rattle.std.proofs.Common.{◌≡◌, ◌⊎◌, ◌+◌, ◌++◌, ℕ, All, true, false, List, [], ◌∷◌}
use Rattle.std.proofs.Common.{drop, length, refl, ap, ap₂, sym, ◌∙◌, arith, inl, inr, drop_at, append-nil}
use Rattle.std.proofs.lemmas.Bool.{and_from, and_left, or_left, or_from}
use Rattle.std.proofs.lemmas.List.{length-append}
use Rattle.std.proofs.lemmas.List.Elements.{All-head, All-tail}
use Rattle.message.specs.Capture.{capture, message_bytes}
use Rattle.message.specs.Cut.{IsMessage}
use Rattle.message.specs.declared.message.Message.{Message}
use Rattle.frames.specs.Frame.{frame_size, is_complete}
use Rattle.frames.specs.Written.{Scattered, frames_from, run_at, scattered_bytes, scattered_from}
use Rattle.frames.specs.declared.span.Span.{Span}
use Rattle.frames.specs.declared.span.Span.TheVariants.{Frame, Bytes}
use Rattle.frames.proofs.FrameLemmas.{frame_in-message, is_complete-message}
use Rattle.frames.proofs.ScatteredLemmas.{after_message}
use Rattle.frames.specs.Amid.{IsSentMessage, NoneBegins, NoneBeginsIn}
use Rattle.frames.specs.Passages.{Sees, spans_from}
use Rattle.frames.proofs.KnownLemmas.{first_by_number}
use Rattle.frames.specs.GuidedTaken.{KnowsNone, after, ends_or_begins, goes_on, is_kept, is_known_at, is_same}
use Rattle.frames.specs.GuidedTaken.{is_sent_at, is_taken_anywhere, is_taken_first}
use Rattle.frames.specs.Taken.{is_sure}
use Rattle.frames.proofs.PassageLemmas.{Ends, anywhere-taken, spans-frame, spans-run}

-- A message that is taken is the first span.
message-taken : (sees : Sees) (offset : ℕ) (m : Message) (rest : List ℕ) → IsMessage m
    → is_taken_first sees (message_bytes m ++ rest) ≡ true
    → spans_from sees offset (message_bytes m ++ rest)
    ≡ Frame offset m ∷ spans_from sees (offset + length (message_bytes m)) rest
message-taken sees offset m rest is taken =
    let xs = message_bytes m ++ rest in
    let size : frame_size xs ≡ length (message_bytes m) = omega arith in
    spans-frame sees false offset xs taken
    ∙ ap₂ (λ (n : Message) (l : List ℕ). Frame offset n ∷ spans_from sees (offset + frame_size xs) l)
    (frame_in-message m rest is) (after_message m rest)
    ∙ ap (λ (k : ℕ). Frame offset m ∷ spans_from sees (offset + k) rest) size

-- The bytes of messages end, or a message begins them.
ends_or_begins-capture : (ms : List Message) → All IsMessage ms → ends_or_begins (capture ms) ≡ true
ends_or_begins-capture [] all = refl
ends_or_begins-capture (m ∷ ms) all = is_complete-message m (capture ms) (All-head IsMessage m ms all)

-- And so do those after the first.
goes_on-capture : (ms : List Message) → All IsMessage ms → goes_on (capture ms) ≡ true
goes_on-capture [] all = refl
goes_on-capture (m ∷ ms) all =
    and_from _ _ (is_complete-message m (capture ms) (All-head IsMessage m ms all))
    (ap ends_or_begins (after_message m (capture ms)) ∙ ends_or_begins-capture ms (All-tail IsMessage m ms all))

-- Messages one after the other are found each at its place, and nothing else is.
pub complete : (sees : Sees) (offset : ℕ) (ms : List Message) → KnowsNone sees → All IsMessage ms
    → spans_from sees offset (capture ms) ≡ frames_from offset ms
complete sees offset [] none all = refl
complete sees offset (m ∷ ms) none all =
    let is = All-head IsMessage m ms all in
    let others = All-tail IsMessage m ms all in
    let rest = capture ms in
    let goes : goes_on (after (message_bytes m ++ rest)) ≡ true =
    ap goes_on (after_message m rest) ∙ goes_on-capture ms others in
    let taken : is_taken_first sees (message_bytes m ++ rest) ≡ true =
    first_by_number sees (message_bytes m ++ rest) none (is_complete-message m rest is)
    ∙ or_left (goes_on (after (message_bytes m ++ rest))) _ goes in
    message-taken sees offset m rest is taken
    ∙ ap (λ (l : List Span). Frame offset m ∷ l) (complete sees (offset + length (message_bytes m)) ms none others)

-- Where no message begins, none is taken.
none_anywhere : (sees : Sees) (xs : List ℕ) → is_complete xs ≡ false → is_taken_anywhere sees xs ≡ false
none_anywhere sees xs none =
    or_from (is_sent_at sees xs) (is_sure (is_known_at sees) xs) (and_left (is_complete xs) _ none)
    (and_left (is_known_at sees xs) _ (and_left (is_complete xs) _ none))

none_taken : (sees : Sees) (xs : List ℕ) → is_complete xs ≡ false → is_taken_first sees xs ≡ false
none_taken sees xs none =
    or_from (is_taken_anywhere sees xs) (is_kept sees xs) (none_anywhere sees xs none)
    (and_left (is_complete xs) _ none)

-- Bytes before the end, or before a message that was sent, are one run, or no span where there are none.
run-before : (sees : Sees) (offset : ℕ) (before tail : List ℕ) → NoneBeginsIn before tail
    → (length tail ≡ 0) ⊎ (is_taken_anywhere sees tail ≡ true)
    → spans_from sees offset (before ++ tail) ≡ run_at offset before ++ spans_from sees (offset + length before) tail
run-before sees offset [] tail none ends =
    let e : offset ≡ offset + 0 = omega arith in ap (λ (o : ℕ). spans_from sees o tail) e
run-before sees offset (b ∷ before) tail none ends =
    let front = b ∷ before in
    let long = length-append front tail in
    let gone : drop (length front) (front ++ tail) ≡ tail = drop_at front tail (length front) refl in
    spans-run sees false (length front) offset (front ++ tail) (omega arith) (omega (arith, long))
    (none_taken sees (front ++ tail) (none 0 (omega arith)))
    (λ k some less. none_anywhere sees (drop k (front ++ tail)) (none k less))
    (ended gone long ends)
    ∙ ap (λ (l : List ℕ). Bytes offset (length front) ∷ spans_from sees (offset + length front) l) gone
  where
    ended : drop (length (b ∷ before)) ((b ∷ before) ++ tail) ≡ tail
        → length ((b ∷ before) ++ tail) ≡ length (b ∷ before) + length tail
        → (length tail ≡ 0) ⊎ (is_taken_anywhere sees tail ≡ true)
        → Ends sees (length (b ∷ before)) ((b ∷ before) ++ tail)
    ended gone long (inl none) = inl (omega (arith, long, none))
    ended gone long (inr sent) = inr (ap (is_taken_anywhere sees) gone ∙ sent)

-- A message that was sent begins its bytes.
message-sent : (sees : Sees) (m : Message) (rest : List ℕ) → IsSentMessage sees m
    → is_taken_anywhere sees (message_bytes m ++ rest) ≡ true
message-sent sees m rest is =
    or_left (is_sent_at sees (message_bytes m ++ rest)) _
    (and_from _ _ (is_complete-message m rest is.ranges)
    (ap (λ (n : Message). is_same (sees n)) (frame_in-message m rest is.ranges) ∙ ap is_same is.sent))

-- Messages that were sent among other bytes are found each at its place, where no message begins in those.
pub amid : (sees : Sees) (offset : ℕ) (ss : List Scattered) (last : List ℕ)
    → All (λ (s : Scattered). IsSentMessage sees s.message) ss → NoneBegins ss last
    → spans_from sees offset (scattered_bytes ss last) ≡ scattered_from offset ss last
amid sees offset [] last all none =
    ap (spans_from sees offset) (sym (append-nil last)) ∙ run-before sees offset last [] none (inl refl)
    ∙ append-nil (run_at offset last)
amid sees offset (s ∷ more) last all none =
    let is = All-head (λ (s : Scattered). IsSentMessage sees s.message) s more all in
    let others = All-tail (λ (s : Scattered). IsSentMessage sees s.message) s more all in
    let m = s.message in
    let rest = scattered_bytes more last in
    let place = offset + length s.before in
    let sent = message-sent sees m rest is in
    run-before sees offset s.before (message_bytes m ++ rest) none.0 (inr sent)
    ∙ ap (λ (l : List Span). run_at offset s.before ++ l)
    (message-taken sees place m rest is.ranges (anywhere-taken sees false (message_bytes m ++ rest) sent)
    ∙ ap (λ (l : List Span). Frame place m ∷ l)
    (amid sees (place + length (message_bytes m)) more last others none.1))
