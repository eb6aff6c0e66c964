-- Messages that were written are found each at its place.
use Rattle.std.proofs.Common.{◌≡◌, ◌⊎◌, ◌<◌, ◌≤◌, ◌+◌, ◌++◌, ℕ, zero, suc, All, true, false, Contains, List, [], ◌∷◌}
use Rattle.std.proofs.Common.{not, drop, length, refl, ap, ap₂, sym, subst, ◌∙◌, arith, inl, inr, drop_at, append-nil}
use Rattle.std.proofs.lemmas.Bool.{and_from, and_left, or_left, or_right, false_from_ne_true}
use Rattle.std.proofs.lemmas.List.{drop-drop, length-append}
use Rattle.std.proofs.lemmas.List.Elements.{All-head, All-tail}
use Rattle.message.specs.Capture.{capture, message_bytes}
use Rattle.message.specs.Cut.{IsMessage}
use Rattle.message.specs.declared.message.Message.{Message}
use Rattle.frames.specs.Frame.{IsFrame, frame_size, is_frame}
use Rattle.frames.specs.Taken.{ends_or_goes_on, is_firm, is_taken}
use Rattle.frames.specs.Spans.{spans_from}
use Rattle.frames.specs.Written.{NoOtherFrame, Scattered, frames_from, offsets_from, run_at, scattered_bytes}
use Rattle.frames.specs.Written.{scattered_from}
use Rattle.frames.specs.declared.span.Span.{Span}
use Rattle.frames.specs.declared.span.Span.TheVariants.{Frame, Bytes}
use Rattle.frames.proofs.FrameLemmas.{frame_in-message, is_frame-message}
use Rattle.frames.proofs.SpanLemmas.{Ends, spans-frame, spans-run}
use Rattle.frames.proofs.TakenLemmas.{inside-none}

-- What follows the bytes of a message.
pub after_message : (m : Message) (rest : List ℕ)
    → drop (frame_size (message_bytes m ++ rest)) (message_bytes m ++ rest) ≡ rest
after_message m rest =
    let size : length (message_bytes m) ≡ 11 + length m.payload = omega arith in
    drop_at (message_bytes m) rest (11 + length m.payload) size

-- A message that is taken is the first span.
message-taken : (known offset : ℕ) (m : Message) (rest : List ℕ) → IsMessage m
    → is_taken known (message_bytes m ++ rest) ≡ true
    → spans_from known offset (message_bytes m ++ rest)
    ≡ Frame offset m ∷ spans_from known (offset + length (message_bytes m)) rest
message-taken known offset m rest is taken =
    let xs = message_bytes m ++ rest in
    let size : frame_size xs ≡ length (message_bytes m) = omega arith in
    spans-frame known offset xs taken
    ∙ ap₂ (λ (n : Message) (l : List ℕ). Frame offset n ∷ spans_from known (offset + frame_size xs) l)
    (frame_in-message m rest is) (after_message m rest)
    ∙ ap (λ (k : ℕ). Frame offset m ∷ spans_from known (offset + k) rest) size

-- Messages one after the other are found each at its place, and nothing else is.
pub written : (known offset : ℕ) (ms : List Message) → All (IsFrame known) ms
    → spans_from known offset (capture ms) ≡ frames_from offset ms
written known offset [] all = refl
written known offset (m ∷ ms) all =
    let is = All-head (IsFrame known) m ms all in
    let others = All-tail (IsFrame known) m ms all in
    let rest = capture ms in
    let frame = is_frame-message known m rest is in
    let firm : is_firm (is_frame known) (message_bytes m ++ rest) ≡ true =
    and_from _ _ frame (ap (ends_or_goes_on (is_frame known)) (after_message m rest) ∙ goes_on ms others) in
    let taken : is_taken known (message_bytes m ++ rest) ≡ true = and_from _ _ frame (or_left _ _ firm) in
    message-taken known offset m rest is.ranges taken
    ∙ ap (λ (l : List Span). Frame offset m ∷ l) (written known (offset + length (message_bytes m)) ms others)
  where
    goes_on : (ms : List Message) → All (IsFrame known) ms → ends_or_goes_on (is_frame known) (capture ms) ≡ true
    goes_on [] all = refl
    goes_on (n ∷ ns) all = is_frame-message known n (capture ns) (All-head (IsFrame known) n ns all)

-- Where no frame begins, none is taken.
none_taken : (known : ℕ) (xs : List ℕ) → (is_frame known xs ≡ true → ⊥) → is_taken known xs ≡ false
none_taken known xs none = and_left (is_frame known xs) _ (false_from_ne_true (is_frame known xs) none)

-- Bytes before the end, or before a frame that is taken, are one run, or no span where there are none.
run-before : (known offset : ℕ) (before tail : List ℕ)
    → ((k : ℕ) → k < length before → is_taken known (drop k (before ++ tail)) ≡ false)
    → (length tail ≡ 0) ⊎ (is_taken known tail ≡ true)
    → spans_from known offset (before ++ tail) ≡ run_at offset before ++ spans_from known (offset + length before) tail
run-before known offset [] tail none ends =
    let e : offset ≡ offset + 0 = omega arith in ap (λ (o : ℕ). spans_from known o tail) e
run-before known offset (b ∷ before) tail none ends =
    let front = b ∷ before in
    let long = length-append front tail in
    let gone : drop (length front) (front ++ tail) ≡ tail = drop_at front tail (length front) refl in
    spans-run known (length front) offset (front ++ tail) (omega arith) (omega (arith, long)) none
    (ended gone long ends)
    ∙ ap (λ (l : List ℕ). Bytes offset (length front) ∷ spans_from known (offset + length front) l) gone
  where
    ended : drop (length (b ∷ before)) ((b ∷ before) ++ tail) ≡ tail
        → length ((b ∷ before) ++ tail) ≡ length (b ∷ before) + length tail
        → (length tail ≡ 0) ⊎ (is_taken known tail ≡ true)
        → Ends known (length (b ∷ before)) ((b ∷ before) ++ tail)
    ended gone long (inl none) = inl (omega (arith, long, none))
    ended gone long (inr taken) = inr (ap (is_taken known) gone ∙ taken)

-- No offset is below that of the first byte.
later : (offset : ℕ) (ss : List Scattered) (x : ℕ) → Contains (offsets_from offset ss) x → offset ≤ x
later offset [] x (k, less, at) = absurd (omega (arith, less))
later offset (s ∷ more) x (zero, less, at) = omega (arith, at)
later offset (s ∷ more) x (suc k, less, at) =
    let rest = later (offset + length s.before + length (message_bytes s.message)) more x
    (k, omega (arith, less), at) in
    omega (arith, rest)

-- An offset is that of the first message, or one of the others.
first_or_later : (offset : ℕ) (s : Scattered) (more : List Scattered) (x : ℕ)
    → Contains (offsets_from offset (s ∷ more)) x
    → (x ≡ offset + length s.before)
    ⊎ Contains (offsets_from (offset + length s.before + length (message_bytes s.message)) more) x
first_or_later offset s more x (zero, less, at) = inl (sym at)
first_or_later offset s more x (suc k, less, at) = inr (k, omega (arith, less), at)

-- A place after a list is a place of what follows it.
drop_after : (k : ℕ) (front tail : List ℕ) → drop (length front + k) (front ++ tail) ≡ drop k tail
drop_after k front tail = sym (drop-drop k (length front) (front ++ tail))
    ∙ ap (drop k) (drop_at front tail (length front) refl)

-- Messages among other bytes are found each at its place, where no other frame begins.
pub scattered : (known offset : ℕ) (ss : List Scattered) (last : List ℕ)
    → All (λ (s : Scattered). IsFrame known s.message) ss
    → NoOtherFrame known offset (scattered_bytes ss last) (offsets_from offset ss)
    → spans_from known offset (scattered_bytes ss last) ≡ scattered_from offset ss last
scattered known offset [] last all alone =
    let none : (k : ℕ) → k < length last → is_taken known (drop k (last ++ [])) ≡ false =
    λ k less. ap (λ (l : List ℕ). is_taken known (drop k l)) (append-nil last)
    ∙ none_taken known (drop k last)
    (λ frame. nothing (alone k frame)) in
    ap (spans_from known offset) (sym (append-nil last)) ∙ run-before known offset last [] none (inl refl)
    ∙ append-nil (run_at offset last)
  where
    nothing : {x : ℕ} → Contains [] x → ⊥
    nothing (k, less, at) = omega (arith, less)
scattered known offset (s ∷ more) last all alone =
    let is = All-head (λ (s : Scattered). IsFrame known s.message) s more all in
    let others = All-tail (λ (s : Scattered). IsFrame known s.message) s more all in
    let m = s.message in
    let rest = scattered_bytes more last in
    let tail = message_bytes m ++ rest in
    let size : length (message_bytes m) ≡ 11 + length m.payload = omega arith in
    let place = offset + length s.before in
    let next = place + length (message_bytes m) in
    let before : (k : ℕ) → k < length s.before → is_taken known (drop k (s.before ++ tail)) ≡ false =
    λ k less. none_taken known (drop k (s.before ++ tail))
    (λ frame. too_early k less (first_or_later offset s more (offset + k) (alone k frame))) in
    let inside : (k : ℕ) → 1 ≤ k → k < frame_size tail → is_firm (is_frame known) (drop k tail) ≡ false =
    λ k some less. and_left (is_frame known (drop k tail)) _
    (false_from_ne_true (is_frame known (drop k tail))
    (λ frame. amid k some less (first_or_later offset s more (offset + (length s.before + k))
    (alone (length s.before + k) (ap (is_frame known) (drop_after k s.before tail) ∙ frame))))) in
    let frame = is_frame-message known m rest is in
    let taken : is_taken known tail ≡ true =
    and_from _ _ frame (or_right (is_firm (is_frame known) tail) _
    (ap not (inside-none (is_frame known) tail inside))) in
    let apart : NoOtherFrame known next rest (offsets_from next more) =
    λ k frame. beyond k (first_or_later offset s more (offset + (length s.before + (length (message_bytes m) + k)))
    (alone (length s.before + (length (message_bytes m) + k))
    (ap (is_frame known)
    (drop_after (length (message_bytes m) + k) s.before tail ∙ drop_after k (message_bytes m) rest)
    ∙ frame))) in
    run-before known offset s.before tail before (inr taken)
    ∙ ap (λ (l : List Span). run_at offset s.before ++ l)
    (message-taken known place m rest is.ranges taken
    ∙ ap (λ (l : List Span). Frame place m ∷ l) (scattered known next more last others apart))
  where
    offsets_after : List ℕ
    offsets_after = offsets_from (offset + length s.before + length (message_bytes s.message)) more

    too_early : (k : ℕ) → k < length s.before
        → (offset + k ≡ offset + length s.before) ⊎ Contains offsets_after (offset + k) → ⊥
    too_early k less (inl same) = omega (arith, less, same)
    too_early k less (inr among) =
        let far = later (offset + length s.before + length (message_bytes s.message)) more (offset + k) among in
        omega (arith, less, far)

    amid : (k : ℕ) → 1 ≤ k → k < 11 + length s.message.payload
        → (offset + (length s.before + k) ≡ offset + length s.before)
        ⊎ Contains offsets_after (offset + (length s.before + k)) → ⊥
    amid k some less (inl same) = omega (arith, some, same)
    amid k some less (inr among) =
        let far =
        later (offset + length s.before + length (message_bytes s.message)) more
        (offset + (length s.before + k)) among in
        omega (arith, less, far)

    beyond : (k : ℕ)
        → (offset + (length s.before + (length (message_bytes s.message) + k)) ≡ offset + length s.before)
        ⊎ Contains offsets_after (offset + (length s.before + (length (message_bytes s.message) + k)))
        → Contains offsets_after (offset + length s.before + length (message_bytes s.message) + k)
    beyond k (inl same) = absurd (omega (arith, same))
    beyond k (inr among) =
        let e : offset + (length s.before + (length (message_bytes s.message) + k))
        ≡ offset + length s.before + length (message_bytes s.message) + k = omega arith in
        subst (Contains offsets_after) e among
