-- Whether bytes are messages to their end, message by message.
use Rattle.std.proofs.Common.{◌≡◌, ◌==◌, ◌-◌, ◌≤◌, ℕ, zero, suc, All, true, false, List, [], ◌∷◌, Some, None, ◌++◌}
use Rattle.std.proofs.Common.{drop, length, refl, ap, sym, ◌∙◌, arith}
use Rattle.std.proofs.lemmas.Bool.{and_left, and_parts, ne_eqb}
use Rattle.std.proofs.lemmas.List.{length-drop}
use Rattle.std.proofs.lemmas.List.Elements.{All-cons, All-head, All-tail}
use Rattle.message.proofs.Heads.{AreBytes-drop}
use Rattle.message.specs.Capture.{capture, message_bytes}
use Rattle.message.specs.Cut.{IsMessage}
use Rattle.message.specs.declared.message.Message.{Message}
use Rattle.message.specs.steps.Filling.{AreBytes}
use Rattle.frames.specs.Frame.{frame_in, frame_size, is_complete, message_size}
use Rattle.frames.specs.Framed.{framed_after, is_framed}
use Rattle.frames.proofs.FrameLemmas.{begins_complete, complete, is_complete-message}
use Rattle.frames.proofs.GuidedTakenLemmas as guided
use Rattle.frames.proofs.GuidedTakenLemmas.{none_begins}
use Rattle.frames.proofs.ScatteredLemmas.{after_message}

-- What belongs to a message is passed over at once.
framed-rest : (n : ℕ) (xs : List ℕ) → framed_after n xs ≡ is_framed (drop n xs)
framed-rest zero xs = refl
framed-rest (suc n) [] = refl
framed-rest (suc n) (b ∷ bytes) = framed-rest n bytes

-- After a complete message the others are left.
framed-next : (xs : List ℕ) → is_complete xs ≡ true → is_framed xs ≡ is_framed (drop (frame_size xs) xs)
framed-next [] is = let c = complete [] is in let fits = c.fits in absurd (omega (arith, fits))
framed-next (b ∷ bytes) is =
    let size = frame_size (b ∷ bytes) in
    let whole : suc (size - 1) ≡ size = omega arith in
    rw is (framed-rest (size - 1) bytes) ∙ ap (λ (n : ℕ). is_framed (drop n (b ∷ bytes))) whole

-- Where no complete message is, only no bytes are messages to their end.
framed-end : (xs : List ℕ) → is_complete xs ≡ false → (length xs == 0) ≡ is_framed xs
framed-end [] none = refl
framed-end (x ∷ xs) none =
    ne_eqb (length (x ∷ xs)) 0 (λ e. omega (arith, e)) ∙ sym (and_left (is_complete (x ∷ xs)) _ none)

-- The same by how many bytes the message has.
pub next : (xs : List ℕ) (size : ℕ) → Some size ≡ message_size xs → is_framed xs ≡ is_framed (drop size xs)
next xs size e =
    let its = guided.its xs size e in
    framed-next xs its.0 ∙ ap (λ (n : ℕ). is_framed (drop n xs)) (sym its.1)

pub end : (xs : List ℕ) → None ≡ message_size xs → (length xs == 0) ≡ is_framed xs
end xs e = framed-end xs (none_begins xs e)

-- Messages one after the other are messages to the end.
pub framed-capture : (ms : List Message) → All IsMessage ms → is_framed (capture ms) ≡ true
framed-capture [] all = refl
framed-capture (m ∷ ms) all =
    let xs = message_bytes m ++ capture ms in
    framed-next xs (is_complete-message m (capture ms) (All-head IsMessage m ms all))
    ∙ ap is_framed (after_message m (capture ms)) ∙ framed-capture ms (All-tail IsMessage m ms all)

-- Bytes that are messages to the end are those of messages, one after the other.
pub framed-made : (limit : ℕ) (xs : List ℕ) → AreBytes xs → length xs ≤ limit → is_framed xs ≡ true
    → (ms : List Message) × All IsMessage ms × (xs ≡ capture ms)
framed-made limit [] are few is = ([], λ k m within. absurd (omega (arith, within)), refl)
framed-made zero (b ∷ bytes) are few is = absurd (omega (arith, few))
framed-made (suc limit) (b ∷ bytes) are few is =
    let xs = b ∷ bytes in
    let whole : is_complete xs ≡ true = (and_parts (is_complete xs) _ is).0 in
    let c = complete xs whole in
    let fits = c.fits in
    let first = frame_in xs in
    let begins = begins_complete xs are whole in
    let size = frame_size xs in
    let left = length-drop size xs in
    let rest : drop size xs ≡ begins.rest =
    ap (λ (l : List ℕ). drop (frame_size l) l) begins.whole ∙ after_message first begins.rest in
    let others = framed-made limit (drop size xs) (AreBytes-drop size xs are) (omega (arith, few, fits, left))
    (sym (framed-next xs whole) ∙ is) in (
      first ∷ others.0,
      All-cons IsMessage first others.0 begins.ranges others.1,
      begins.whole ∙ ap (λ (l : List ℕ). message_bytes first ++ l) (sym rest ∙ others.2),
    )
