-- Bytes that begin with messages.
use Rattle.std.proofs.Common.{◌≡◌, ℕ, All, List, [], ◌∷◌, ◌++◌, length, refl, sym, ap, ◌∙◌, arith}
use Rattle.std.proofs.lemmas.List.{append_assoc, append_cancel_left}
use Rattle.std.proofs.lemmas.List.Elements.{All-head, All-tail}
use Rattle.message.proofs.ReadBack.{message_only, not_cut, not_bad}
use Rattle.message.specs.Capture.{message_bytes, capture}
use Rattle.message.specs.Cut.{IsMessage, IsCut, HasBadLength}
use Rattle.message.specs.declared.message.Message.{Message}

-- A message is never no bytes.
not_empty : (message : Message) (rest : List ℕ) → message_bytes message ++ rest ≡ [] → ⊥
not_empty message rest none = let count = ap length none in omega (arith, count)

-- The first messages of all, and the bytes of the others.
pub record Split (all messages : List Message) (rest : List ℕ) : Type 0 where
  pub later : List Message
  pub whole : all ≡ messages ++ later
  pub bytes : rest ≡ capture later

-- Where bytes are the capture of all messages, the messages that they begin with are the first of them.
pub capture_split : (all messages : List Message) (rest : List ℕ) → All IsMessage all → All IsMessage messages
    → capture all ≡ capture messages ++ rest → Split all messages rest
capture_split all [] rest good ranges same = record { later = all; whole = refl; bytes = sym same }
capture_split [] (message ∷ messages) rest good ranges same =
    absurd
    (not_empty message (capture messages ++ rest)
    (sym (append_assoc (message_bytes message) (capture messages) rest) ∙ sym same))
capture_split (first ∷ all) (message ∷ messages) rest good ranges same =
    let long : message_bytes first ++ capture all ≡ message_bytes message ++ (capture messages ++ rest) =
    same ∙ append_assoc (message_bytes message) (capture messages) rest in
    let one : first ≡ message =
    message_only first message (capture all) (capture messages ++ rest) (All-head IsMessage first all good)
    (All-head IsMessage message messages ranges) long in
    let behind : capture all ≡ capture messages ++ rest =
    append_cancel_left (message_bytes message) (capture all) (capture messages ++ rest)
    (ap (λ m. message_bytes m ++ capture all) (sym one) ∙ long) in
    let split =
    capture_split all messages rest (All-tail IsMessage first all good) (All-tail IsMessage message messages ranges)
    behind in
    let whole = split.whole in
    record { later = split.later; whole = cc; bytes = split.bytes }

-- A capture of no bytes has no messages.
pub capture_none : (messages : List Message) → capture messages ≡ [] → messages ≡ []
capture_none [] none = refl
capture_none (message ∷ messages) none = absurd (not_empty message (capture messages) none)

-- A capture does not end within a message.
pub capture_not_cut : (messages : List Message) → All IsMessage messages → IsCut (capture messages) → ⊥
capture_not_cut [] good cut = let some = cut.some in omega (arith, some)
capture_not_cut (message ∷ messages) good cut =
    not_cut message (capture messages) (All-head IsMessage message messages good) cut

-- Nor has a message of it a bad length.
pub capture_not_bad : (messages : List Message) → All IsMessage messages → HasBadLength (capture messages) → ⊥
capture_not_bad [] good bad = let some = bad.0 in omega (arith, some)
capture_not_bad (message ∷ messages) good bad =
    not_bad message (capture messages) (All-head IsMessage message messages good) bad

-- The first message of a capture is the one that its bytes begin with.
pub capture_first : (messages : List Message) (message : Message) (rest : List ℕ) → All IsMessage messages
    → IsMessage message → capture messages ≡ message_bytes message ++ rest
    → (later : List Message) × (messages ≡ message ∷ later)
capture_first [] message rest good is same = absurd (not_empty message rest (sym same))
capture_first (first ∷ messages) message rest good is same =
    let one : first ≡ message =
    message_only first message (capture messages) rest (All-head IsMessage first messages good) is same in
    (messages, ap (λ m. m ∷ messages) one)
