-- The message that bytes begin with is passed over.
use Rattle.std.proofs.Common.{◌≡◌, ◌+◌, ◌<◌, ◌++◌, ℕ, List, [], Option, Some, None, Result, Ok, Err, IfOk, IfSome}
use Rattle.std.proofs.Common.{length, drop, sym, ap, subst, ◌∙◌, arith, drop_at}
use Rattle.std.proofs.lemmas.List.{length-append}
use Rattle.message.specs.steps.Filling.{AreBytes}
use Rattle.message.specs.Capture.{message_bytes}
use Rattle.message.specs.Cut.{IsMessage}
use Rattle.message.specs.steps.Front.{first_message}
use Rattle.message.specs.steps.Passing.{left_by}
use Rattle.message.specs.declared.fault.MessageFault.{MessageFault}
use Rattle.message.specs.declared.message.Message.{Message}
use Rattle.message.proofs.Fronts.{Stands, first_message-end, first_message-stands, first_message-reads_back}

-- A message that is found stands before what is left.
pub passed-message : (old new : List ℕ) (r : Result (Option Message) MessageFault) → AreBytes old
    → r ≡ first_message old → new ≡ left_by old r
    → IfOk r (λ found. IfSome found (λ message. old ≡ message_bytes message ++ new))
passed-message old new r bytes is left = passed r left (subst (Stands old) (sym is) (first_message-stands old bytes))
  where
    passed : (r : Result (Option Message) MessageFault) → new ≡ left_by old r → Stands old r
        → IfOk r (λ found. IfSome found (λ message. old ≡ message_bytes message ++ new))
    passed (Err why) left stands = tt
    passed (Ok None) left stands = tt
    passed (Ok (Some message)) left stands = stands.0 ∙ ap (λ (l : List ℕ). message_bytes message ++ l) (sym left)

-- So less is left.
pub passed-shorter : (old new : List ℕ) (r : Result (Option Message) MessageFault)
    → IfOk r (λ found. IfSome found (λ message. old ≡ message_bytes message ++ new))
    → IfOk r (λ found. IfSome found (λ message. length new < length old))
passed-shorter old new (Err why) begins = tt
passed-shorter old new (Ok None) begins = tt
passed-shorter old new (Ok (Some message)) begins =
    let joined = ap length begins in
    let both = length-append message.payload new in
    omega (arith, joined, both)

-- A message that stands there is found, and what stands behind it is left.
pub passed-reads_back : (old new : List ℕ) (r : Result (Option Message) MessageFault) (message : Message)
    (rest : List ℕ) → IsMessage message
    → old ≡ message_bytes message ++ rest → r ≡ first_message old → new ≡ left_by old r → (r ≡ Ok (Some message))
    × (new ≡ rest)
passed-reads_back old new r message rest is begins found left =
    let here : r ≡ Ok (Some message) = found ∙ ap first_message begins ∙ first_message-reads_back message rest is in
    let size : length (message_bytes message) ≡ 11 + length message.payload = omega arith in
    let behind : drop (11 + length message.payload) (message_bytes message ++ rest) ≡ rest =
    drop_at (message_bytes message) rest (11 + length message.payload) size in
    (here, left ∙ ap (left_by old) here ∙ ap (drop (11 + length message.payload)) begins ∙ behind)

-- Where no message is found nothing is left.
pub passed-ended : (old new : List ℕ) (r : Result (Option Message) MessageFault) → r ≡ Ok None → r ≡ first_message old
    → new ≡ left_by old r → new ≡ []
passed-ended old new r none found left = left ∙ ap (left_by old) none ∙ (first_message-end old).0 (sym found ∙ none)
