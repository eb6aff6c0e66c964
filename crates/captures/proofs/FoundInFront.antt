-- The message that was found in front of bytes.
use Rattle.std.proofs.Common.{◌≡◌, ◌++◌, ◌<◌, ℕ, List, length, Option, Some, subst, IfSome}
use Rattle.message.specs.Capture.{message_bytes}
use Rattle.message.specs.Cut.{IsMessage}
use Rattle.message.specs.declared.message.Message.{Message}

-- The message stands in front of the bytes, and the next ones are left.
pub record InFront (left next : List ℕ) (message : Message) : Type 0 where
  pub is_message : IsMessage message
  pub here : left ≡ message_bytes message ++ next
  pub shorter : length next < length left

-- What is said of a message if one is found is said of the one that is.
pub in_front : (left next : List ℕ) (found : Option Message) (message : Message) → found ≡ Some message
    → IfSome found (λ m. IsMessage m) → IfSome found (λ m. left ≡ message_bytes m ++ next)
    → IfSome found (λ m. length next < length left) → InFront left next message
in_front left next found message is ranges begins shorter = record {
  is_message = subst (λ o. IfSome o (λ m. IsMessage m)) is ranges;
  here = subst (λ o. IfSome o (λ (m : Message). left ≡ message_bytes m ++ next)) is begins;
  shorter = subst (λ o. IfSome o (λ (m : Message). length next < length left)) is shorter;
}
