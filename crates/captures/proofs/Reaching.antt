-- How far a capture was received.
use Rattle.std.proofs.Common.{◌≡◌, ℕ, List, [], ◌∷◌, ◌++◌, sym, ap, ◌∙◌, append_assoc}
use Rattle.message.specs.Capture.{capture, message_bytes}
use Rattle.message.specs.declared.message.Message.{Message}

-- A message behind others in a capture.
pub capture_next : (front : List Message) (message : Message) (rest : List ℕ)
    → capture (front ++ message ∷ []) ++ rest ≡ capture front ++ (message_bytes message ++ rest)
capture_next [] message rest = append_assoc (message_bytes message) [] rest
capture_next (first ∷ front) message rest =
    append_assoc (message_bytes first) (capture (front ++ message ∷ [])) rest
    ∙ ap (λ bytes. message_bytes first ++ bytes) (capture_next front message rest)
    ∙ sym (append_assoc (message_bytes first) (capture front) (message_bytes message ++ rest))
