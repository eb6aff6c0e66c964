-- How many payload bytes some messages have at most.
use Rattle.std.proofs.Common.{◌≡◌, ◌≤◌, ◌+◌, ◌++◌, ℕ, suc, Bool, true, false, List, [], ◌∷◌, arith, length}
use Rattle.std.proofs.lemmas.List.{length-append}
use Rattle.std.specs.Prelude.{◌==◌, if◌then◌else◌}
use Rattle.message.specs.Capture.{head_bytes, message_bytes}
use Rattle.message.specs.OfHart.{of_hart}
use Rattle.message.specs.declared.message.Message.{Message}
use Rattle.comparing.specs.Counts.{payload_bytes}

-- Messages after others have their own payload bytes.
pub payload_bytes-append : (messages more : List Message)
    → payload_bytes (messages ++ more) ≡ payload_bytes messages + payload_bytes more
payload_bytes-append [] more = omega arith
payload_bytes-append (message ∷ messages) more =
    let rest = payload_bytes-append messages more in omega (arith, rest)

-- A message has more bytes than its payload.
pub message_longer : (message : Message) → length message.payload + 1 ≤ length (message_bytes message)
message_longer message =
    let all = length-append (head_bytes message) message.payload in omega (arith, all)

-- Those of a hart have no more than all.
pub hart_fewer : (hart : ℕ) (messages : List Message)
    → (payload_bytes (of_hart hart messages) ≤ payload_bytes messages)
    × (length (of_hart hart messages) ≤ length messages)
hart_fewer hart [] = (omega arith, omega arith)
hart_fewer hart (message ∷ messages) =
    let rest = hart_fewer hart messages in go (message.hart == hart) rest.0 rest.1
  where
    go : (own : Bool) → payload_bytes (of_hart hart messages) ≤ payload_bytes messages
        → length (of_hart hart messages) ≤ length messages
        → (payload_bytes (if own then message ∷ of_hart hart messages else of_hart hart messages)
        ≤ length message.payload + payload_bytes messages)
        × (length (if own then message ∷ of_hart hart messages else of_hart hart messages) ≤ suc (length messages))
    go true bytes few = (omega (arith, bytes), omega (arith, few))
    go false bytes few = (omega (arith, bytes), omega (arith, few))
