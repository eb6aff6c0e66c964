-- The order of one hart's messages.
use Rattle.std.specs.Prelude.{◌≡◌, ℕ, List, length, Some, slice_get}
use Rattle.message.specs.declared.message.Message.{Message}
use Rattle.funnel.specs.Payloads.{ClosesOnlyLast, payloads_in}

-- The messages are of this hart, numbered from 0 on, and only the last of them may have a closing payload.
pub record AreInOrder (hart : ℕ) (messages : List Message) : Type 0 where
  pub numbered : (n : ℕ) (message : Message) → slice_get messages n ≡ Some message
      → (message.hart ≡ hart) × (message.number ≡ n)
  pub closes_last : ClosesOnlyLast (payloads_in messages)

-- The message that a hart sends next after these, with this payload. Its number is the count of these.
abbrev pub next_message : ℕ → List Message → List ℕ → Message
next_message hart sent payload = record { hart = hart; number = length sent; payload = payload }
