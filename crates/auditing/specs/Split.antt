-- The payloads of messages, by hart.
use Rattle.std.specs.Prelude.{ℕ, ◌≡◌, List, Some, length, slice_get}
use Rattle.message.specs.declared.message.Message.{Message}
use Rattle.payload.specs.declared.by.By.{By}
use Rattle.auditing.specs.Aligned.{known_payloads}

-- Of each of so many harts there is what the payloads of its messages are known by.
pub record AreSplit (by : By) (harts : ℕ) (messages : List Message) (lists : List (List (List ℕ))) : Type 0 where
  pub count : length lists ≡ harts
  pub each : (hart : ℕ) (own : List (List ℕ)) → slice_get lists hart ≡ Some own
      → own ≡ known_payloads by hart messages

-- What is kept of SENT: by what payloads are compared, and what those of each hart are known by.
pub record Kept : Type 0 where
  pub by : By
  pub lists : List (List (List ℕ))
