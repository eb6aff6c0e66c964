-- What a whole result means for the decoder.
use Rattle.std.specs.Prelude.{ℕ, ◌≡◌, ◌<◌, Bool, true, List, Option, Some, None}
use Rattle.retire.specs.declared.event.Event.{Event}
use Rattle.message.specs.declared.header.Header.{Header}
use Rattle.message.specs.declared.message.Message.{Message}
use Rattle.captures.specs.Returned.{IsMemory}
use Rattle.captures.specs.declared.outcome.CaptureFault.{CaptureFault}
use Rattle.auditing.specs.Judged.{strangers_in}
use Rattle.auditing.specs.Sent.{harts_of}
use Rattle.auditing.specs.Tallies.{is_whole}

-- Every hart of SENT is whole, and RECEIVED has no stranger.
pub record AreAllWhole (header : Option Header) (sent received : List Message) : Type 0 where
  pub harts : (hart : ℕ) → hart < harts_of header sent → is_whole sent received hart ≡ true
  pub strangers : strangers_in sent received ≡ 0

-- The same lists and the same flags come once more, and decoding comes to the end; or it stopped where an allocation
-- failed.
abbrev pub AreDecodedAgain : List (List Event) → List Bool → List (List Event) → List Bool
    → Option (ℕ × CaptureFault) → Type 0
AreDecodedAgain lists closed again flags None = (again ≡ lists) × (flags ≡ closed)
AreDecodedAgain lists closed again flags (Some stop) = IsMemory stop.1
