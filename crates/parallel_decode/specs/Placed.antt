-- Logs whose messages are at places of bytes.
use Rattle.std.specs.Prelude.{ℕ, ◌≡◌, List, Some, length, slice_get}
use Rattle.std.specs.declared.vec.Vec.{Vec}
use Rattle.retire.specs.declared.event.Event.{Event}
use Rattle.rvclass.specs.Words.{Words}
use Rattle.decoder.specs.Describes.{Describes}
use Rattle.message.specs.OfHart.{packets_in}
use Rattle.message.specs.declared.message.Message.{Message}
use Rattle.parallel_decode.specs.Places.{AreAt}

-- The messages of a hart are at these places, and their packets describe this log.
pub record IsPlacedLog (words : Words) (bytes places : List ℕ) (log : List Event) : Type 0 where
  pub messages : List Message
  pub placed : AreAt bytes places messages
  pub described : Describes words (packets_in messages) log

-- The messages of each hart are at the places of its list, and their packets describe the hart's log.
pub record ArePlacedLogs {A : Type 0} (words : Words) (bytes : List ℕ) (places : List (Vec ℕ A))
    (logs : List (List Event)) : Type 0 where
  pub count : length logs ≡ length places
  pub each : (hart : ℕ) (own : Vec ℕ A) (log : List Event) → slice_get places hart ≡ Some own
      → slice_get logs hart ≡ Some log → IsPlacedLog words bytes own.items log
