-- What a message of a capture does.
use Rattle.std.specs.Prelude.{ℕ, ◌≡◌, ◌++◌, Bool, false, List, [], ◌∷◌, Option, Some, None, length}
use Rattle.std.specs.List.{last_or}
use Rattle.retire.specs.declared.event.Event.{Event}
use Rattle.rvclass.specs.Words.{Words}
use Rattle.payload.specs.ClosedTrace.{last_is_closing}
use Rattle.payload.specs.declared.packet.Packet.{Packet}
use Rattle.decoder.specs.Describes.{Describes}
use Rattle.decoder.specs.Settling.{waits}
use Rattle.message.specs.OfHart.{packets_of}
use Rattle.message.specs.declared.message.Message.{Message}

-- The events that a message adds to its hart's list; how many that list has with them; whether the message's packet waits
-- for the next one of its hart; whether it closes its hart.
pub record Effect : Type 0 where
  pub added : List Event
  pub rows : ℕ
  pub waits : Bool
  pub closes : Bool

-- The packet, if there is one, waits for the one that follows it.
abbrev pub does_wait : Option Packet → Bool
does_wait None = false
does_wait (Some packet) = waits packet

-- The last of the packets waits for the one that follows it.
abbrev pub last_is_waiting : List Packet → Bool
last_is_waiting packets = does_wait (last_or None packets)

-- A message, after these messages, has this effect by the program: what its hart's messages up to it decode to is what
-- those before it do, and then the events that it adds. It waits, and it closes its hart, as the last packet of its
-- hart up to it does.
pub record HasEffect (words : Words) (before : List Message) (message : Message) (effect : Effect) : Type 0 where
  pub earlier : List Event
  pub described_before : Describes words (packets_of message.hart before) earlier
  pub described : Describes words (packets_of message.hart (before ++ message ∷ [])) (earlier ++ effect.added)
  pub counted : effect.rows ≡ length (earlier ++ effect.added)
  pub waiting : effect.waits ≡ last_is_waiting (packets_of message.hart (before ++ message ∷ []))
  pub closing : effect.closes ≡ last_is_closing (packets_of message.hart (before ++ message ∷ []))

-- Messages, after these messages, have these effects, in order.
abbrev pub HaveEffects : Words → List Message → List Message → List Effect → Type 0
HaveEffects words before [] [] = Unit {0}
HaveEffects words before [] (effect ∷ effects) = ⊥
HaveEffects words before (message ∷ messages) [] = ⊥
HaveEffects words before (message ∷ messages) (effect ∷ effects) =
    HasEffect words before message effect × HaveEffects words (before ++ message ∷ []) messages effects
