-- States of decoders, kept on the way through a hart's messages.
use Rattle.std.specs.Prelude.{ℕ, ◌≡◌, ◌<◌, ◌≤◌, ◌-◌, ◌^◌, ◌++◌, ⊤, All, List, [], ◌∷◌, Some, length, min, slice_get, take}
use Rattle.std.specs.declared.vec.Vec.{Vec}
use Rattle.retire.specs.declared.event.Event.{Event}
use Rattle.rvclass.specs.Words.{Words}
use Rattle.decoder.specs.Describes.{Describes}
use Rattle.decoder.specs.DecoderStands.{DecoderStands}
use Rattle.message.specs.OfHart.{packets_in}
use Rattle.message.specs.declared.message.Message.{Message}
use Rattle.parallel_decode.specs.Places.{AreAt}
use Rattle.parallel_decode.specs.declared.mark.Mark.{Mark}

-- The decoder of the mark is the one after so many of these messages. They settle the first events of the log, so many.
pub record IsMark (words : Words) (messages : List Message) (log : List Event) (mark : Mark) : Type 0 where
  pub before : List Event
  pub rest : List Event
  pub whole : log ≡ before ++ rest
  pub within : mark.taken ≤ length messages
  pub stands : DecoderStands words (packets_in (take mark.taken messages)) before mark.decoder
  pub counted : mark.events ≡ min (2 ^ 64 - 1) (length before)

-- Each mark comes after more messages than the one before it, and the first after more than these.
abbrev pub AreRising : ℕ → List Mark → Type 0
AreRising taken [] = ⊤
AreRising taken (mark ∷ marks) = (taken < mark.taken) × AreRising mark.taken marks

-- The messages of a hart are at these places, their packets describe this log, and these are marks on the way.
pub record IsMarkedLog (words : Words) (bytes places : List ℕ) (marks : List Mark) (log : List Event) : Type 0 where
  pub messages : List Message
  pub placed : AreAt bytes places messages
  pub described : Describes words (packets_in messages) log
  pub marked : All (IsMark words messages log) marks
  pub rising : AreRising 0 marks

-- Of each hart the messages are at the places of its list, their packets describe its log, and the marks of its list are
-- on the way.
pub record AreMarkedLogs {A B : Type 0} (words : Words) (bytes : List ℕ) (places : List (Vec ℕ A))
    (marks : List (Vec Mark B)) (logs : List (List Event)) : Type 0 where
  pub count : length logs ≡ length places
  pub as_many : length marks ≡ length places
  pub each : (hart : ℕ) (own : Vec ℕ A) (on_way : Vec Mark B) (log : List Event) → slice_get places hart ≡ Some own
      → slice_get marks hart ≡ Some on_way → slice_get logs hart ≡ Some log
      → IsMarkedLog words bytes own.items on_way.items log
