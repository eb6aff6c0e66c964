-- What an encoder becomes by several events, and what they give.
use Rattle.std.specs.Prelude.{◌≡◌, All, List, [], ◌∷◌, ◌++◌}
use Rattle.retire.specs.Is64Bit.{Is64Bit}
use Rattle.retire.specs.declared.event.Event.{Event}
use Rattle.rvclass.specs.Words.{Words}
use Rattle.payload.specs.declared.packet.Packet.{Packet}
use Rattle.encoder.specs.steps.Stepping.{given, encoder_after}
use Rattle.encoder.specs.declared.encoder.Encoder.{Encoder}

-- The encoder after these events.
abbrev pub encoder_after_all : Words → Encoder → List Event → Encoder
encoder_after_all words e [] = e
encoder_after_all words e (event ∷ events) = encoder_after_all words (encoder_after words e event) events

-- The packets that these events give.
abbrev pub given_all : Words → Encoder → List Event → List Packet
given_all words e [] = []
given_all words e (event ∷ events) = given words e event ++ given_all words (encoder_after words e event) events

-- An encoder that takes these events, whose numbers are of 64 bits, becomes this other one, and gives these packets.
pub record Becomes (words : Words) (e : Encoder) (events : List Event) (e' : Encoder) (packets : List Packet)
    : Type 0 where
  pub numbers : All Is64Bit events
  pub after : e' ≡ encoder_after_all words e events
  pub given : packets ≡ given_all words e events

-- These events give no packet.
abbrev pub GivesNothing : Words → Encoder → List Event → Type 0
GivesNothing words e events = Becomes words e events (encoder_after_all words e events) []
