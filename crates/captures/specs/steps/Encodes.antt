-- Events of a log that are encoded after others.
use Rattle.std.specs.Prelude.{ℕ, List, ◌++◌}
use Rattle.retire.specs.declared.event.Event.{Event}
use Rattle.rvclass.specs.Words.{Words}
use Rattle.legalpath.specs.Legal.{Legal}
use Rattle.encoder.specs.EncoderStands.{EncoderStands}
use Rattle.encoder.specs.PacketsSoFar.{packets_so_far}
use Rattle.encoder.specs.declared.encoder.Encoder.{Encoder}
use Rattle.message.specs.declared.message.Message.{Message}
use Rattle.payload.specs.declared.mode.Mode.{Mode}
use Rattle.captures.specs.HasEncoded.{AreWritten}
use Rattle.captures.specs.declared.messages.Messages.{Messages}

-- The events of a log so far are encoded: the encoder has taken them, and the messages of their packets are written.
pub record EncodedSoFar (text : Message → List ℕ) (words : Words) (period : ℕ) (mode : Mode) (hart : ℕ)
    (log : List Event) (encoder : Encoder) (messages : Messages) : Type 0 where
  pub stands : EncoderStands words period mode log encoder
  pub written : AreWritten text hart (packets_so_far words period mode log) messages

-- These events are encoded after those of any log that they follow legally.
abbrev pub Encodes : (Message → List ℕ) → Words → List Event → Encoder → Messages → Encoder → Messages → Type 0
Encodes text words events encoder messages encoder_after messages_after =
    (period : ℕ) (mode : Mode) (hart : ℕ) (log : List Event) →
    EncodedSoFar text words period mode hart log encoder messages →
    Legal words (log ++ events) →
    EncodedSoFar text words period mode hart (log ++ events) encoder_after messages_after
