-- How far a hart's log is encoded.
use Rattle.std.specs.Prelude.{◌≡◌, ℕ, Bool, true, false, List, [], length, map}
use Rattle.std.specs.List.{flat_map}
use Rattle.retire.specs.declared.event.Event.{Event}
use Rattle.rvclass.specs.Words.{Words}
use Rattle.encoder.specs.EncoderStands.{EncoderStands}
use Rattle.encoder.specs.PacketsSoFar.{packets_so_far}
use Rattle.message.specs.Numbered.{messages_from}
use Rattle.message.specs.declared.message.Message.{Message}
use Rattle.payload.specs.Spelling.{payload_of}
use Rattle.payload.specs.declared.mode.Mode.{Mode}
use Rattle.payload.specs.declared.packet.Packet.{Packet}
use Rattle.captures.specs.declared.hart_messages.HartMessages.{HartMessages}
use Rattle.captures.specs.declared.messages.Messages.{Messages}

-- What the messages of a hart with these packets are written as, numbered from this number on.
abbrev pub packets_text : (Message → List ℕ) → ℕ → ℕ → List Packet → List ℕ
packets_text text hart number packets = flat_map text (messages_from hart number (map payload_of packets))

-- The messages of this hart with these packets are written, numbered from 0 on.
pub record AreWritten (text : Message → List ℕ) (hart : ℕ) (packets : List Packet) (messages : Messages) : Type 0 where
  pub of_hart : messages.hart ≡ hart
  pub number : messages.number ≡ length packets
  pub bytes : messages.bytes.items ≡ packets_text text hart 0 packets

-- The packets whose messages are written: none before the first call that is given events or the end, and from then on
-- all that the events so far decide.
abbrev pub packets_written : Words → ℕ → Mode → List Event → Bool → List Packet
packets_written words period mode seen false = []
packets_written words period mode seen true = packets_so_far words period mode seen

-- These events of a hart's log are encoded, and no others: the encoder has taken them, and the messages of the packets
-- that they decide are written. `text` says what a message is written as. While no message is written, there are none.
pub record HasEncoded {F : Type 0} (text : Message → List ℕ) (words : Words) (period : ℕ) (mode : Mode) (hart : ℕ)
    (seen : List Event) (messages : HartMessages F) : Type 0 where
  pub stands : EncoderStands words period mode seen messages.encoder
  pub written : AreWritten text hart (packets_written words period mode seen messages.is_open) messages.messages
  pub first : messages.is_open ≡ false → seen ≡ []
