-- Packets whose messages are written after others.
use Rattle.std.specs.Prelude.{◌≡◌, ℕ, ◌+◌, List, ◌++◌, length}
use Rattle.message.specs.declared.message.Message.{Message}
use Rattle.payload.specs.declared.packet.Packet.{Packet}
use Rattle.captures.specs.HasEncoded.{packets_text}
use Rattle.captures.specs.declared.messages.Messages.{Messages}

-- The messages of these packets are written after those before.
pub record Adds (text : Message → List ℕ) (packets : List Packet) (old new : Messages) : Type 0 where
  pub hart : new.hart ≡ old.hart
  pub number : new.number ≡ old.number + length packets
  pub bytes : new.bytes.items ≡ old.bytes.items ++ packets_text text old.hart old.number packets
