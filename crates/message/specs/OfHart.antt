-- The messages of one hart, and their packets.
use Rattle.std.specs.Prelude.{ℕ, ◌==◌, List, [], ◌∷◌, ◌++◌, Result, Ok, Err}
use Rattle.std.specs.List.{filter}
use Rattle.payload.specs.Reading.{reading}
use Rattle.payload.specs.declared.fault.PackFault.{PackFault}
use Rattle.payload.specs.declared.packet.Packet.{Packet}
use Rattle.message.specs.declared.message.Message.{Message}

-- The messages of a hart among those of several.
abbrev pub of_hart : ℕ → List Message → List Message
of_hart hart messages = filter (λ (message : Message). message.hart == hart) messages

-- The packet that bytes unpack to, or none.
abbrev pub packet_or_none : Result Packet PackFault → List Packet
packet_or_none (Ok packet) = packet ∷ []
packet_or_none (Err fault) = []

-- The packets that the payloads of messages unpack to.
abbrev pub packets_in : List Message → List Packet
packets_in [] = []
packets_in (message ∷ messages) = packet_or_none (reading message.payload) ++ packets_in messages

-- The packets of a hart's messages.
abbrev pub packets_of : ℕ → List Message → List Packet
packets_of hart messages = packets_in (of_hart hart messages)
