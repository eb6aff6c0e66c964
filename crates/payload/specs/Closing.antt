-- Packets and payloads that close a trace.
use Rattle.std.specs.Prelude.{Bool, true, false, List, ℕ, Result, Ok, Err}
use Rattle.payload.specs.Reading.{reading}
use Rattle.payload.specs.declared.packet.Packet.{Packet}
use Rattle.payload.specs.declared.packet.Packet.TheVariants as packet
use Rattle.payload.specs.declared.packet.Support.TheVariants as support
use Rattle.payload.specs.declared.fault.PackFault.{PackFault}

-- The packet closes a trace: its `qual_status` is ended_rep or ended_ntr.
abbrev pub is_closing_packet : Packet → Bool
is_closing_packet (packet.Support support.EndedRep) = true
is_closing_packet (packet.Support support.EndedNtr) = true
is_closing_packet other = false

-- What was read is a packet that closes a trace.
abbrev pub is_closing_reading : Result Packet PackFault → Bool
is_closing_reading (Ok p) = is_closing_packet p
is_closing_reading (Err fault) = false

-- The bytes unpack to a packet that closes a trace.
abbrev pub is_closing : List ℕ → Bool
is_closing bytes = is_closing_reading (reading bytes)
