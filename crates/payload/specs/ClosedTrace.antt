-- Which traces are closed.
use Rattle.std.specs.Prelude.{Bool, false, List, Option, Some, None}
use Rattle.std.specs.List.{last_or}
use Rattle.payload.specs.Closing.{is_closing_packet}
use Rattle.payload.specs.declared.packet.Packet.{Packet}

-- The packet, if there is one, closes the trace.
abbrev pub closes : Option Packet → Bool
closes None = false
closes (Some packet) = is_closing_packet packet

-- The last of the packets closes the trace.
abbrev pub last_is_closing : List Packet → Bool
last_is_closing packets = closes (last_or None packets)
