-- What follows the events of a message, by what its payload unpacks to.
use Rattle.std.specs.Prelude.{ℕ, ◌++◌, Bool, false, List, Result, Ok, Err}
use Rattle.payload.specs.Closing.{is_closing_packet}
use Rattle.payload.specs.declared.fault.PackFault.{PackFault}
use Rattle.payload.specs.declared.packet.Packet.{Packet}
use Rattle.decoder.specs.Settling.{waits}
use Rattle.listing.specs.EffectText.{closes_text, waits_text}

-- Whether the packet that a payload unpacks to waits for the one that follows it.
abbrev pub read_waits : Result Packet PackFault → Bool
read_waits (Ok packet) = waits packet
read_waits (Err why) = false

-- Whether the packet that a payload unpacks to closes a trace.
abbrev pub read_closes : Result Packet PackFault → Bool
read_closes (Ok packet) = is_closing_packet packet
read_closes (Err why) = false

-- What the text says where the packet waits, and where it closes its hart.
abbrev pub ending_text : Result Packet PackFault → List ℕ
ending_text read = waits_text (read_waits read) ++ closes_text (read_closes read)
