-- In which order packets come.
use Rattle.std.specs.Prelude.{◌≡◌, true, false, List, [], ◌∷◌, Option, Some, None}
use Rattle.payload.specs.Closing.{is_closing_packet}
use Rattle.payload.specs.declared.mode.Mode.{Mode}
use Rattle.payload.specs.declared.packet.Packet.{Packet}
use Rattle.payload.specs.declared.packet.Packet.TheVariants as packet
use Rattle.payload.specs.declared.packet.Support.TheVariants as support
use Rattle.decoder.specs.Settling.{waits}

-- The second packet may follow the first. The support packet that opens a trace follows no packet. The support packet
-- `EndedRep`, which says that the last instruction was reported, follows only an address packet with plain bits.
abbrev pub MayFollow : Packet → Packet → Type 0
MayFollow before (packet.Support (support.Open mode)) = ⊥
MayFollow before (packet.Support support.EndedRep) = waits before ≡ true
MayFollow before other = Unit {0}

-- The packet `next`, if there is one, may follow this packet, which then does not close the trace.
abbrev pub MayPrecede : Packet → Option Packet → Type 0
MayPrecede packet None = Unit {0}
MayPrecede packet (Some next) = (is_closing_packet packet ≡ false) × MayFollow packet next

-- The first of these packets, or `next` where there are none.
abbrev pub first : List Packet → Option Packet → Option Packet
first [] next = next
first (packet ∷ packets) next = Some packet

-- The packet that opens a trace in this mode.
abbrev pub open_packet : Mode → Packet
open_packet mode = packet.Support (support.Open mode)

-- The packet opens a trace.
abbrev pub IsOpen : Packet → Type 0
IsOpen (packet.Support (support.Open mode)) = Unit {0}
IsOpen other = ⊥

-- The first packet, if there is one, opens the trace.
abbrev pub Begins : List Packet → Type 0
Begins [] = Unit {0}
Begins (packet ∷ packets) = IsOpen packet
