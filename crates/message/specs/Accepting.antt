-- What a demultiplexer answers to a message, and what it expects then.
use Rattle.std.specs.Prelude.{ℕ, ◌+◌, nat_lt, if◌then◌else◌, Option, Some, None, Result, Ok, Err, slice_get, slice_set}
use Rattle.payload.specs.Closing.{is_closing_packet}
use Rattle.payload.specs.Reading.{reading}
use Rattle.payload.specs.declared.packet.Packet.{Packet}
use Rattle.payload.specs.declared.fault.PackFault.{PackFault}
use Rattle.message.specs.Harts.{Harts, is_over}
use Rattle.message.specs.declared.hart.Hart.{Hart}
use Rattle.message.specs.declared.message.Message.{Message}
use Rattle.message.specs.declared.fault.DemuxFault.{DemuxFault}
use Rattle.message.specs.declared.fault.DemuxFault.TheVariants as fault

-- What is answered, by what a payload unpacks to: the packet, or why it is none.
abbrev pub packet_or_fault : Result Packet PackFault → Result Packet DemuxFault
packet_or_fault (Ok packet) = Ok packet
packet_or_fault (Err why) = Err (fault.Packet why)

-- What is answered to a message, where this is expected of its hart: the first fault that applies, or else the packet.
abbrev pub answer : Hart → Message → Result Packet DemuxFault
answer h m =
    if is_over h then Err fault.AfterClose else
    if nat_lt m.number h.expected then Err fault.Repeat else
    if nat_lt h.expected m.number then Err (fault.Gap h.expected) else
    packet_or_fault (reading m.payload)

-- What is expected of the hart after a message of its own that got this answer. A fault changes nothing.
abbrev pub state_by : Hart → Result Packet DemuxFault → Hart
state_by h (Ok packet) = record { expected = h.expected + 1; closed = is_closing_packet packet }
state_by h (Err why) = h

-- What is expected of the hart after a message of its own.
abbrev pub state_after : Hart → Message → Hart
state_after h m = state_by h (answer h m)

-- What is expected of a hart once its message of this number, with this packet, is accepted.
abbrev pub next_of : ℕ → Packet → Hart
next_of number packet = record { expected = number + 1; closed = is_closing_packet packet }

-- What is answered to a message, by what is expected of its hart, or where the hart is not known.
abbrev pub answer_of : Option Hart → Message → Result Packet DemuxFault
answer_of None m = Err fault.Stranger
answer_of (Some h) m = answer h m

-- What is answered to a message.
abbrev pub accepting : Harts → Message → Result Packet DemuxFault
accepting harts m = answer_of (slice_get harts m.hart) m

-- What is expected after a message, by what was expected of its hart, or where the hart is not known.
abbrev pub harts_after_found : Harts → Message → Option Hart → Harts
harts_after_found harts m None = harts
harts_after_found harts m (Some h) = slice_set harts m.hart (state_after h m)

-- What is expected after a message: only what is expected of its own hart may change.
abbrev pub harts_after : Harts → Message → Harts
harts_after harts m = harts_after_found harts m (slice_get harts m.hart)
