-- What a demultiplexer answers to a message where messages before it may be lost, and what it expects then.
use Rattle.std.specs.Prelude.{ℕ, ◌-◌, nat_lt, if◌then◌else◌, Option, Some, None, Result, Ok, Err, slice_get}
use Rattle.std.specs.Prelude.{slice_set}
use Rattle.payload.specs.Reading.{reading}
use Rattle.payload.specs.declared.packet.Packet.{Packet}
use Rattle.payload.specs.declared.fault.PackFault.{PackFault}
use Rattle.message.specs.Accepting.{next_of}
use Rattle.message.specs.Harts.{Harts, end_of_numbers, is_over}
use Rattle.message.specs.declared.hart.Hart.{Hart}
use Rattle.message.specs.declared.message.Message.{Message}
use Rattle.message.specs.declared.fault.DemuxFault.{DemuxFault}
use Rattle.message.specs.declared.fault.DemuxFault.TheVariants as fault

-- What is answered, by what a payload unpacks to: the packet and how many numbers are missing before it, or why it is
-- none.
abbrev pub packet_after_loss : ℕ → Result Packet PackFault → Result (Packet × ℕ) DemuxFault
packet_after_loss missing (Ok packet) = Ok (packet, missing)
packet_after_loss missing (Err why) = Err (fault.Packet why)

-- What is answered to a message, where this is expected of its hart: the first fault that applies, or else the packet
-- and how many numbers are missing, from the expected one up to the one before the message's.
abbrev pub answer_lossy : Hart → Message → Result (Packet × ℕ) DemuxFault
answer_lossy h m =
    if is_over h then Err fault.AfterClose else
    if nat_lt m.number h.expected then Err fault.Repeat else
    if nat_lt m.number end_of_numbers then packet_after_loss (m.number - h.expected) (reading m.payload) else
    Err (fault.Gap h.expected)

-- What is expected of the hart after a message of its own with this number that got this answer. A fault changes
-- nothing.
abbrev pub state_by_lossy : Hart → ℕ → Result (Packet × ℕ) DemuxFault → Hart
state_by_lossy h number (Ok taken) = next_of number taken.0
state_by_lossy h number (Err why) = h

-- What is answered to a message, by what is expected of its hart, or where the hart is not known.
abbrev pub answer_lossy_of : Option Hart → Message → Result (Packet × ℕ) DemuxFault
answer_lossy_of None m = Err fault.Stranger
answer_lossy_of (Some h) m = answer_lossy h m

-- What is answered to a message.
abbrev pub accepting_lossy : Harts → Message → Result (Packet × ℕ) DemuxFault
accepting_lossy harts m = answer_lossy_of (slice_get harts m.hart) m

-- What is expected of the hart after a message of its own: where that is accepted, the number after the message's.
abbrev pub state_after_lossy : Hart → Message → Hart
state_after_lossy h m = state_by_lossy h m.number (answer_lossy h m)

-- What is expected after a message, by what was expected of its hart, or where the hart is not known.
abbrev pub harts_after_found_lossy : Harts → Message → Option Hart → Harts
harts_after_found_lossy harts m None = harts
harts_after_found_lossy harts m (Some h) = slice_set harts m.hart (state_after_lossy h m)

-- What is expected after a message: only what is expected of its own hart may change.
abbrev pub harts_after_lossy : Harts → Message → Harts
harts_after_lossy harts m = harts_after_found_lossy harts m (slice_get harts m.hart)
