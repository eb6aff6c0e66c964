-- Numbers as a packet, if any has them.
use Rattle.std.specs.Prelude.{ℕ, ◌==◌, not, Bool, if◌then◌else◌, List, min}
use Rattle.payload.specs.Limits.{most_outcomes}
use Rattle.payload.specs.Outcomes.{outcomes_in_map}
use Rattle.payload.specs.declared.mode.Mode.{Mode}
use Rattle.payload.specs.declared.mode.Mode.TheVariants.{Differential, Full}
use Rattle.payload.specs.declared.packet.Packet.{Packet}
use Rattle.payload.specs.declared.packet.Packet.TheVariants as packet
use Rattle.payload.specs.declared.packet.Report.{Report}
use Rattle.payload.specs.declared.packet.Report.TheVariants.{Plain, Updiscon, Notify}
use Rattle.payload.specs.declared.packet.Support.TheVariants.{Open, EndedRep, EndedNtr}
use Rattle.ffi.specs.declared.numbers.PacketNumbers.{PacketNumbers}
use Rattle.ffi.specs.declared.numbers.TheConstants.{SYNC, TRAP, OPEN, ENDED_REP, ENDED_NTR, ADDRESS}
use Rattle.ffi.specs.declared.numbers.TheConstants.{DIFFERENTIAL, PLAIN, UPDISCON}

-- The report that has this number, if any has.
abbrev pub report_in : ℕ → Report
report_in number = if number == PLAIN then Plain else if number == UPDISCON then Updiscon else Notify

-- The mode that has this number, if any has.
abbrev pub mode_in : ℕ → Mode
mode_in number = if number == DIFFERENTIAL then Differential else Full

-- The outcomes of these numbers.
abbrev pub outcomes_in : PacketNumbers → List Bool
outcomes_in numbers = outcomes_in_map (min numbers.outcomes most_outcomes) numbers.map

-- The packet that has these numbers, if any has.
abbrev pub packet_in : PacketNumbers → Packet
packet_in numbers =
    if numbers.kind == SYNC then
    packet.Sync (not (numbers.taken == 0)) (min numbers.privilege 255) numbers.address else
    if numbers.kind == TRAP then
    packet.Trap (not (numbers.taken == 0)) (min numbers.privilege 255) (min numbers.cause 255)
    (not (numbers.interrupt == 0)) (not (numbers.handler == 0)) numbers.address numbers.tval else
    if numbers.kind == OPEN then packet.Support (Open (mode_in numbers.mode)) else
    if numbers.kind == ENDED_REP then packet.Support EndedRep else
    if numbers.kind == ENDED_NTR then packet.Support EndedNtr else
    if numbers.kind == ADDRESS then
    packet.Address (outcomes_in numbers) numbers.address (report_in numbers.report) else
    packet.Map (outcomes_in numbers)
