-- What bytes unpack to.
use Rattle.std.specs.Prelude.{ℕ, ◌+◌, ◌*◌, ◌==◌, not, if◌then◌else◌, Bool, List, [], Option, Some, None, Result, Ok}
use Rattle.std.specs.Prelude.{Err}
use Rattle.payload.specs.Faults.{bits_of, part, field_at, is_sync, is_trap, is_interrupt, is_support, is_address_alone}
use Rattle.payload.specs.Faults.{is_map_alone, address_behind_map, first_fault}
use Rattle.payload.specs.Layout as layout
use Rattle.payload.specs.Outcomes.{outcomes_in_map}
use Rattle.payload.specs.declared.mode.Mode.{Mode}
use Rattle.payload.specs.declared.mode.Mode.TheVariants as mode
use Rattle.payload.specs.declared.packet.Packet.{Packet}
use Rattle.payload.specs.declared.packet.Packet.TheVariants as packet
use Rattle.payload.specs.declared.packet.Support.{Support}
use Rattle.payload.specs.declared.packet.Support.TheVariants as support
use Rattle.payload.specs.declared.packet.Report.{Report}
use Rattle.payload.specs.declared.packet.Report.TheVariants as report
use Rattle.payload.specs.declared.fault.PackFault.{PackFault}

-- The mode of `ioptions`. Where there is no fault, they are those of one of the two modes.
abbrev pub mode_from : ℕ → Mode
mode_from options = if options == layout.full then mode.Full else mode.Differential

-- The support packet of `ienable`, `qual_status` and `ioptions`.
abbrev pub support_from : ℕ → ℕ → ℕ → Support
support_from ienable status options =
    if ienable == 1 then support.Open (mode_from options) else
    if status == layout.ended_rep then support.EndedRep else support.EndedNtr

-- The report of the address field's top bit, notify and updiscon.
abbrev pub report_from : ℕ → ℕ → ℕ → Report
report_from top notify updiscon =
    if not (notify == top) then report.Notify else if not (updiscon == notify) then report.Updiscon else report.Plain

-- The sync packet that bits of format 3, subformat 0 begin with.
abbrev pub sync_from : ℕ → Packet
sync_from n =
    packet.Sync (field_at n layout.branch_at == 0) (field_at n layout.privilege_at)
    (2 * field_at n layout.sync_address_at)

-- The trap packet that bits of format 3, subformat 1 begin with.
abbrev pub trap_from : ℕ → Packet
trap_from n =
    packet.Trap (field_at n layout.branch_at == 0) (field_at n layout.privilege_at) (field_at n layout.ecause_at)
    (is_interrupt n) (field_at n layout.thaddr_at == 1) (2 * field_at n layout.trap_address_at)
    (if is_interrupt n then 0 else field_at n layout.tval_at)

-- The address packet of these outcomes, whose address field begins at this bit.
abbrev pub address_packet_from : ℕ → List Bool → ℕ → Packet
address_packet_from n taken from =
    packet.Address taken (2 * part n from layout.address_width)
    (report_from (part n (from + layout.top_bit) 1) (part n (from + layout.notify_bit) 1)
    (part n (from + layout.updiscon_bit) 1))

-- The first outcomes of the branch map after `branches`, as many as this count.
abbrev pub outcomes_from : ℕ → ℕ → List Bool
outcomes_from n count = outcomes_in_map count (part n layout.map_from count)

-- The packet that bits without a fault begin with.
abbrev pub packet_in : ℕ → Packet
packet_in n =
    if is_sync n then sync_from n else
    if is_trap n then trap_from n else
    if is_support n then
    packet.Support
    (support_from (field_at n layout.ienable_at) (field_at n layout.status_at) (field_at n layout.options_at)) else
    if is_address_alone n then address_packet_from n [] layout.address_from else
    if is_map_alone n then packet.Map (outcomes_from n layout.full_map_at.width) else
    address_packet_from n (outcomes_from n (field_at n layout.branches_at)) (address_behind_map n)

-- A fault, or else the packet.
abbrev pub fault_or : Option PackFault → Packet → Result Packet PackFault
fault_or (Some fault) p = Err fault
fault_or None p = Ok p

-- What bytes unpack to: their first fault, or else the packet that their bits begin with.
abbrev pub reading : List ℕ → Result Packet PackFault
reading bytes = fault_or (first_fault bytes) (packet_in (bits_of bytes))
