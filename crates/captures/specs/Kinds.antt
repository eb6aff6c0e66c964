-- The kinds of packets that are counted, and of events.
use Rattle.std.specs.Prelude.{Bool, true, false, not}
use Rattle.retire.specs.Events.{is_retirement}
use Rattle.retire.specs.declared.event.Event.{Event}
use Rattle.payload.specs.declared.packet.Packet.{Packet}
use Rattle.payload.specs.declared.packet.Packet.TheVariants as packet
use Rattle.payload.specs.declared.packet.Report.TheVariants as report

-- An exception or an interrupt was taken: the event is no retirement.
abbrev pub is_trap : Event → Bool
is_trap event = not (is_retirement event)

-- The packet opens or closes a trace: format 3, subformat 3.
abbrev pub is_support : Packet → Bool
is_support (packet.Support support) = true
is_support other = false

-- The packet is a synchronisation: format 3, subformat 0.
abbrev pub is_sync : Packet → Bool
is_sync (packet.Sync taken privilege address) = true
is_sync other = false

-- The packet reports a trap: format 3, subformat 1.
abbrev pub is_trap_packet : Packet → Bool
is_trap_packet (packet.Trap taken privilege cause interrupt handler address tval) = true
is_trap_packet other = false

-- The packet is of format 1 or 2 and has an address.
abbrev pub has_address : Packet → Bool
has_address (packet.Address outcomes delta report) = true
has_address other = false

-- The packet is of format 1 and has no address.
abbrev pub is_map : Packet → Bool
is_map (packet.Map outcomes) = true
is_map other = false

-- The packet has an address and notifies.
abbrev pub notifies : Packet → Bool
notifies (packet.Address outcomes delta report.Notify) = true
notifies other = false

-- The packet has an address and reports an uninferable discontinuity by `updiscon`.
abbrev pub has_updiscon : Packet → Bool
has_updiscon (packet.Address outcomes delta report.Updiscon) = true
has_updiscon other = false
