-- What bytes unpack to, one kind of packet after the other, as `unpack` reads them: the same as `reading`.
use Rattle.std.specs.Prelude.{ℕ, ◌+◌, ◌-◌, ◌*◌, ◌^◌, nat_lt, ◌==◌, ◌&&◌, if◌then◌else◌, Bool, List, [], length}
use Rattle.std.specs.Prelude.{Option, Some, None, Result, Ok, Err}
use Rattle.payload.specs.Extension.{magnitude}
use Rattle.payload.specs.Faults.{bits_of, part, field_at, is_sync, is_trap, trap_width, is_support, is_address_alone}
use Rattle.payload.specs.Faults.{is_map_with_address, address_behind_map}
use Rattle.payload.specs.Layout as layout
use Rattle.payload.specs.Limits.{most_bytes}
use Rattle.payload.specs.Reading.{sync_from, trap_from, outcomes_from}
use Rattle.payload.specs.declared.mode.Mode.TheVariants as mode
use Rattle.payload.specs.declared.packet.Packet.{Packet}
use Rattle.payload.specs.declared.packet.Packet.TheVariants as packet
use Rattle.payload.specs.declared.packet.Support.TheVariants as support
use Rattle.payload.specs.declared.packet.Report.{Report}
use Rattle.payload.specs.declared.packet.Report.TheVariants as report
use Rattle.payload.specs.declared.fault.PackFault.{PackFault}
use Rattle.payload.specs.declared.fault.PackFault.TheVariants.{Empty, TooLong, BadPad, Unsupported, BadPrivilege}
use Rattle.payload.specs.declared.fault.PackFault.TheVariants.{BadReport}

-- The packet, of this width, where all further bits are copies of its last one; else BadPad.
abbrev pub padded : ℕ → ℕ → Packet → Result Packet PackFault
padded width n p = if nat_lt (magnitude 144 n) (2 ^ (width - 1)) then Ok p else Err BadPad

-- What bits of format 3, subformat 0 unpack to.
unfoldable pub sync_reading : ℕ → Result Packet PackFault
sync_reading n =
    if field_at n layout.privilege_at == 2 then Err BadPrivilege else
    padded layout.sync_width n (sync_from n)

-- What bits of format 3, subformat 1 unpack to.
unfoldable pub trap_reading : ℕ → Result Packet PackFault
trap_reading n =
    if field_at n layout.privilege_at == 2 then Err BadPrivilege else
    padded (trap_width n) n (trap_from n)

-- `ienable`, and above it `encoder_mode`.
abbrev pub enable_of : ℕ → ℕ
enable_of n = part n layout.ienable_at.from 2

-- `ienable` with `encoder_mode`, `qual_status` and `ioptions` are these.
abbrev pub has_fields : ℕ → ℕ → ℕ → ℕ → Bool
has_fields n enable status options =
    (enable_of n == enable) && ((field_at n layout.status_at == status) && (field_at n layout.options_at == options))

-- What bits of format 3, subformat 3 unpack to.
unfoldable pub support_reading : ℕ → Result Packet PackFault
support_reading n =
    if has_fields n 1 layout.no_change layout.differential then
    padded layout.support_width n (packet.Support (support.Open mode.Differential)) else
    if has_fields n 1 layout.no_change layout.full then
    padded layout.support_width n (packet.Support (support.Open mode.Full)) else
    if has_fields n 0 layout.ended_rep layout.no_options then
    padded layout.support_width n (packet.Support support.EndedRep) else
    if has_fields n 0 layout.ended_ntr layout.no_options then
    padded layout.support_width n (packet.Support support.EndedNtr) else
    Err Unsupported

-- The report that `notify`, `updiscon` and `irreport` give after an address field with this top bit, if they give one.
unfoldable pub report_in : ℕ → ℕ → Option Report
report_in top tail =
    if tail == 7 * top then Some report.Plain else
    if tail == 6 - 5 * top then Some report.Updiscon else
    if tail == 7 - 7 * top then Some report.Notify else
    None

-- The address packet with these outcomes, whose address field begins at this bit, where the bits after the field give
-- this report; BadReport where they give none.
abbrev pub reported : ℕ → List Bool → ℕ → Option Report → Result Packet PackFault
reported n taken from None = Err BadReport
reported n taken from (Some report) =
    padded (from + layout.reported_width) n (packet.Address taken (2 * part n from layout.address_width) report)

-- What bits of format 1 or 2 with these outcomes unpack to, whose address field begins at this bit.
unfoldable pub address_reading : ℕ → List Bool → ℕ → Result Packet PackFault
unfolding report_in
address_reading n taken from =
    reported n taken from (report_in (part n (from + layout.top_bit) 1) (part n (from + layout.notify_bit) 3))

-- What bits of format 1 without branches unpack to.
unfoldable pub map_reading : ℕ → Result Packet PackFault
map_reading n = padded layout.map_packet_width n (packet.Map (outcomes_from n layout.full_map_at.width))

-- What bits of format 1 unpack to.
abbrev pub branches_reading : ℕ → Result Packet PackFault
branches_reading n =
    if field_at n layout.branches_at == 0 then map_reading n else
    address_reading n (outcomes_from n (field_at n layout.branches_at)) (address_behind_map n)

-- What bits unpack to, by their format.
abbrev pub reading_of_bits : ℕ → Result Packet PackFault
reading_of_bits n =
    if is_sync n then sync_reading n else
    if is_trap n then trap_reading n else
    if is_support n then support_reading n else
    if is_address_alone n then address_reading n [] layout.address_from else
    if field_at n layout.format_at == 1 then branches_reading n else
    Err Unsupported

-- What bytes unpack to, by the kind of their packet.
unfoldable pub reading_by_kind : List ℕ → Result Packet PackFault
reading_by_kind bytes =
    if length bytes == 0 then Err Empty else
    if nat_lt most_bytes (length bytes) then Err TooLong else
    reading_of_bits (bits_of bytes)

-- The outcomes of bits that have an address field, and the bit at which it begins: of format 2, or of format 1 with
-- branches.
abbrev pub address_place : ℕ → Option (List Bool × ℕ)
address_place n =
    if is_address_alone n then Some ([], layout.address_from) else
    if is_map_with_address n then Some (outcomes_from n (field_at n layout.branches_at), address_behind_map n) else
    None

-- What bits unpack to that have no address field of format 1 or 2.
abbrev pub reading_with_no_place : ℕ → Result Packet PackFault
reading_with_no_place n =
    if is_sync n then sync_reading n else
    if is_trap n then trap_reading n else
    if is_support n then support_reading n else
    if field_at n layout.format_at == 1 then map_reading n else
    Err Unsupported

-- What bits unpack to, by the outcomes and the bit at which the address field begins, or by `None` where they have no
-- address field of format 1 or 2.
abbrev pub reading_at_place : ℕ → Option (List Bool × ℕ) → Result Packet PackFault
reading_at_place n (Some place) = address_reading n place.0 place.1
reading_at_place n None = reading_with_no_place n

-- What bytes unpack to, where those with an address field of format 1 or 2 are read first.
unfoldable pub reading_by_place : List ℕ → Result Packet PackFault
reading_by_place bytes =
    if length bytes == 0 then Err Empty else
    if nat_lt most_bytes (length bytes) then Err TooLong else
    reading_at_place (bits_of bytes) (address_place (bits_of bytes))
