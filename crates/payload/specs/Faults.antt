-- Why bytes are no payload of a packet: the tests in their order.
use Rattle.std.specs.Prelude.{ℕ, ◌+◌, ◌*◌, ◌/◌, ◌%◌, ◌^◌, nat_lt, ◌==◌, ◌&&◌, ◌||◌, not, if◌then◌else◌, Bool, List}
use Rattle.std.specs.Prelude.{length, Option, Some, None}
use Rattle.payload.specs.Bytes.{number}
use Rattle.payload.specs.Extension.{extended}
use Rattle.payload.specs.Layout as layout
use Rattle.payload.specs.Layout.{Place}
use Rattle.payload.specs.Limits.{most_bytes}
use Rattle.payload.specs.Outcomes.{map_width}
use Rattle.payload.specs.declared.fault.PackFault.{PackFault}
use Rattle.payload.specs.declared.fault.PackFault.TheVariants.{Empty, TooLong, BadPad, Unsupported, BadPrivilege}
use Rattle.payload.specs.declared.fault.PackFault.TheVariants.{BadReport}

-- The 144 bits that bytes spell, which go on with copies of the last byte's top bit.
abbrev pub bits_of : List ℕ → ℕ
bits_of bytes = extended (8 * length bytes) (number bytes)

-- The field that begins at this bit and has this width.
abbrev pub part : ℕ → ℕ → ℕ → ℕ
part n from width = n / 2 ^ from % 2 ^ width

-- The field at a place.
abbrev pub field_at : ℕ → Place → ℕ
field_at n place = part n place.from place.width

-- Format 3, subformat 0.
abbrev pub is_sync : ℕ → Bool
is_sync n = (field_at n layout.format_at == 3) && (field_at n layout.subformat_at == layout.sync)

-- Format 3, subformat 1.
abbrev pub is_trap : ℕ → Bool
is_trap n = (field_at n layout.format_at == 3) && (field_at n layout.subformat_at == layout.trap)

-- The interrupt bit of a trap packet.
abbrev pub is_interrupt : ℕ → Bool
is_interrupt n = field_at n layout.interrupt_at == 1

-- Format 3, subformat 3.
abbrev pub is_support : ℕ → Bool
is_support n = (field_at n layout.format_at == 3) && (field_at n layout.subformat_at == layout.support)

-- Format 2: an address without a branch map.
abbrev pub is_address_alone : ℕ → Bool
is_address_alone n = field_at n layout.format_at == 2

-- Format 1 without branches: a full branch map without an address.
abbrev pub is_map_alone : ℕ → Bool
is_map_alone n = (field_at n layout.format_at == 1) && (field_at n layout.branches_at == 0)

-- Format 1 with branches: a branch map and an address.
abbrev pub is_map_with_address : ℕ → Bool
is_map_with_address n = (field_at n layout.format_at == 1) && not (field_at n layout.branches_at == 0)

-- `ienable`, `qual_status` and `ioptions` are those of a support packet that opens a trace, in one of the two modes.
abbrev pub is_opening_support : ℕ → ℕ → ℕ → Bool
is_opening_support ienable status options =
    (ienable == 1)
    && ((status == layout.no_change) && ((options == layout.differential) || (options == layout.full)))

-- `ienable`, `qual_status` and `ioptions` are those of a support packet that closes a trace.
abbrev pub is_closing_support : ℕ → ℕ → ℕ → Bool
is_closing_support ienable status options =
    (ienable == 0)
    && (((status == layout.ended_rep) || (status == layout.ended_ntr)) && (options == layout.no_options))

-- `encoder_mode` is 0, and the other fields are those of a support packet that opens or closes a trace.
abbrev pub is_known_support : ℕ → Bool
is_known_support n =
    (field_at n layout.encoder_mode_at == 0)
    && (is_opening_support (field_at n layout.ienable_at) (field_at n layout.status_at) (field_at n layout.options_at)
    || is_closing_support (field_at n layout.ienable_at) (field_at n layout.status_at) (field_at n layout.options_at))

-- The bits begin with a packet of a kind that the profile has.
abbrev pub is_supported : ℕ → Bool
is_supported n =
    is_sync n
    || (is_trap n
    || (is_address_alone n || (is_map_alone n || (is_map_with_address n || (is_support n && is_known_support n)))))

-- The privilege is the reserved level.
abbrev pub is_bad_privilege : ℕ → Bool
is_bad_privilege n = (is_sync n || is_trap n) && (field_at n layout.privilege_at == 2)

-- The address field's top bit, `notify`, `updiscon` and `irreport` have values that no report has: `irreport` differs
-- from `updiscon`, or `notify` differs from the top bit and `updiscon` from `notify`.
abbrev pub is_bad_tail : ℕ → ℕ → ℕ → ℕ → Bool
is_bad_tail top notify updiscon irreport =
    not (irreport == updiscon) || (not (notify == top) && not (updiscon == notify))

-- The bits after an address field that begins at this bit are those of no report.
abbrev pub is_bad_report_at : ℕ → ℕ → Bool
is_bad_report_at n from =
    is_bad_tail (part n (from + layout.top_bit) 1) (part n (from + layout.notify_bit) 1)
    (part n (from + layout.updiscon_bit) 1) (part n (from + layout.irreport_bit) 1)

-- Where the address field begins after `branches` and `branch_map`.
abbrev pub address_behind_map : ℕ → ℕ
address_behind_map n = layout.map_from + map_width (field_at n layout.branches_at)

-- The packet has an address field, and the bits after it are those of no report.
abbrev pub is_bad_report : ℕ → Bool
is_bad_report n =
    if is_address_alone n then is_bad_report_at n layout.address_from else
    is_map_with_address n && is_bad_report_at n (address_behind_map n)

-- How many bits a trap packet has.
abbrev pub trap_width : ℕ → ℕ
trap_width n = if is_interrupt n then layout.interrupt_width else layout.exception_width

-- How many bits the packet has with which these bits begin.
abbrev pub packet_width : ℕ → ℕ
packet_width n =
    if is_sync n then layout.sync_width else
    if is_trap n then trap_width n else
    if is_support n then layout.support_width else
    if is_address_alone n then layout.address_from + layout.reported_width else
    if is_map_alone n then layout.map_packet_width else
    address_behind_map n + layout.reported_width

-- A bit past the packet differs from the packet's last bit.
abbrev pub is_bad_pad : ℕ → Bool
is_bad_pad n = not (extended (packet_width n) (n % 2 ^ packet_width n) == n)

-- The first fault of the bits, if they have one.
abbrev pub first_fault_of_bits : ℕ → Option PackFault
first_fault_of_bits n =
    if not (is_supported n) then Some Unsupported else
    if is_bad_privilege n then Some BadPrivilege else
    if is_bad_report n then Some BadReport else
    if is_bad_pad n then Some BadPad else
    None

-- The first fault of bytes, if they have one.
abbrev pub first_fault : List ℕ → Option PackFault
first_fault bytes =
    if length bytes == 0 then Some Empty else
    if nat_lt most_bytes (length bytes) then Some TooLong else
    first_fault_of_bits (bits_of bytes)
