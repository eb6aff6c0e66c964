-- Where the fields of packets lie, and the numbers by which packets differ. The fields are those of the E-Trace
-- specification's packet formats, with the widths of this project's profile. `src/layout.rt` has the same names for the
-- code.
use Rattle.std.specs.Prelude.{ℕ, ◌+◌}

-- Where a field lies: the bit at which it begins, and how many bits it has.
pub record Place : Type 0 where
  pub from : ℕ
  pub width : ℕ

-- The place that begins at this bit and has this width.
abbrev pub place_from : ℕ → ℕ → Place
place_from from width = record { from = from; width = width }

-- The bit after a field.
abbrev pub bit_behind : Place → ℕ
bit_behind at = at.from + at.width

-- `format`, with which every packet begins.
abbrev pub format_at : Place
format_at = place_from 0 2

-- `subformat`, which follows format 3: that of sync, trap and support packets.
abbrev pub subformat_at : Place
subformat_at = place_from 2 2

abbrev pub sync : ℕ
sync = 0

abbrev pub trap : ℕ
trap = 1

abbrev pub support : ℕ
support = 3

-- `branch` and `privilege` of sync and trap packets.
abbrev pub branch_at : Place
branch_at = place_from 4 1

abbrev pub privilege_at : Place
privilege_at = place_from 5 2

-- `address` of a sync packet.
abbrev pub sync_address_at : Place
sync_address_at = place_from 7 63

-- `ecause`, `interrupt`, `thaddr` and `address` of a trap packet, and `tval` of an exception.
abbrev pub ecause_at : Place
ecause_at = place_from 7 6

abbrev pub interrupt_at : Place
interrupt_at = place_from 13 1

abbrev pub thaddr_at : Place
thaddr_at = place_from 14 1

abbrev pub trap_address_at : Place
trap_address_at = place_from 15 63

abbrev pub tval_at : Place
tval_at = place_from 78 64

-- `ienable`, `encoder_mode`, `qual_status` and `ioptions` of a support packet.
abbrev pub ienable_at : Place
ienable_at = place_from 4 1

abbrev pub encoder_mode_at : Place
encoder_mode_at = place_from 5 1

abbrev pub status_at : Place
status_at = place_from 6 2

abbrev pub options_at : Place
options_at = place_from 8 5

-- The `qual_status` no_change, ended_rep and ended_ntr.
abbrev pub no_change : ℕ
no_change = 0

abbrev pub ended_rep : ℕ
ended_rep = 1

abbrev pub ended_ntr : ℕ
ended_ntr = 3

-- The `ioptions` of a packet that opens a trace whose address fields hold differences; of one that opens a trace whose
-- address fields hold addresses, which is this project's profile; and of one that closes a trace.
abbrev pub differential : ℕ
differential = 0

abbrev pub full : ℕ
full = 1

abbrev pub no_options : ℕ
no_options = 0

-- `branches` of format 1, and `branch_map` where no address follows.
abbrev pub branches_at : Place
branches_at = place_from 2 5

abbrev pub full_map_at : Place
full_map_at = place_from 7 31

-- The bit at which `branch_map` begins.
abbrev pub map_from : ℕ
map_from = full_map_at.from

-- The bit at which `address` of format 2 begins.
abbrev pub address_from : ℕ
address_from = 2

-- How many bits `address` of formats 1 and 2 has.
abbrev pub address_width : ℕ
address_width = 63

-- The distances from the first bit of this `address` to its top bit, and to `notify`, `updiscon` and `irreport` after
-- it.
abbrev pub top_bit : ℕ
top_bit = 62

abbrev pub notify_bit : ℕ
notify_bit = 63

abbrev pub updiscon_bit : ℕ
updiscon_bit = 64

abbrev pub irreport_bit : ℕ
irreport_bit = 65

-- How many bits `address`, `notify`, `updiscon` and `irreport` have together.
abbrev pub reported_width : ℕ
reported_width = 66

-- How many bits a sync packet has, a trap packet of an interrupt and of an exception, a support packet, and a full map.
abbrev pub sync_width : ℕ
sync_width = bit_behind sync_address_at

abbrev pub interrupt_width : ℕ
interrupt_width = bit_behind trap_address_at

abbrev pub exception_width : ℕ
exception_width = bit_behind tval_at

abbrev pub support_width : ℕ
support_width = bit_behind options_at

abbrev pub map_packet_width : ℕ
map_packet_width = bit_behind full_map_at
