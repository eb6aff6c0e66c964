-- The fields of each packet, in the order of the E-Trace specification's packet formats, with the widths of this
-- project's profile.
use Rattle.std.specs.Prelude.{ℕ, ◌+◌, ◌-◌, ◌*◌, ◌/◌, ◌^◌, Bool, true, false, if◌then◌else◌, List, [], ◌∷◌, length}
use Rattle.payload.specs.Fields.{Field, field}
use Rattle.payload.specs.Layout as layout
use Rattle.payload.specs.Layout.{Place}
use Rattle.payload.specs.Outcomes.{map_width, map_of}
use Rattle.payload.specs.declared.mode.Mode.{Mode}
use Rattle.payload.specs.declared.mode.Mode.TheVariants as mode
use Rattle.payload.specs.declared.packet.Packet.{Packet}
use Rattle.payload.specs.declared.packet.Packet.TheVariants as packet
use Rattle.payload.specs.declared.packet.Support.TheVariants as support
use Rattle.payload.specs.declared.packet.Report.{Report}
use Rattle.payload.specs.declared.packet.Report.TheVariants as report

-- The field of a place, with this value.
abbrev pub at : Place → ℕ → Field
at place value = field place.width value

-- `branch`: 0 for a taken branch at the reported address, else 1.
abbrev pub branch_of : Bool → ℕ
branch_of taken = if taken then 0 else 1

-- `interrupt` or `thaddr`: 1 where it holds, else 0.
abbrev pub flag_of : Bool → ℕ
flag_of holds = if holds then 1 else 0

-- `tval`, which an interrupt leaves out.
abbrev pub value_fields : Bool → ℕ → List Field
value_fields true tval = []
value_fields false tval = at layout.tval_at tval ∷ []

-- `notify`, `updiscon` and `irreport` after an address field with this top bit: each repeats the bit before it, but
-- `notify` differs for a notification, and `updiscon` for an uninferable discontinuity.
abbrev pub report_fields : ℕ → Report → List Field
report_fields top report.Plain = field 1 top ∷ field 1 top ∷ field 1 top ∷ []
report_fields top report.Updiscon = field 1 top ∷ field 1 (1 - top) ∷ field 1 (1 - top) ∷ []
report_fields top report.Notify = field 1 (1 - top) ∷ field 1 (1 - top) ∷ field 1 (1 - top) ∷ []

-- `address`, `notify`, `updiscon` and `irreport`.
abbrev pub address_fields : ℕ → Report → List Field
address_fields delta report = field layout.address_width (delta / 2) ∷ report_fields (delta / 2 ^ 63) report

-- `format`, `subformat`, `branch`, `privilege`, `ecause`, `interrupt`, `thaddr` and `address`, and the fields after
-- them.
abbrev pub trap_fields : Bool → ℕ → ℕ → Bool → Bool → ℕ → List Field → List Field
trap_fields taken privilege cause interrupt handler address behind =
    at layout.format_at 3 ∷ at layout.subformat_at layout.trap ∷ at layout.branch_at (branch_of taken)
    ∷ at layout.privilege_at privilege ∷ at layout.ecause_at cause ∷ at layout.interrupt_at (flag_of interrupt)
    ∷ at layout.thaddr_at (flag_of handler) ∷ at layout.trap_address_at (address / 2) ∷ behind

-- `ioptions` of the packet that opens a trace of this mode.
abbrev pub options_of : Mode → ℕ
options_of mode.Differential = layout.differential
options_of mode.Full = layout.full

-- `format`, `subformat`, `ienable`, `encoder_mode`, `qual_status` and `ioptions`.
abbrev pub support_fields : ℕ → ℕ → ℕ → List Field
support_fields ienable status options =
    at layout.format_at 3 ∷ at layout.subformat_at layout.support ∷ at layout.ienable_at ienable
    ∷ at layout.encoder_mode_at 0 ∷ at layout.status_at status ∷ at layout.options_at options ∷ []

-- `format`, `branches`, `branch_map` and the address fields, with this number in the unused bits of `branch_map`.
abbrev pub branches_fields : ℕ → List Bool → ℕ → Report → List Field
branches_fields spare taken delta report =
    at layout.format_at 1 ∷ at layout.branches_at (length taken)
    ∷ field (map_width (length taken)) (map_of taken + 2 ^ length taken * spare) ∷ address_fields delta report

-- How many bits of a packet's branch map are unused, since they give no outcome.
abbrev pub unused_bits : Packet → ℕ
unused_bits (packet.Address (oldest ∷ outcomes) delta report) =
    map_width (length (oldest ∷ outcomes)) - length (oldest ∷ outcomes)
unused_bits other = 0

-- A packet's fields, the first in the lowest bits, with this number in the unused bits of its branch map;
-- an address field holds all bits but the lowest.
abbrev pub fields_with : ℕ → Packet → List Field
fields_with spare (packet.Sync taken privilege address) =
    at layout.format_at 3 ∷ at layout.subformat_at layout.sync ∷ at layout.branch_at (branch_of taken)
    ∷ at layout.privilege_at privilege ∷ at layout.sync_address_at (address / 2) ∷ []
fields_with spare (packet.Trap taken privilege cause interrupt handler address tval) =
    trap_fields taken privilege cause interrupt handler address (value_fields interrupt tval)
fields_with spare (packet.Support (support.Open mode)) = support_fields 1 layout.no_change (options_of mode)
fields_with spare (packet.Support support.EndedRep) = support_fields 0 layout.ended_rep layout.no_options
fields_with spare (packet.Support support.EndedNtr) = support_fields 0 layout.ended_ntr layout.no_options
fields_with spare (packet.Address [] delta report) = at layout.format_at 2 ∷ address_fields delta report
fields_with spare (packet.Address (oldest ∷ outcomes) delta report) =
    branches_fields spare (oldest ∷ outcomes) delta report
fields_with spare (packet.Map outcomes) =
    at layout.format_at 1 ∷ at layout.branches_at 0 ∷ at layout.full_map_at (map_of outcomes) ∷ []

-- A packet's fields, with zeros in the unused bits of its branch map.
abbrev pub fields : Packet → List Field
fields p = fields_with 0 p
