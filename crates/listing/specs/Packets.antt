-- The fields of a packet in a table.
use Rattle.std.specs.Prelude.{ℕ, Bool, true, false, if◌then◌else◌, not, List, [], ◌∷◌, Result, Ok, Err, codes}
use Rattle.retire.specs.LogText.{hex}
use Rattle.payload.specs.FaultText.{pack_fault_text}
use Rattle.payload.specs.declared.fault.PackFault.{PackFault}
use Rattle.payload.specs.declared.mode.Mode.{Mode}
use Rattle.payload.specs.declared.mode.Mode.TheVariants.{Differential, Full}
use Rattle.payload.specs.declared.packet.Packet.{Packet}
use Rattle.payload.specs.declared.packet.Packet.TheVariants as packet
use Rattle.payload.specs.declared.packet.Support.{Support}
use Rattle.payload.specs.declared.packet.Support.TheVariants as support
use Rattle.captures.specs.Dump.{mode_text}
use Rattle.captures.specs.PacketText.{address_report_text, branch_text, map_text}

-- The names of the columns of a packet.
abbrev pub packet_columns : List (List ℕ)
packet_columns =
    codes "packet" ∷ codes "addr" ∷ codes "diff" ∷ codes "priv" ∷ codes "branch" ∷ codes "trap" ∷ codes "cause"
    ∷ codes "tval" ∷ codes "handler" ∷ codes "epc" ∷ codes "map" ∷ codes "report" ∷ codes "mode" ∷ codes "ended"
    ∷ codes "bad" ∷ []

-- Whether a trap is an interrupt or an exception.
abbrev pub cause_field : Bool → List ℕ
cause_field true = codes "interrupt"
cause_field false = codes "exception"

-- Whether address fields are addresses.
abbrev pub is_full : Mode → Bool
is_full Full = true
is_full Differential = false

-- A number in hexadecimal, unless this is so.
abbrev pub hex_unless : Bool → ℕ → List ℕ
hex_unless test number = if test then [] else hex number

-- The fields of a support packet: what it is, the mode that an opening one announces, and how a closing one ends.
abbrev pub support_field : Support → List ℕ
support_field (support.Open mode) = codes "open"
support_field support.EndedRep = codes "close"
support_field support.EndedNtr = codes "close"

abbrev pub mode_field : Support → List ℕ
mode_field (support.Open mode) = mode_text mode
mode_field support.EndedRep = []
mode_field support.EndedNtr = []

abbrev pub ended_field : Support → List ℕ
ended_field (support.Open mode) = []
ended_field support.EndedRep = codes "ended_rep"
ended_field support.EndedNtr = codes "ended_ntr"

-- The fields of what a payload unpacks to: of its packet, or why it is no packet. The mode says whether an address field is
-- an address or a difference. An interrupt has no trap value, and the address of a trap packet is that of the handler or
-- the exception program counter.
abbrev pub packet_fields : Mode → Result Packet PackFault → List (List ℕ)
packet_fields mode (Ok (packet.Sync taken privilege address)) =
    codes "sync" ∷ hex address ∷ [] ∷ hex privilege ∷ branch_text taken
    ∷ [] ∷ [] ∷ [] ∷ [] ∷ [] ∷ [] ∷ [] ∷ [] ∷ [] ∷ [] ∷ []
packet_fields mode (Ok (packet.Trap taken privilege cause interrupt handler address tval)) =
    codes "trap" ∷ [] ∷ [] ∷ hex privilege ∷ branch_text taken ∷ cause_field interrupt ∷ hex cause
    ∷ hex_unless interrupt tval ∷ hex_unless (not handler) address ∷ hex_unless handler address
    ∷ [] ∷ [] ∷ [] ∷ [] ∷ [] ∷ []
packet_fields mode (Ok (packet.Support kind)) =
    support_field kind ∷ [] ∷ [] ∷ [] ∷ [] ∷ [] ∷ [] ∷ [] ∷ [] ∷ [] ∷ [] ∷ []
    ∷ mode_field kind ∷ ended_field kind ∷ [] ∷ []
packet_fields mode (Ok (packet.Address outcomes delta why)) =
    codes "address" ∷ hex_unless (not (is_full mode)) delta ∷ hex_unless (is_full mode) delta
    ∷ [] ∷ [] ∷ [] ∷ [] ∷ [] ∷ [] ∷ []
    ∷ map_text outcomes ∷ address_report_text why ∷ [] ∷ [] ∷ [] ∷ []
packet_fields mode (Ok (packet.Map outcomes)) =
    codes "map" ∷ [] ∷ [] ∷ [] ∷ [] ∷ [] ∷ [] ∷ [] ∷ [] ∷ [] ∷ map_text outcomes ∷ [] ∷ [] ∷ [] ∷ [] ∷ []
packet_fields mode (Err why) =
    codes "bad" ∷ [] ∷ [] ∷ [] ∷ [] ∷ [] ∷ [] ∷ [] ∷ [] ∷ [] ∷ [] ∷ [] ∷ [] ∷ [] ∷ pack_fault_text why ∷ []
