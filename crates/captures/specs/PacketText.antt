-- The texts of packets.
use Rattle.std.specs.Prelude.{ℕ, ◌==◌, Bool, true, false, if◌then◌else◌, List, [], ◌++◌, Option, Some, None, Result, Ok}
use Rattle.std.specs.Prelude.{Err, codes, length}
use Rattle.std.specs.List.{flat_map}
use Rattle.retire.specs.LogText.{hex}
use Rattle.symbols.specs.SymbolText.{name_text}
use Rattle.payload.specs.FaultText.{pack_fault_text}
use Rattle.payload.specs.declared.fault.PackFault.{PackFault}
use Rattle.payload.specs.declared.mode.Mode.{Mode}
use Rattle.payload.specs.declared.mode.Mode.TheVariants.{Differential, Full}
use Rattle.payload.specs.declared.packet.Packet.{Packet}
use Rattle.payload.specs.declared.packet.Packet.TheVariants as packet
use Rattle.payload.specs.declared.packet.Support.{Support}
use Rattle.payload.specs.declared.packet.Support.TheVariants as support
use Rattle.payload.specs.declared.packet.Report.{Report}
use Rattle.payload.specs.declared.packet.Report.TheVariants as report

-- A branch's bit of a branch map: 0 where it was taken.
abbrev pub branch_text : Bool → List ℕ
branch_text true = codes "0"
branch_text false = codes "1"

-- The bits of outcomes, the oldest first, or - where there are none.
abbrev pub map_text : List Bool → List ℕ
map_text outcomes = if length outcomes == 0 then codes "-" else flat_map branch_text outcomes

-- The words for the packet that opens a trace in this mode.
abbrev pub open_text : Mode → List ℕ
open_text Differential = codes "open"
open_text Full = codes "open full"

-- The words for a support packet.
abbrev pub support_text : Support → List ℕ
support_text (support.Open mode) = open_text mode
support_text support.EndedRep = codes "close ended_rep"
support_text support.EndedNtr = codes "close ended_ntr"

-- The word for why an address is reported.
abbrev pub address_report_text : Report → List ℕ
address_report_text report.Plain = codes "plain"
address_report_text report.Updiscon = codes "updiscon"
address_report_text report.Notify = codes "notify"

-- The cause of a trap, and of an exception its value.
abbrev pub cause_text : Bool → ℕ → ℕ → List ℕ
cause_text true cause tval = codes "interrupt cause=" ++ hex cause
cause_text false cause tval = codes "exception cause=" ++ (hex cause ++ (codes " tval=" ++ hex tval))

-- The name of a trap packet's address: that of the handler, or the exception program counter.
abbrev pub trap_address_text : Bool → List ℕ
trap_address_text true = codes "handler"
trap_address_text false = codes "epc"

-- An address, its privilege, and the branch bit, which is 0 where the instruction there is a taken branch.
abbrev pub where_text : ℕ → ℕ → Bool → List ℕ
where_text address privilege taken =
    codes "=" ++ (hex address ++ (codes " priv=" ++ (hex privilege ++ (codes " branch=" ++ branch_text taken))))

-- The name of an address field in this mode: a difference, or an address.
abbrev pub field_text : Mode → List ℕ
field_text Differential = codes "diff"
field_text Full = codes "addr"

-- The kind of a packet, and its fields by name. The address field is named by this mode.
abbrev pub packet_text : Mode → Packet → List ℕ
packet_text mode (packet.Sync taken privilege address) = codes "sync addr" ++ where_text address privilege taken
packet_text mode (packet.Trap taken privilege cause interrupt handler address tval) =
    codes "trap " ++
    (cause_text interrupt cause tval ++
    (codes " " ++ (trap_address_text handler ++ where_text address privilege taken)))
packet_text mode (packet.Support kind) = support_text kind
packet_text mode (packet.Address outcomes delta why) =
    codes "address " ++
    (field_text mode ++
    (codes "=" ++ (hex delta ++ (codes " map=" ++ (map_text outcomes ++ (codes " " ++ address_report_text why))))))
packet_text mode (packet.Map outcomes) = codes "map " ++ map_text outcomes

-- The text of what a payload unpacks to: that of its packet, or why it is no packet. The address field is named by this
-- mode.
abbrev pub reading_text : Mode → Result Packet PackFault → List ℕ
reading_text mode (Ok packet) = packet_text mode packet
reading_text mode (Err why) = codes "bad " ++ pack_fault_text why

-- The address that an address field reports in this mode: a difference is none.
abbrev pub field_address : Mode → ℕ → Option ℕ
field_address Differential delta = None
field_address Full delta = Some delta

-- The address that a payload reports, in this mode: that of a sync or a trap packet, and in full mode that of an
-- address packet.
abbrev pub reading_address : Mode → Result Packet PackFault → Option ℕ
reading_address mode (Ok (packet.Sync taken privilege address)) = Some address
reading_address mode (Ok (packet.Trap taken privilege cause interrupt handler address tval)) = Some address
reading_address mode (Ok (packet.Support kind)) = None
reading_address mode (Ok (packet.Address outcomes delta why)) = field_address mode delta
reading_address mode (Ok (packet.Map outcomes)) = None
reading_address mode (Err why) = None

-- What an address is named by the symbols of a file, if there are both.
abbrev pub address_name : Option (List ℕ) → Option ℕ → List ℕ
address_name symbols None = []
address_name symbols (Some address) = name_text symbols address
