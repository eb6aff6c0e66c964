-- Packets as numbers.
use Rattle.std.specs.Prelude.{ℕ, Bool, true, false, length}
use Rattle.payload.specs.Outcomes.{map_of}
use Rattle.payload.specs.declared.mode.Mode.{Mode}
use Rattle.payload.specs.declared.mode.Mode.TheVariants.{Differential, Full}
use Rattle.payload.specs.declared.packet.Packet.{Packet}
use Rattle.payload.specs.declared.packet.Packet.TheVariants as packet
use Rattle.payload.specs.declared.packet.Report.{Report}
use Rattle.payload.specs.declared.packet.Report.TheVariants.{Plain, Updiscon, Notify}
use Rattle.payload.specs.declared.packet.Support.TheVariants.{Open, EndedRep, EndedNtr}
use Rattle.ffi.specs.declared.numbers.PacketNumbers.{PacketNumbers}
use Rattle.ffi.specs.declared.numbers.TheConstants.{SYNC, TRAP, OPEN, ENDED_REP, ENDED_NTR, ADDRESS, MAP}
use Rattle.ffi.specs.declared.numbers.TheConstants.{DIFFERENTIAL, FULL, PLAIN, UPDISCON, NOTIFY}

-- A flag as a number.
abbrev pub flag : Bool → ℕ
flag true = 1
flag false = 0

-- The number of a mode.
abbrev pub number_of_mode : Mode → ℕ
number_of_mode Differential = DIFFERENTIAL
number_of_mode Full = FULL

-- The number of a report.
abbrev pub number_of_report : Report → ℕ
number_of_report Plain = PLAIN
number_of_report Updiscon = UPDISCON
number_of_report Notify = NOTIFY

-- A kind, and 0 for all other numbers.
abbrev pub of_kind : ℕ → PacketNumbers
of_kind kind = record {
  kind = kind;
  taken = 0;
  privilege = 0;
  cause = 0;
  interrupt = 0;
  handler = 0;
  mode = 0;
  report = 0;
  outcomes = 0;
  map = 0;
  address = 0;
  tval = 0;
}

-- The numbers of a packet.
abbrev pub numbers_of : Packet → PacketNumbers
numbers_of (packet.Sync taken privilege address) =
    record (of_kind SYNC) { taken = flag taken; privilege = privilege; address = address }
numbers_of (packet.Trap taken privilege cause interrupt handler address tval) = record (of_kind TRAP) {
  taken = flag taken;
  privilege = privilege;
  cause = cause;
  interrupt = flag interrupt;
  handler = flag handler;
  address = address;
  tval = tval;
}
numbers_of (packet.Support (Open mode)) = record (of_kind OPEN) { mode = number_of_mode mode }
numbers_of (packet.Support EndedRep) = of_kind ENDED_REP
numbers_of (packet.Support EndedNtr) = of_kind ENDED_NTR
numbers_of (packet.Address outcomes delta report) = record (of_kind ADDRESS) {
  report = number_of_report report;
  outcomes = length outcomes;
  map = map_of outcomes;
  address = delta;
}
numbers_of (packet.Map outcomes) = record (of_kind MAP) { outcomes = length outcomes; map = map_of outcomes }
