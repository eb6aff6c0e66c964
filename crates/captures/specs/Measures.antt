-- What a trace is measured by.
use Rattle.std.specs.Prelude.{ℕ, ◌+◌, Bool, List, [], ◌∷◌, length, map, sum, max}
use Rattle.std.specs.List.{filter}
use Rattle.retire.specs.Events.{is_retirement, is_branch}
use Rattle.retire.specs.declared.event.Event.{Event}
use Rattle.rvclass.specs.Fetch.{words_of}
use Rattle.legalpath.specs.ProgramLog.{ProgramLog}
use Rattle.payload.specs.declared.mode.Mode.{Mode}
use Rattle.payload.specs.declared.packet.Packet.{Packet}
use Rattle.encoder.specs.Packets.{packets}
use Rattle.encoder.specs.Payloads.{payloads}
use Rattle.captures.specs.Kinds.{is_trap, is_support, is_sync, is_trap_packet, has_address, is_map, notifies}
use Rattle.captures.specs.Kinds.{has_updiscon}
use Rattle.captures.specs.declared.measures.Measures.{Measures}

-- How many items of a list pass a test.
abbrev pub counted : {A : Type 0} → (A → Bool) → List A → ℕ
counted test items = length (filter test items)

-- The greatest of these numbers, and 0 if there is none.
abbrev pub greatest : List ℕ → ℕ
greatest [] = 0
greatest (number ∷ numbers) = max number (greatest numbers)

-- The measures of these events, packets and payloads.
abbrev pub measured : List Event → List Packet → List (List ℕ) → Measures
measured events reports bytes = record {
  events = length events;
  retirements = counted is_retirement events;
  traps = counted is_trap events;
  branches = counted is_branch events;
  packets = length reports;
  support = counted is_support reports;
  sync = counted is_sync reports;
  trap = counted is_trap_packet reports;
  address = counted has_address reports;
  map = counted is_map reports;
  notify = counted notifies reports;
  updiscon = counted has_updiscon reports;
  payload_bytes = sum (map length bytes);
  longest = greatest (map length bytes);
}

-- The measures of a log: those of its events, and of its packets and payloads at this period and in this mode.
abbrev pub measures_of : ℕ → Mode → ProgramLog → Measures
measures_of period mode log =
    measured log.events (packets (words_of log.program) period mode log.events) (payloads period mode log)

-- The measures of two traces together: each number is the sum, and the longest payload is that of both.
abbrev pub together : Measures → Measures → Measures
together one other = record {
  events = one.events + other.events;
  retirements = one.retirements + other.retirements;
  traps = one.traps + other.traps;
  branches = one.branches + other.branches;
  packets = one.packets + other.packets;
  support = one.support + other.support;
  sync = one.sync + other.sync;
  trap = one.trap + other.trap;
  address = one.address + other.address;
  map = one.map + other.map;
  notify = one.notify + other.notify;
  updiscon = one.updiscon + other.updiscon;
  payload_bytes = one.payload_bytes + other.payload_bytes;
  longest = max one.longest other.longest;
}

-- The measures of several traces together.
abbrev pub total : List Measures → Measures
total [] = measured [] [] []
total (one ∷ others) = together one (total others)

-- The measures of each log.
abbrev pub measures_of_each : ℕ → Mode → List ProgramLog → List Measures
measures_of_each period mode logs = map (measures_of period mode) logs
