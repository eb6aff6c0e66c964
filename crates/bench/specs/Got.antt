-- What was decoded of a hart.
use Rattle.std.specs.Prelude.{◌≡◌, ◌≤◌, ◌==◌, ℕ, Bool, true, if◌then◌else◌, List, [], length, map, take, sum}
use Rattle.retire.specs.declared.event.Event.{Event}
use Rattle.rvclass.specs.Fetch.{words_of}
use Rattle.legalpath.specs.ProgramLog.{ProgramLog}
use Rattle.payload.specs.declared.mode.Mode.{Mode}
use Rattle.payload.specs.declared.packet.Packet.{Packet}
use Rattle.encoder.specs.Packets.{packets}
use Rattle.encoder.specs.Payloads.{payloads}
use Rattle.roundtrip.specs.Reach.{reach}
use Rattle.bench.specs.declared.outcome.HartOutcome.{HartOutcome}

-- What was decoded of a hart: its packets, how many there were, how many bytes their payloads had, what they decode to,
-- and whether the closing one was among them. There are no packets where they are not kept.
pub record Got : Type 0 where
  pub packets : List Packet
  pub taken : ℕ
  pub bytes : ℕ
  pub decoded : List Event
  pub closed : Bool

-- What was decoded of a hart, by its outcome.
abbrev pub got_of : {A : Type 0} → HartOutcome A → Got
got_of hart = record {
  packets = hart.packets.items;
  taken = hart.taken;
  bytes = hart.bytes;
  decoded = hart.decoded.items;
  closed = hart.closed;
}

-- What the first packets of a hart's log give, this many, at this period and in this mode.
abbrev pub got_after : ℕ → Mode → ProgramLog → ℕ → Got
got_after period mode log count = record {
  packets = take count (packets (words_of log.program) period mode log.events);
  taken = count;
  bytes = sum (map length (take count (payloads period mode log)));
  decoded = take (reach (words_of log.program) period mode log.events count) log.events;
  closed = count == length (packets (words_of log.program) period mode log.events);
}

-- What was decoded of a hart, with the packets left out where they are not kept.
abbrev pub kept : Bool → Got → Got
kept keep got = record got { packets = if keep then got.packets else [] }

-- What was decoded of a hart is what the first packets of its log give, this many; the log has at least as many. Where
-- the closing packet came, they decode to the complete log.
pub record HasGot (period : ℕ) (mode : Mode) (keep : Bool) (log : ProgramLog) (count : ℕ) (got : Got) : Type 0 where
  pub few : count ≤ length (packets (words_of log.program) period mode log.events)
  pub same : got ≡ kept keep (got_after period mode log count)
  pub whole : got.closed ≡ true → got.decoded ≡ log.events
