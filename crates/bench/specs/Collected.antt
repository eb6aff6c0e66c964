-- What a collector holds of harts.
use Rattle.std.specs.Prelude.{ℕ, ◌+◌, ◌-◌, ◌^◌, ◌≡◌, ◌≤◌, ◌==◌, ◌++◌, Bool, false, if◌then◌else◌, IsSomeAnd, IsTrue}
use Rattle.std.specs.Prelude.{List, [], ◌∷◌, Some, Ok, length, min, slice_get, take}
use Rattle.rvclass.specs.Fetch.{words_of}
use Rattle.legalpath.specs.ProgramLog.{ProgramLog}
use Rattle.payload.specs.declared.mode.Mode.{Mode}
use Rattle.payload.specs.declared.packet.Packet.{Packet}
use Rattle.encoder.specs.Packets.{packets}
use Rattle.encoder.specs.Payloads.{payloads}
use Rattle.message.specs.Accepting.{accepting}
use Rattle.message.specs.declared.message.Message.{Message}
use Rattle.receiver.specs.Holds.{HoldsHart}
use Rattle.receiver.specs.Received.{IsSameHart, Received}
use Rattle.bench.specs.Got.{Got, got_after, kept}

-- The outcome of a hart, without its events and whether it is closed, which the receiver has.
pub record Taken : Type 0 where
  pub packets : List Packet
  pub taken : ℕ
  pub bytes : ℕ
  pub refused : Bool

-- The logs of harts, whether packets are kept, what the receiver has, and the outcome of each hart, at its place.
pub record Collected : Type 0 where
  pub logs : List ProgramLog
  pub keep : Bool
  pub received : Received
  pub harts : List Taken

-- A collector has this outcome of a hart: what was decoded of it, and whether memory or its thread was refused for it.
pub record HasOutcome (hart : ℕ) (got : Got) (refused : Bool) (collected : Collected) : Type 0 where
  pub taken : slice_get collected.harts hart
      ≡ Some (record { packets = got.packets; taken = got.taken; bytes = got.bytes; refused = refused })
  pub decoded : slice_get collected.received.lists hart ≡ Some got.decoded
  pub closed : slice_get collected.received.closed hart ≡ Some got.closed

-- A collector has this log for a hart and took in its first packets, this many; nothing was refused for the hart. The
-- outcome of the hart is that of these packets. Their count is the number that is expected next, and the hart is closed
-- where they are all of the log's. The decoder and the list of the hart are those of these packets.
pub record HasCollected (period : ℕ) (mode : Mode) (log : ProgramLog) (count hart : ℕ) (collected : Collected)
    : Type 0 where
  pub known : slice_get collected.logs hart ≡ Some log
  pub few : count ≤ length (packets (words_of log.program) period mode log.events)
  pub came : HasOutcome hart (kept collected.keep (got_after period mode log count)) false collected
  pub expected : slice_get collected.received.expected hart
      ≡ Some (record {
        expected = count;
        closed = count == length (packets (words_of log.program) period mode log.events);
      })
  pub holds : HoldsHart (words_of log.program) hart (take count (packets (words_of log.program) period mode log.events))
      collected.received

-- The message has this number, and the payload of this number of a log at a period and in a mode.
pub record IsMessageOf (period : ℕ) (mode : Mode) (log : ProgramLog) (place : ℕ) (message : Message) : Type 0 where
  pub number : message.number ≡ place
  pub payload : slice_get (payloads period mode log) place ≡ Some message.payload

-- Memory or its thread was refused for the hart.
abbrev pub IsRefusedHart : ℕ → Collected → Type 0
IsRefusedHart hart collected = IsSomeAnd (slice_get collected.harts hart) (λ (taken : Taken). IsTrue taken.refused)

-- These packets, with one more after them where packets are kept.
abbrev pub packets_with : Bool → Packet → List Packet → List Packet
packets_with keep packet packets = if keep then packets ++ packet ∷ [] else packets

-- The sum, or 2^64 - 1 where the sum is greater.
abbrev pub saturating_sum : ℕ → ℕ → ℕ
saturating_sum number more = min (number + more) (2 ^ 64 - 1)

-- The outcome of a hart with one packet more, whose payload has this many bytes. Both counts stop at 2^64 - 1.
abbrev pub one_packet_more : Bool → Packet → ℕ → Taken → Taken
one_packet_more keep packet bytes taken = record {
  packets = packets_with keep packet taken.packets;
  taken = saturating_sum taken.taken 1;
  bytes = saturating_sum taken.bytes bytes;
  refused = taken.refused;
}

-- Nothing was refused for the message's hart, and the demultiplexer accepts the message, with this packet.
pub record Accepts (message : Message) (packet : Packet) (collected : Collected) : Type 0 where
  pub going : ¬ IsRefusedHart message.hart collected
  pub answer : accepting collected.received.expected message ≡ Ok packet

-- A collector has this log for the hart, and holds of the hart what these packets describe, by the log's program.
pub record HasDecoded (log : ProgramLog) (hart : ℕ) (packets : List Packet) (collected : Collected) : Type 0 where
  pub known : slice_get collected.logs hart ≡ Some log
  pub holds : HoldsHart (words_of log.program) hart packets collected.received

-- What a collector holds of the hart is the same.
pub record IsSameOf (hart : ℕ) (old new : Collected) : Type 0 where
  pub taken : slice_get new.harts hart ≡ slice_get old.harts hart
  pub received : IsSameHart hart old.received new.received
