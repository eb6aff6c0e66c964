-- What a collector promises of a message that it is given.
use Rattle.std.specs.Prelude.{ℕ, ◌+◌, ◌≡◌, ◌≢◌, ◌⊎◌, ◌↔◌, ◌++◌, Bool, true, List, [], ◌∷◌, Some, Result, Ok, Err}
use Rattle.std.specs.Prelude.{IfErr, OnErr, OnOk, length, slice_get}
use Rattle.retire.specs.declared.event.Event.{Event}
use Rattle.rvclass.specs.Fetch.{words_of}
use Rattle.legalpath.specs.ProgramLog.{ProgramLog}
use Rattle.payload.specs.declared.mode.Mode.{Mode}
use Rattle.payload.specs.declared.packet.Packet.{Packet}
use Rattle.decoder.specs.Describes.{Describes}
use Rattle.decoder.specs.declared.fault.DecodeFault.{DecodeFault}
use Rattle.decoder.specs.declared.fault.DecodeFault.TheVariants as decode_fault
use Rattle.message.specs.Accepting.{accepting, harts_after}
use Rattle.message.specs.declared.fault.DemuxFault.{DemuxFault}
use Rattle.message.specs.declared.message.Message.{Message}
use Rattle.receiver.specs.NotReceived.{IsNotDecoded}
use Rattle.bench.specs.Collected.{Accepts, Collected, HasCollected, HasDecoded, HasOutcome, IsMessageOf, IsRefusedHart}
use Rattle.bench.specs.Collected.{IsSameOf, Taken, one_packet_more}
use Rattle.bench.specs.Got.{Got}
use Rattle.bench.specs.declared.collecting.CollectFault.{CollectFault}
use Rattle.bench.specs.declared.collecting.CollectFault.TheVariants as fault

-- What is promised of a message that is given to a collector, of the result, and of what the collector had before it and
-- has after it. The next message of a log adds what it settles, unless an allocation fails (`next`). A fault leaves what
-- was decoded of the hart as it was (`memory`, `undecoded`). Of any hart for which no allocation failed, whatever its
-- messages were, the packet of an accepted message is decoded after those before it, and counted, unless no log is
-- described with it or an allocation fails (`decoded`, `none`, `reason`, `counts`).
pub record TakesMessage (message : Message) (result : Result (Unit {0}) CollectFault) (old new : Collected)
    : Type 0 where
  pub logs : (new.logs ≡ old.logs) × (new.keep ≡ old.keep)
  pub next : (period : ℕ) (mode : Mode) (count : ℕ) (log : ProgramLog)
      → HasCollected period mode log count message.hart old
      → IsMessageOf period mode log count message
      → OnOk result (HasCollected period mode log (count + 1) message.hart new)
  pub only_memory : (period : ℕ) (mode : Mode) (count : ℕ) (log : ProgramLog)
      → HasCollected period mode log count message.hart old
      → IsMessageOf period mode log count message → IfErr result (λ why. why ≡ fault.Memory)
  pub others : (hart : ℕ) → hart ≢ message.hart → IsSameOf hart old new
  pub memory : (got : Got) (refused : Bool) → HasOutcome message.hart got refused old → result ≡ Err fault.Memory
      → HasOutcome message.hart got true new
  pub undecoded : (got : Got) (refused : Bool) (why : DecodeFault) → HasOutcome message.hart got refused old
      → result ≡ Err (fault.Decode why) → HasOutcome message.hart got refused new
  pub not_accepted : (why : DemuxFault) → result ≡ Err (fault.Demux why) → new ≡ old
  pub demux : ¬ IsRefusedHart message.hart old → (why : DemuxFault)
      → (result ≡ Err (fault.Demux why)) ↔ (accepting old.received.expected message ≡ Err why)
  pub passed_over : IsRefusedHart message.hart old → (result ≡ Ok tt) × (new ≡ old)
  pub decoded : (packet : Packet) (log : ProgramLog) (packets : List Packet) → Accepts message packet old
      → HasDecoded log message.hart packets old
      → OnOk result (HasDecoded log message.hart (packets ++ packet ∷ []) new)
  pub none : (packet : Packet) (log : ProgramLog) (packets : List Packet) → Accepts message packet old
      → HasDecoded log message.hart packets old
      → IfErr result (λ why. (why ≡ fault.Memory)
      ⊎ ((events : List Event) → ¬ Describes (words_of log.program) (packets ++ packet ∷ []) events))
  pub reason : (packet : Packet) (log : ProgramLog) (packets : List Packet) (why : DecodeFault)
      → Accepts message packet old → HasDecoded log message.hart packets old → result ≡ Err (fault.Decode why)
      → IsNotDecoded (words_of log.program) packets packet why
  pub counts : (packet : Packet) (taken : Taken) → Accepts message packet old
      → slice_get old.harts message.hart ≡ Some taken
      → OnOk result (slice_get new.harts message.hart
      ≡ Some (one_packet_more old.keep packet (length message.payload) taken))
  pub expected : ¬ IsRefusedHart message.hart old
      → new.received.expected ≡ harts_after old.received.expected message
  pub kept : OnErr result (new.received ≡ record old.received { expected = harts_after old.received.expected message })
  pub one_memory : result ≢ Err (fault.Decode decode_fault.Memory)
