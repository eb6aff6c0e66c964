-- What a packet that the demultiplexer accepts changes of what a collector has, whatever messages came before.
use Rattle.std.proofs.Common.{◌≡◌, ◌≢◌, ◌⊎◌, ℕ, Bool, true, List, [], ◌∷◌, ◌++◌}
use Rattle.std.proofs.Common.{Some, Result, Ok, Err, IfErr, OnOk, length, set, slice_get}
use Rattle.std.proofs.Common.{sym, ap, subst, ◌∙◌}
use Rattle.std.specs.Prelude.{OnErr}
use Rattle.std.proofs.lemmas.Option.{slice_get_within, same_Some}
use Rattle.retire.specs.declared.event.Event.{Event}
use Rattle.rvclass.specs.Fetch.{words_of}
use Rattle.legalpath.specs.ProgramLog.{ProgramLog}
use Rattle.payload.specs.declared.packet.Packet.{Packet}
use Rattle.decoder.specs.Describes.{Describes}
use Rattle.decoder.specs.declared.fault.DecodeFault.{DecodeFault}
use Rattle.message.specs.Accepting.{harts_after}
use Rattle.message.specs.declared.message.Message.{Message}
use Rattle.receiver.proofs.AcceptLemmas.{accepts_others}
use Rattle.receiver.proofs.HoldLemmas.{same_hart_twice, set-other}
use Rattle.receiver.specs.Holds.{HoldsHart}
use Rattle.receiver.specs.Received.{Received}
use Rattle.receiver.specs.NotReceived.{IsNotDecoded}
use Rattle.bench.specs.Collected.{Accepts, Collected, HasDecoded, HasOutcome, IsSameOf, Taken}
use Rattle.bench.specs.Collected.{one_packet_more}
use Rattle.bench.specs.Got.{Got}
use Rattle.bench.specs.declared.collecting.CollectFault.{CollectFault}
use Rattle.bench.specs.declared.collecting.CollectFault.TheVariants as fault
use Rattle.bench.proofs.CollectedLemmas.{set-at, taken_by}
use Rattle.bench.proofs.TakesIn.{TakesIn, holds_moved, same_Ok}

module _ (message : Message) (packet : Packet) (old new : Collected) where
  -- Of the other harts nothing changes.
  pub takes_others : (answer : Result (Unit {0}) CollectFault) → TakesIn message packet answer old new
      → (hart : ℕ) → hart ≢ message.hart → IsSameOf hart old new
  takes_others answer t hart apart = record {
    taken = ap (λ harts. slice_get harts hart) t.harts ∙ set-other old.harts message.hart t.after hart apart;
    received = same_hart_twice hart old.received t.accepted new.received
        (accepts_others old.received t.accepted message hart apart t.moved) (t.takes.others hart apart);
  }

  -- What came of the hart where its packet was not decoded.
  came_left : (t : Received) → (after : Taken) → (got : Got) (was is : Bool)
      → slice_get old.harts message.hart ≡ Some (taken_by got was)
      → t ≡ record old.received { expected = harts_after old.received.expected message }
      → new.harts ≡ set old.harts message.hart after → new.received ≡ t
      → after ≡ taken_by got is → HasOutcome message.hart got was old → HasOutcome message.hart got is new
  came_left t after got was is at moved harts stays same came = record {
    taken = ap (λ harts. slice_get harts message.hart) harts
        ∙ set-at old.harts message.hart after (slice_get_within old.harts message.hart (taken_by got was) at)
        ∙ ap Some same;
    decoded = ap (λ (r : Received). slice_get r.lists message.hart) (stays ∙ moved) ∙ came.decoded;
    closed = ap (λ (r : Received). slice_get r.closed message.hart) (stays ∙ moved) ∙ came.closed;
  }

  -- An allocation failed then.
  pub takes_memory : (answer : Result (Unit {0}) CollectFault) → TakesIn message packet answer old new
      → (got : Got) (refused : Bool)
      → HasOutcome message.hart got refused old → answer ≡ Err fault.Memory → HasOutcome message.hart got true new
  takes_memory (Ok u) t got refused came is = cc
  takes_memory (Err (fault.Demux why)) t got refused came is = absurd t.takes.leaves
  takes_memory (Err (fault.Decode why)) t got refused came is = cc
  takes_memory (Err fault.Memory) t got refused came is =
      let before = same_Some t.before (taken_by got refused) (sym t.taken_at ∙ came.taken) in
      came_left t.accepted t.after got refused true came.taken t.moved t.harts t.takes.stays
      (t.takes.leaves ∙ ap (λ (taken : Taken). record taken { refused = true }) before) came

  -- The packet describes something else than a log.
  pub takes_undecoded : (answer : Result (Unit {0}) CollectFault) → TakesIn message packet answer old new
      → (got : Got) (refused : Bool) (why : DecodeFault)
      → HasOutcome message.hart got refused old → answer ≡ Err (fault.Decode why)
      → HasOutcome message.hart got refused new
  takes_undecoded (Ok u) t got refused why came is = cc
  takes_undecoded (Err (fault.Demux other)) t got refused why came is = absurd t.takes.leaves
  takes_undecoded (Err fault.Memory) t got refused why came is = cc
  takes_undecoded (Err (fault.Decode other)) t got refused why came is =
      let before = same_Some t.before (taken_by got refused) (sym t.taken_at ∙ came.taken) in
      came_left t.accepted t.after got refused refused came.taken t.moved t.harts t.takes.stays (t.takes.leaves ∙ before) came

  -- What follows for the packet and the log that were taken in follows for the ones that are known.
  of_known : (P : ProgramLog → Packet → Type 0) (answer : Result (Unit {0}) CollectFault)
      → (t : TakesIn message packet answer old new) → (one : Packet) (log : ProgramLog) (some : List Packet)
      → Accepts message one old → HasDecoded log message.hart some old
      → (HoldsHart (words_of t.own.program) message.hart some t.accepted → P t.own packet) → P log one
  of_known P answer t one log some accepts has own =
      let same : t.own ≡ log = same_Some t.own log (sym t.log_at ∙ has.known) in
      let packet_is : packet ≡ one = same_Ok packet one (sym t.packet_answered ∙ accepts.answer) in
      subst (P log) packet_is
      (subst (λ (its : ProgramLog). HoldsHart (words_of its.program) message.hart some t.accepted → P its packet) same
      own
      (holds_moved (words_of log.program) message.hart some old.received t.accepted message t.moved has.holds))

  -- What the packet describes is held then too.
  pub takes_decoded : (answer : Result (Unit {0}) CollectFault) → TakesIn message packet answer old new
      → (one : Packet) (log : ProgramLog) (some : List Packet) → Accepts message one old
      → HasDecoded log message.hart some old → OnOk answer (HasDecoded log message.hart (some ++ one ∷ []) new)
  takes_decoded (Err why) t one log some accepts has = tt
  takes_decoded (Ok u) t one log some accepts has = record {
    known = ap (λ logs. slice_get logs message.hart) t.logs ∙ has.known;
    holds =
        of_known (λ its one. HoldsHart (words_of its.program) message.hart (some ++ one ∷ []) new.received) (Ok u) t
        one log some accepts has (t.takes.holds some);
  }

  -- Else no log is described with it, or an allocation failed.
  pub takes_none : (answer : Result (Unit {0}) CollectFault) → TakesIn message packet answer old new
      → (one : Packet) (log : ProgramLog) (some : List Packet) → Accepts message one old
      → HasDecoded log message.hart some old → IfErr answer (λ why. (why ≡ fault.Memory)
      ⊎ ((events : List Event) → ¬ Describes (words_of log.program) (some ++ one ∷ []) events))
  takes_none (Ok u) t one log some accepts has = tt
  takes_none (Err why) t one log some accepts has =
      of_known (λ its one. (why ≡ fault.Memory)
      ⊎ ((events : List Event) → ¬ Describes (words_of its.program) (some ++ one ∷ []) events)) (Err why) t one log
      some accepts has (t.takes.none some)

  -- And a fault of the decoder is returned for its reason.
  pub takes_reason : (answer : Result (Unit {0}) CollectFault) → TakesIn message packet answer old new
      → (one : Packet) (log : ProgramLog) (some : List Packet) (why : DecodeFault) → Accepts message one old
      → HasDecoded log message.hart some old → answer ≡ Err (fault.Decode why)
      → IsNotDecoded (words_of log.program) some one why
  takes_reason answer t one log some why accepts has is =
      of_known (λ its one. IsNotDecoded (words_of its.program) some one why) answer t one log some accepts has
      (λ holds. t.takes.reason some why holds is)

  -- It is counted.
  pub takes_counts : (answer : Result (Unit {0}) CollectFault) → TakesIn message packet answer old new
      → (one : Packet) (taken : Taken) → Accepts message one old → slice_get old.harts message.hart ≡ Some taken
      → OnOk answer (slice_get new.harts message.hart
      ≡ Some (one_packet_more old.keep one (length message.payload) taken))
  takes_counts (Err why) t one taken accepts at = tt
  takes_counts (Ok u) t one taken accepts at =
      let before : t.before ≡ taken = same_Some t.before taken (sym t.taken_at ∙ at) in
      let packet_is : packet ≡ one = same_Ok packet one (sym t.packet_answered ∙ accepts.answer) in
      ap (λ harts. slice_get harts message.hart) t.harts
      ∙ set-at old.harts message.hart t.after (slice_get_within old.harts message.hart taken at)
      ∙ ap Some (t.takes.counts ∙ ap (one_packet_more old.keep packet (length message.payload)) before
      ∙ ap (λ one. one_packet_more old.keep one (length message.payload) taken) packet_is)

  -- Of its hart another message is expected then.
  pub takes_expected : (answer : Result (Unit {0}) CollectFault) → TakesIn message packet answer old new
      → new.received.expected ≡ harts_after old.received.expected message
  takes_expected answer t = t.takes.expected ∙ ap (λ (r : Received). r.expected) t.moved

  -- A fault changes nothing else of what is received.
  pub takes_kept_received : (answer : Result (Unit {0}) CollectFault) → TakesIn message packet answer old new
      → OnErr answer (new.received
      ≡ record old.received { expected = harts_after old.received.expected message })
  takes_kept_received (Ok u) t = tt
  takes_kept_received (Err why) t = t.takes.stays ∙ t.moved
