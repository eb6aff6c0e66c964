-- What the next message of a log changes of what a collector has.
use Rattle.std.proofs.Common.{◌≡◌, ◌+◌, ◌≤◌, ◌⊎◌, ⊎_elim, ℕ, false, List, [], ◌∷◌, ◌++◌}
use Rattle.std.proofs.Common.{Some, Result, Ok, Err, IfErr, OnOk, length, take, slice_get}
use Rattle.std.proofs.Common.{sym, ap, subst, ◌∙◌, arith}
use Rattle.std.proofs.lemmas.Option.{slice_get_within, same_Some}
use Rattle.retire.specs.declared.event.Event.{Event}
use Rattle.rvclass.specs.Fetch.{words_of}
use Rattle.legalpath.specs.ProgramLog.{IsLegalLog, ProgramLog}
use Rattle.payload.specs.declared.mode.Mode.{Mode}
use Rattle.payload.specs.declared.packet.Packet.{Packet}
use Rattle.encoder.specs.Packets.{packets}
use Rattle.decoder.specs.Describes.{Describes}
use Rattle.roundtrip.specs.Reach.{reach}
use Rattle.message.proofs.Elements.{All-slice_get}
use Rattle.message.specs.Accepting.{accepting, harts_after}
use Rattle.message.specs.declared.fault.DemuxFault.{DemuxFault}
use Rattle.message.specs.declared.message.Message.{Message}
use Rattle.receiver.specs.Holds.{HoldsHart}
use Rattle.receiver.specs.Received.{Received}
use Rattle.bench.specs.Collected.{Collected, HasCollected, IsMessageOf}
use Rattle.bench.specs.Collected.{one_packet_more}
use Rattle.bench.specs.Got.{got_after, kept}
use Rattle.bench.specs.declared.collecting.CollectFault.{CollectFault}
use Rattle.bench.specs.declared.collecting.CollectFault.TheVariants as fault
use Rattle.bench.specs.steps.Collecting.{IsCollected}
use Rattle.bench.proofs.CollectedLemmas.{held_first, next_accepted, next_described, next_expected, next_first}
use Rattle.bench.proofs.CollectedLemmas.{next_packet, next_taken, set-at, taken_by}
use Rattle.bench.proofs.TakesIn.{TakesIn, holds_moved, same_Ok}

-- The packets of a log, and its beginning that the first ones reach.
abbrev packets_of_log : ℕ → Mode → ProgramLog → List Packet
packets_of_log period mode log = packets (words_of log.program) period mode log.events

abbrev beginning : ℕ → Mode → ProgramLog → ℕ → List Event
beginning period mode log count = take (reach (words_of log.program) period mode log.events count) log.events

module _ (message : Message) (packet : Packet) (old new : Collected) where
  -- The next message of a log is refused only where an allocation failed.
  pub takes_only_memory : (answer : Result (Unit {0}) CollectFault) → TakesIn message packet answer old new
      → (period : ℕ) (mode : Mode) (count : ℕ) (log : ProgramLog)
      → HasCollected period mode log count message.hart old → IsMessageOf period mode log count message
      → IfErr answer (λ why. why ≡ fault.Memory)
  takes_only_memory (Ok u) t period mode count log has is = tt
  takes_only_memory (Err why) t period mode count log has is =
      let words = words_of log.program in
      let same : t.own ≡ log = same_Some t.own log (sym t.log_at ∙ has.known) in
      let legal = All-slice_get IsLegalLog old.logs message.hart log has.known t.all.legal in
      let next = next_packet period mode log legal count message is in
      let packet_is : next.packet ≡ packet =
      same_Ok next.packet packet
      (sym (next_accepted period mode log legal count message old has is) ∙ t.packet_answered) in
      let first = take count (packets_of_log period mode log) in
      let described = subst (λ one. Describes words (first ++ one ∷ []) (beginning period mode log (count + 1)))
      packet_is (next_described period mode log legal count message is) in
      let holds = holds_moved words message.hart first old.received t.accepted message t.moved has.holds in
      let either = subst (λ (own : ProgramLog). HoldsHart (words_of own.program) message.hart first t.accepted
      → (why ≡ fault.Memory)
      ⊎ ((events : List Event) → ¬ Describes (words_of own.program) (first ++ packet ∷ []) events))
      same (t.takes.none first) holds in
      ⊎_elim (λ memory. memory) (λ none. absurd (none (beginning period mode log (count + 1)) described)) either

  -- And else adds what it settles.
  pub takes_next : (answer : Result (Unit {0}) CollectFault) → TakesIn message packet answer old new
      → (period : ℕ) (mode : Mode) (count : ℕ) (log : ProgramLog)
      → HasCollected period mode log count message.hart old → IsMessageOf period mode log count message
      → OnOk answer (HasCollected period mode log (count + 1) message.hart new)
  takes_next (Err why) t period mode count log has is = tt
  takes_next (Ok u) t period mode count log has is =
      let same : t.own ≡ log = same_Some t.own log (sym t.log_at ∙ has.known) in
      let legal = All-slice_get IsLegalLog old.logs message.hart log has.known t.all.legal in
      let ps = packets_of_log period mode log in
      let next = next_packet period mode log legal count message is in
      let packet_is : next.packet ≡ packet =
      same_Ok next.packet packet
      (sym (next_accepted period mode log legal count message old has is) ∙ t.packet_answered) in
      let within = slice_get_within ps count next.packet next.at in
      let few : count + 1 ≤ length ps = omega (arith, within) in
      let holds = holds_moved (words_of log.program) message.hart (take count ps) old.received t.accepted message
      t.moved has.holds in
      let held = subst (λ (own : ProgramLog). HoldsHart (words_of own.program) message.hart (take count ps) t.accepted
      → HoldsHart (words_of own.program) message.hart (take count ps ++ packet ∷ []) new.received) same
      (t.takes.holds (take count ps)) holds in
      let first : take count ps ++ packet ∷ [] ≡ take (count + 1) ps =
      ap (λ one. take count ps ++ one ∷ []) (sym packet_is) ∙ sym (next_first period mode log legal count message is) in
      let now = subst (λ some. HoldsHart (words_of log.program) message.hart some new.received) first held in
      let moved : new.received.expected ≡ harts_after old.received.expected message =
      t.takes.expected ∙ ap (λ (r : Received). r.expected) t.moved in
      let expected = ap (λ harts. slice_get harts message.hart) moved
      ∙ next_expected period mode log legal count message old has is in
      let reached = held_first period mode log legal (count + 1) message.hart new.received now few t.complete
      (slice_get_within new.received.expected message.hart _ expected) in
      let before = same_Some t.before (taken_by (kept old.keep (got_after period mode log count)) false)
      (sym t.taken_at ∙ has.came.taken) in
      let after : t.after ≡ taken_by (kept new.keep (got_after period mode log (count + 1))) false =
      t.takes.counts
      ∙ ap (one_packet_more old.keep packet (length message.payload)) before
      ∙ ap (λ one. one_packet_more old.keep one (length message.payload)
      (taken_by (kept old.keep (got_after period mode log count)) false)) (sym packet_is)
      ∙ next_taken period mode log legal old.keep count message is
      ∙ ap (λ keep. taken_by (kept keep (got_after period mode log (count + 1))) false) (sym t.keep) in
      record {
        known = ap (λ logs. slice_get logs message.hart) t.logs ∙ has.known;
        few = few;
        came = record {
          taken = ap (λ harts. slice_get harts message.hart) t.harts
              ∙ set-at old.harts message.hart t.after (slice_get_within old.harts message.hart t.before t.taken_at)
              ∙ ap Some after;
          decoded = reached.0;
          closed = reached.1;
        };
        expected = expected;
        holds = now;
      }

-- A message of a log is none that the demultiplexer refuses.
pub not_refused : (collected : Collected) → IsCollected collected → (message : Message) (why : DemuxFault)
    → accepting collected.received.expected message ≡ Err why
    → (period : ℕ) (mode : Mode) (count : ℕ) (log : ProgramLog)
    → HasCollected period mode log count message.hart collected → IsMessageOf period mode log count message → ⊥
not_refused collected all message why answer period mode count log has is =
    let legal = All-slice_get IsLegalLog collected.logs message.hart log has.known all.legal in
    let accepted = next_accepted period mode log legal count message collected has is in
    cc
