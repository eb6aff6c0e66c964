-- What a collector has where the demultiplexer accepted a message, by what its parts are then.
use Rattle.std.proofs.Common.{◌≡◌, ◌<◌, ℕ, Bool, All, List}
use Rattle.std.proofs.Common.{Option, Some, None, Result, Ok, length, set, get_or, slice_get}
use Rattle.std.proofs.Common.{refl, sym, ap, subst, ◌∙◌, arith}
use Rattle.std.proofs.lemmas.List.{length-map, length-set, map-set}
use Rattle.std.proofs.lemmas.Option.{slice_get_read}
use Rattle.rvclass.specs.Words.{Words}
use Rattle.legalpath.specs.ProgramLog.{IsLegalLog, ProgramLog}
use Rattle.payload.specs.declared.packet.Packet.{Packet}
use Rattle.message.specs.Accepting.{accepting, harts_after, harts_after_found, state_after}
use Rattle.message.specs.Harts.{Harts}
use Rattle.message.specs.declared.fault.DemuxFault.{DemuxFault}
use Rattle.message.specs.declared.hart.Hart.{Hart}
use Rattle.message.specs.declared.message.Message.{Message}
use Rattle.receiver.specs.Holds.{HoldsHart}
use Rattle.receiver.specs.Received.{IsReceived, Received}
use Rattle.bench.specs.Collected.{Collected, Taken}
use Rattle.bench.specs.declared.collecting.CollectFault.{CollectFault}
use Rattle.bench.specs.declared.outcome.HartOutcome.{HartOutcome}
use Rattle.bench.specs.steps.Collecting.{IsCollected, taken_in, taken_of_outcome}
use Rattle.bench.specs.steps.TakesPacket.{TakesPacket}
use Rattle.bench.proofs.RefusedHarts.{taken_at}

-- The answer to a message whose packet was accepted, and what a collector has then.
pub record TakesIn (message : Message) (packet : Packet) (answer : Result (Unit {0}) CollectFault)
    (old new : Collected) : Type 0 where
  pub own : ProgramLog
  pub accepted : Received
  pub before : Taken
  pub after : Taken
  pub all : IsCollected old
  pub packet_answered : accepting old.received.expected message ≡ Ok packet
  pub moved : accepted ≡ record old.received { expected = harts_after old.received.expected message }
  pub log_at : slice_get old.logs message.hart ≡ Some own
  pub taken_at : slice_get old.harts message.hart ≡ Some before
  pub logs : new.logs ≡ old.logs
  pub keep : new.keep ≡ old.keep
  pub harts : new.harts ≡ set old.harts message.hart after
  pub takes : TakesPacket own.program old.keep message packet before after accepted new.received answer
  pub complete : IsReceived new.received

-- What is held of a hart has no part in what is expected.
pub holds_moved : (words : Words) (hart : ℕ) (packets : List Packet) (old accepted : Received) (message : Message)
    → accepted ≡ record old { expected = harts_after old.expected message } → HoldsHart words hart packets old
    → HoldsHart words hart packets accepted
holds_moved words hart packets old accepted message moved holds =
    subst (HoldsHart words hart packets) (sym moved) (record { stands = holds.stands; closed = holds.closed })

-- What is expected is of as many harts.
pub length-harts_after : (expected : Harts) (message : Message)
    → length (harts_after expected message) ≡ length expected
length-harts_after expected message = by_hart (slice_get expected message.hart)
  where
    by_hart : (found : Option Hart) → length (harts_after_found expected message found) ≡ length expected
    by_hart None = refl
    by_hart (Some h) = length-set expected message.hart (state_after h message)

-- One answer.
pub same_Ok : (a b : Packet) → ◌≡◌ {A = Result Packet DemuxFault} (Ok a) (Ok b) → a ≡ b
same_Ok a b is = cc

-- A collector has each of these of every hart still.
pub takes_kept : (message : Message) (packet : Packet) (old new : Collected) (answer : Result (Unit {0}) CollectFault)
    → TakesIn message packet answer old new → IsCollected new
takes_kept message packet old new answer t =
    let expected = ap length t.takes.expected ∙ ap (λ (r : Received). length r.expected) t.moved
    ∙ length-harts_after old.received.expected message in
    let logs = ap length t.logs in
    let harts = ap length t.harts ∙ length-set old.harts message.hart t.after in
    let all_logs = t.all.logs in
    let all_harts = t.all.harts in
    record {
      received = t.complete;
      logs = omega (arith, expected, logs, all_logs);
      harts = omega (arith, expected, harts, all_harts);
      legal = subst (All IsLegalLog) (sym t.logs) t.all.legal;
    }

-- The same, by what the outcomes are and what was written.
pub takes_in : {A : Type 0} (logs : List ProgramLog) (keep : Bool) (old accepted new : Received)
    (harts : List (HartOutcome A))
    → (message : Message) (packet : Packet) (at : ℕ) (own : ProgramLog) (outcome written : HartOutcome A)
    → (answer : Result (Unit {0}) CollectFault) → at ≡ message.hart
    → IsCollected (record { logs = logs; keep = keep; received = old; harts = taken_in harts })
    → accepting old.expected message ≡ Ok packet
    → accepted ≡ record old { expected = harts_after old.expected message }
    → message.hart < length accepted.lists → own ≡ get_or logs at own → outcome ≡ get_or harts at outcome
    → TakesPacket own.program keep message packet (taken_of_outcome outcome) (taken_of_outcome written) accepted new answer
    → TakesIn message packet answer (record { logs = logs; keep = keep; received = old; harts = taken_in harts })
    (record { logs = logs; keep = keep; received = new; harts = taken_in (set harts at written) })
takes_in {A} logs keep old accepted new harts message packet at own outcome written answer here all answered moved known
    is_log is_outcome takes =
    record {
      own = own;
      accepted = accepted;
      before = taken_of_outcome outcome;
      after = taken_of_outcome written;
      all = all;
      packet_answered = answered;
      moved = moved;
      log_at = ap (slice_get logs) (sym here) ∙ slice_get_read logs (length logs) at own refl of_logs is_log;
      taken_at = taken_at harts at message.hart outcome here of_harts is_outcome;
      logs = refl;
      keep = refl;
      harts = map-set taken_of_outcome harts at written
          ∙ ap (λ i. set (taken_in harts) i (taken_of_outcome written)) here;
      takes = takes;
      complete = takes.complete (record {
        decoders = omega (arith, decoders, counts_expected, all_decoders);
        lists = omega (arith, lists, counts_expected, all_lists);
        closed = omega (arith, closed, counts_expected, all_closed);
      });
    }
  where
    lists : length accepted.lists ≡ length old.lists
    lists = ap (λ (r : Received). length r.lists) moved

    decoders : length accepted.decoders ≡ length old.decoders
    decoders = ap (λ (r : Received). length r.decoders) moved

    closed : length accepted.closed ≡ length old.closed
    closed = ap (λ (r : Received). length r.closed) moved

    counts_expected : length accepted.expected ≡ length old.expected
    counts_expected = ap (λ (r : Received). length r.expected) moved ∙ length-harts_after old.expected message

    all_lists : length old.lists ≡ length old.expected
    all_lists = all.received.lists

    all_decoders : length old.decoders ≡ length old.expected
    all_decoders = all.received.decoders

    all_closed : length old.closed ≡ length old.expected
    all_closed = all.received.closed

    of_logs : at < length logs
    of_logs = let count = all.logs in omega (arith, here, known, lists, all_lists, count)

    of_harts : at < length harts
    of_harts =
        let count = all.harts in omega (arith, here, known, lists, all_lists, count, length-map harts taken_of_outcome)
