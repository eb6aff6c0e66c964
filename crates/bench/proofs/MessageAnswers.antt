-- What a collector promises of a message, at each of the three ends of taking it in.
use Rattle.std.proofs.Common.{◌≡◌, ◌≢◌, ℕ, Bool, List, Result, Ok, Err, IfErr, OnErr, slice_get, refl, sym, ap}
use Rattle.std.proofs.Common.{subst, ◌∙◌}
use Rattle.legalpath.specs.ProgramLog.{ProgramLog}
use Rattle.payload.specs.declared.packet.Packet.{Packet}
use Rattle.decoder.specs.declared.fault.DecodeFault.{DecodeFault}
use Rattle.decoder.specs.declared.fault.DecodeFault.TheVariants as decode_fault
use Rattle.message.specs.Accepting.{accepting, harts_after}
use Rattle.message.specs.declared.fault.DemuxFault.{DemuxFault}
use Rattle.message.specs.declared.message.Message.{Message}
use Rattle.receiver.proofs.HoldLemmas.{same_hart}
use Rattle.receiver.specs.Received.{Received}
use Rattle.bench.specs.Collected.{Collected, IsRefusedHart, IsSameOf, Taken}
use Rattle.bench.specs.Got.{got_after, kept}
use Rattle.bench.specs.declared.collecting.CollectFault.{CollectFault}
use Rattle.bench.specs.declared.collecting.CollectFault.TheVariants as fault
use Rattle.bench.specs.steps.Collecting.{IsCollected, IsLeftBy}
use Rattle.bench.specs.TakesMessage.{TakesMessage}
use Rattle.bench.proofs.RefusedHarts.{IsRefused, came_not_refused}
use Rattle.bench.proofs.TakesIn.{TakesIn}
use Rattle.bench.proofs.TakesNext.{not_refused, takes_next, takes_only_memory}
use Rattle.bench.proofs.TakesPacket.{takes_counts, takes_decoded, takes_expected, takes_kept_received, takes_memory}
use Rattle.bench.proofs.TakesPacket.{takes_none, takes_others, takes_reason, takes_undecoded}

-- What is answered to a message.
abbrev Answer : Type 0
Answer = Result (Unit {0}) CollectFault

-- No fault is returned where there is none.
no_fault : (why : CollectFault) → ◌≡◌ {A = Answer} (Ok tt) (Err why) → ⊥
no_fault why is = cc

-- A fault of the demultiplexer is no other.
no_memory : (why : DemuxFault) → ◌≡◌ {A = Answer} (Err (fault.Demux why)) (Err fault.Memory) → ⊥
no_memory why is = cc

no_decode : (why : DemuxFault) (other : DecodeFault)
    → ◌≡◌ {A = Answer} (Err (fault.Demux why)) (Err (fault.Decode other)) → ⊥
no_decode why other is = cc

same_demux : (why other : DemuxFault) → ◌≡◌ {A = Answer} (Err (fault.Demux why)) (Err (fault.Demux other))
    → why ≡ other
same_demux why other is = cc

same_refusal : (why other : DemuxFault) → ◌≡◌ {A = Result Packet DemuxFault} (Err why) (Err other) → why ≡ other
same_refusal why other is = cc

-- A packet is no fault.
no_refusal : (packet : Packet) (why : DemuxFault) → ◌≡◌ {A = Result Packet DemuxFault} (Ok packet) (Err why) → ⊥
no_refusal packet why is = cc

-- A packet that is accepted is not refused then.
not_demux : (answer : Answer) (before after : Taken) → IfErr answer (λ why. IsLeftBy why before after)
    → (why : DemuxFault) → answer ≡ Err (fault.Demux why) → ⊥
not_demux (Ok u) before after left why is = cc
not_demux (Err (fault.Demux other)) before after left why is = left
not_demux (Err (fault.Decode other)) before after left why is = cc
not_demux (Err fault.Memory) before after left why is = cc

-- What a collector has of any hart is the same where it has the same.
same_of : (hart : ℕ) (c : Collected) → IsSameOf hart c c
same_of hart c = record { taken = refl; received = same_hart hart c.received c.received refl }

-- A message of a hart for which an allocation failed is passed over.
passed_over : (message : Message) (c : Collected) → IsRefusedHart message.hart c → TakesMessage message (Ok tt) c c
passed_over message c refused = record {
  logs = (refl, refl);
  next = λ period mode count log has is.
      absurd (came_not_refused message.hart (kept c.keep (got_after period mode log count)) c has.came refused);
  only_memory = λ period mode count log has is. tt;
  others = λ hart apart. same_of hart c;
  memory = λ got was came is. absurd (no_fault fault.Memory is);
  undecoded = λ got was why came is. absurd (no_fault (fault.Decode why) is);
  not_accepted = λ why is. refl;
  demux = λ going why. absurd (going refused);
  passed_over = λ again. (refl, refl);
  decoded = λ packet log packets accepts has. absurd (accepts.going refused);
  none = λ packet log packets accepts has. tt;
  reason = λ packet log packets why accepts has is. absurd (accepts.going refused);
  counts = λ packet taken accepts at. absurd (accepts.going refused);
  expected = λ going. absurd (going refused);
  kept = tt;
  one_memory = λ is. no_fault (fault.Decode decode_fault.Memory) is;
}

-- The demultiplexer refuses a message.
not_accepted : (message : Message) (old : Collected) (received : Received) (why : DemuxFault) → IsCollected old
    → (IsRefusedHart message.hart old → ⊥) → accepting old.received.expected message ≡ Err why
    → received ≡ record old.received { expected = harts_after old.received.expected message }
    → received ≡ old.received → TakesMessage message (Err (fault.Demux why)) old (record old { received = received })
not_accepted message old received why all going answer moved stays = record {
  logs = (refl, refl);
  next = λ period mode count log has is. tt;
  only_memory = λ period mode count log has is.
      absurd (not_refused old all message why answer period mode count log has is);
  others = λ hart apart. record { taken = refl; received = same_hart hart old.received received stays };
  memory = λ got was came is. absurd (no_memory why is);
  undecoded = λ got was other came is. absurd (no_decode why other is);
  not_accepted = λ other is. ap (λ (r : Received). record old { received = r }) stays;
  demux = λ on other. (
    λ is. answer ∙ ap Err (same_demux why other is),
    λ is. ap (λ w. Err (fault.Demux w)) (same_refusal why other (sym answer ∙ is)),
  );
  passed_over = λ refused. absurd (going refused);
  decoded = λ packet log packets accepts has. tt;
  none = λ packet log packets accepts has. absurd (no_refusal packet why (sym accepts.answer ∙ answer));
  reason = λ packet log packets other accepts has is. absurd (no_decode why other is);
  counts = λ packet taken accepts at. tt;
  expected = λ on. ap (λ (r : Received). r.expected) moved;
  kept = moved;
  one_memory = λ is. no_decode why decode_fault.Memory is;
}

-- The packet of a message is decoded, or it is not.
taken : (message : Message) (packet : Packet) (old new : Collected) (answer : Answer)
    → (IsRefusedHart message.hart old → ⊥) → answer ≢ Err (fault.Decode decode_fault.Memory)
    → TakesIn message packet answer old new → TakesMessage message answer old new
taken message packet old new answer going one t = record {
  logs = (t.logs, t.keep);
  next = takes_next message packet old new answer t;
  only_memory = takes_only_memory message packet old new answer t;
  others = takes_others message packet old new answer t;
  memory = takes_memory message packet old new answer t;
  undecoded = takes_undecoded message packet old new answer t;
  not_accepted = λ why is. absurd (not_demux answer t.before t.after t.takes.leaves why is);
  demux = λ on why. (
    λ is. absurd (not_demux answer t.before t.after t.takes.leaves why is),
    λ is. absurd (no_refusal packet why (sym t.packet_answered ∙ is)),
  );
  passed_over = λ refused. absurd (going refused);
  decoded = takes_decoded message packet old new answer t;
  none = takes_none message packet old new answer t;
  reason = takes_reason message packet old new answer t;
  counts = takes_counts message packet old new answer t;
  expected = λ on. takes_expected message packet old new answer t;
  kept = takes_kept_received message packet old new answer t;
  one_memory = one;
}

module _ (logs : List ProgramLog) (keep : Bool) (received : Received) (harts : List Taken) (old : Collected)
    (view : record { logs = logs; keep = keep; received = received; harts = harts } ≡ old) (message : Message) (at : ℕ)
    (here : at ≡ message.hart) where
  abbrev whole : Received → List Taken → Collected
  whole r h = record { logs = logs; keep = keep; received = r; harts = h }

  refused_there : IsRefusedHart message.hart (whole received harts) → IsRefused (slice_get harts at)
  refused_there = subst (λ h. IsRefused (slice_get harts h) → IsRefused (slice_get harts at)) here (λ same. same)

  -- The same ends, by what a collector's parts are and the place of the message's hart.
  pub ends_refused : IsRefused (slice_get harts at) → TakesMessage message (Ok tt) old old
  ends_refused refused =
      passed_over message old
      (subst (IsRefusedHart message.hart) view (subst (λ h. IsRefused (slice_get harts h)) here refused))

  pub ends_not_accepted : (result : Result Packet DemuxFault) (new : Received) (why : DemuxFault)
      → IsCollected (whole received harts) → (IsRefused (slice_get harts at) → ⊥)
      → result ≡ accepting received.expected message → result ≡ Err why
      → new ≡ record received { expected = harts_after received.expected message } → OnErr result (new ≡ received)
      → TakesMessage message (Err (fault.Demux why)) old (whole new harts)
  ends_not_accepted result new why all going value is moved stays =
      subst (λ old. TakesMessage message (Err (fault.Demux why)) old (whole new harts)) view
      (not_accepted message (whole received harts) new why all (λ refused. going (refused_there refused))
      (sym value ∙ is) moved (subst (λ r. OnErr r (new ≡ received)) is stays))

  pub ends_taken : (packet : Packet) (answer : Answer) (new : Collected) → (IsRefused (slice_get harts at) → ⊥)
      → answer ≢ Err (fault.Decode decode_fault.Memory) → TakesIn message packet answer (whole received harts) new
      → TakesMessage message answer old new
  ends_taken packet answer new going one t =
      subst (λ old. TakesMessage message answer old new) view
      (taken message packet (whole received harts) new answer (λ refused. going (refused_there refused)) one t)
