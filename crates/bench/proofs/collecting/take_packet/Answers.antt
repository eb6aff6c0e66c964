-- What each call found is said of the log's program and of the receiver before: no search looks into a record.
use Rattle.std.proofs.Common.{◌≡◌, ⊎_elim, ◌∙◌, ℕ, Bool, inl, inr, true, refl, Result, Ok, Err, ap, sym, subst, length}
use Rattle.decoder.specs.declared.fault.DecodeFault.{DecodeFault}
use Rattle.decoder.specs.declared.fault.DecodeFault.TheVariants as decode_fault
use Rattle.receiver.proofs.AcceptLemmas.{not_decoded}
use Rattle.receiver.proofs.HoldLemmas.{same_hart}
use Rattle.receiver.specs.NotReceived.{IsNotDecoded}
use Rattle.receiver.specs.Received.{IsReceived, Received}
use Rattle.payload.specs.declared.packet.Packet.{Packet}
use Rattle.rvclass.specs.Fetch.{words_of}
use Rattle.bench.specs.Collected.{Taken, one_packet_more}
use Rattle.bench.specs.declared.collecting.CollectFault.{CollectFault}
use Rattle.bench.specs.declared.collecting.CollectFault.TheVariants as fault
use Rattle.bench.specs.steps.Collecting.{IsLeftBy, taken_of_outcome}
use Rattle.bench.specs.steps.TakesPacket.{TakesPacket}
use Rattle.bench.proofs.collecting.take_packet.Goals as goal

-- A result has one value, and a fault one name.
no_fault : (why : CollectFault) → ◌≡◌ {A = Result (Unit {0}) CollectFault} (Ok tt) (Err why) → ⊥
no_fault why is = cc

same_why : (one other : CollectFault) → ◌≡◌ {A = Result (Unit {0}) CollectFault} (Err one) (Err other) → one ≡ other
same_why one other is = cc

no_memory : (why : DecodeFault) → ◌≡◌ {A = Result (Unit {0}) CollectFault} (Err fault.Memory) (Err (fault.Decode why)) → ⊥
no_memory why is = cc

memory_of : (why : DecodeFault) → ◌≡◌ {A = Result (Unit {0}) DecodeFault} (Err why) (Err decode_fault.Memory)
    → why ≡ decode_fault.Memory
memory_of why is = cc

never_both : (why : DecodeFault) (answer : CollectFault) → answer ≡ fault.Memory
    → ◌≡◌ {A = Result (Unit {0}) CollectFault} (Err answer) (Err (fault.Decode why)) → ⊥
never_both why answer memory is = cc

-- What is counted is counted after what was there before.
counted : (keep : Bool) (packet : Packet) (bytes : ℕ) (before mid after : Taken)
    → after ≡ one_packet_more keep packet bytes mid → mid ≡ before → after ≡ one_packet_more keep packet bytes before
counted keep packet bytes before mid after is same = is ∙ ap (one_packet_more keep packet bytes) same

pub returns-then-not-has_room : goal.returns-then-not-has_room
returns-then-not-has_room g c = record {
  counts = tt;
  leaves = ap (λ (t : Taken). record t { refused = true }) c.has_room.ensures.outcome;
  stays = c.has_room.ensures.receiver;
  one_memory = no_memory decode_fault.Memory;
  holds = λ packets holds. tt;
  others = λ other apart. same_hart other c.args.receiver.now c.has_room.new.receiver c.has_room.ensures.receiver;
  none = λ packets holds. inl refl;
  reason = λ packets why holds is. absurd (no_memory why is);
  expected = ap (λ (r : Received). r.expected) c.has_room.ensures.receiver;
  complete = subst IsReceived (sym c.has_room.ensures.receiver);
}

pub returns-in-Err : goal.returns-in-Err
returns-in-Err g c =
    let image = c.program.result.now in
    let keep = c.args.keep in
    let message = c.args.message.now in
    let packet = c.args.packet in
    let before = taken_of_outcome c.args.outcome.now in
    let after = taken_of_outcome c.undecoded.new.outcome in
    let mid = c.has_room.new.receiver in
    let new = c.decode.new.self in
    let answer = c.undecoded.result in
    let words = words_of image in
    let at : TakesPacket image keep message packet before after mid new (Err answer) = record {
      counts = tt;
      leaves = subst (λ (t : Taken). IsLeftBy answer t after) c.has_room.ensures.outcome c.undecoded.ensures.left;
      stays = c.in-Err.ensures.refused;
      one_memory = λ is. c.undecoded.ensures.one_memory (same_why answer (fault.Decode decode_fault.Memory) is);
      holds = λ packets holds. tt;
      others = c.decode.ensures.others;
      none =
          λ packets holds.
          ⊎_elim (λ memory. inl (c.undecoded.ensures.memory memory)) (λ none. inr none)
          (c.in-Err.ensures.none packets holds);
      reason = λ packets why holds is.
          subst (IsNotDecoded words packets packet) (c.undecoded.ensures.why why (same_why answer (fault.Decode why) is))
          (not_decoded words packets packet c.in-Err.fault (c.in-Err.ensures.not_opened packets holds)
          (c.in-Err.ensures.after_close packets holds) (c.in-Err.ensures.none packets holds)
          (λ memory. absurd (never_both why answer (c.undecoded.ensures.memory (memory_of c.in-Err.fault memory)) is)));
      expected = c.decode.ensures.expected;
      complete = λ was. c.decode.ensures.complete;
    } in
    subst (λ program. TakesPacket program keep message packet before after c.args.receiver.now new (Err answer))
    c.program.ensures.program
    (subst (λ old. TakesPacket image keep message packet before after old new (Err answer)) c.has_room.ensures.receiver
    at)

pub returns : goal.returns
returns g c =
    let image = c.program.result.now in
    let keep = c.args.keep in
    let message = c.args.message.now in
    let packet = c.args.packet in
    let before = taken_of_outcome c.args.outcome.now in
    let after = taken_of_outcome c.count_packet.new.outcome in
    let mid = c.has_room.new.receiver in
    let new = c.decode.new.self in
    let at : TakesPacket image keep message packet before after mid new (Ok tt) = record {
      counts = counted keep packet (length message.payload) before (taken_of_outcome c.has_room.new.outcome) after
          c.count_packet.ensures c.has_room.ensures.outcome;
      leaves = tt;
      stays = tt;
      one_memory = no_fault (fault.Decode decode_fault.Memory);
      holds = c.in-Ok.ensures.hart;
      others = c.decode.ensures.others;
      none = λ packets holds. tt;
      reason = λ packets why holds is. absurd (no_fault (fault.Decode why) is);
      expected = c.decode.ensures.expected;
      complete = λ was. c.decode.ensures.complete;
    } in
    subst (λ program. TakesPacket program keep message packet before after c.args.receiver.now new (Ok tt))
    c.program.ensures.program
    (subst (λ old. TakesPacket image keep message packet before after old new (Ok tt)) c.has_room.ensures.receiver at)
