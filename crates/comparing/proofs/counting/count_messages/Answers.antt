-- One message more is counted: by lemmas on the messages that some bytes begin with.
use Rattle.std.proofs.Common.{Err, Ok, ap, arith, length}
use Rattle.captures.proofs.FoundInFront.{in_front}
use Rattle.comparing.proofs.CountedFronts.{counted_cut, counted_next, counted_none, counted_whole}
use Rattle.comparing.proofs.counting.count_messages.Goals as goal

pub loop-message-init : goal.loop-message-init
loop-message-init g c = record {
  has = counted_none c.args.left (length c.args.counts.now.items) c.args.stop c.args.counts.now.items c.requires.none;
  few = omega arith;
}

pub loop-message-preserved : goal.loop-message-preserved
loop-message-preserved g c =
    let left = c.loop-message.left in
    let next = c.next.new.self in
    let said = c.in-Ok-Some.ensures in
    let front = in_front left next _ c.in-Ok-Some.message c.in-Ok-Some.field-0-is said.ranges said.message said.shorter in
    let shorter = front.shorter in
    record {
      has = counted_next c.args.left (length c.args.counts.now.items) c.args.stop left next c.loop-message.number
          c.loop-message.counts.items c.in-Ok-Some.message c.loop-message.invariant.has front.is_message front.here
          (omega (arith, c.requires.few)) c.count_before.new.counts.items c.count_before.ensures.counted c.count_before.ensures.kept;
      few = omega (arith, c.loop-message.invariant.few, shorter);
    }

pub returns-in-Ok-None : goal.returns-in-Ok-None
returns-in-Ok-None g c =
    counted_whole c.args.left (length c.args.counts.now.items) c.args.stop c.loop-message.left c.loop-message.number
    c.loop-message.counts.items c.loop-message.invariant.has
    (c.in-Ok-None.ensures.end.0 (ap (λ found. Ok found) c.in-Ok-None.field-0-is))

pub returns-in-Err : goal.returns-in-Err
returns-in-Err g c =
    let said = c.in-Err.ensures in
    counted_cut c.args.left (length c.args.counts.now.items) c.args.stop c.loop-message.left c.loop-message.number
    c.loop-message.counts.items c.loop-message.invariant.has c.in-Err.field-0 said.fault
    (λ short. said.short.0 (ap (λ f. Err f) short)) (λ bad. said.bad_length.0 (ap (λ f. Err f) bad))
