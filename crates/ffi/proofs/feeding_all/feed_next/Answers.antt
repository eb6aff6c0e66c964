-- What came of a payload, by the constructor for each.
use Rattle.std.proofs.Common.{ap, map, refl, subst, sym}
use Rattle.std.specs.Option.{option_map}
use Rattle.ffi.proofs.WrittenInTurn.{fitted, kept}
use Rattle.ffi.specs.Events.{numbers_of_event}
use Rattle.ffi.specs.FedAll.{NoPacket, NoPayload, NoRoom, Refused, TakesIfAny}
use Rattle.ffi.specs.Handed.{IsHandedOut}
use Rattle.ffi.proofs.feeding_all.feed_next.Goals as goal

pub returns-in-None-clause-fed : goal.returns-in-None-clause-fed
returns-in-None-clause-fed c = λ image made are.
    (NoPayload (ap (λ p. option_map (λ own. own.now) p) c.in-None.is) refl, refl, refl, refl)

pub returns-in-Err-clause-fed : goal.returns-in-Err-clause-fed
returns-in-Err-clause-fed c = λ image made are. (
  NoPacket c.in-Some.payload.now (ap (λ p. option_map (λ own. own.now) p) c.in-Some.is) c.in-Err.why
      (sym c.in-Err.ensures.value) c.pack_status.ensures,
  refl,
  refl,
  refl,
)

pub returns-in-Err-feed_packet-clause-fed : goal.returns-in-Err-feed_packet-clause-fed
returns-in-Err-feed_packet-clause-fed c = λ image made are. (
  Refused c.in-Some.payload.now (ap (λ p. option_map (λ own. own.now) p) c.in-Some.is) c.in-Err-feed_packet.why
      (c.in-Err-feed_packet.ensures image c.in-Some.payload.now c.args.numbers.now
      (record { made = made; read = sym c.in-Ok.ensures.value; are = are }) c.clear.ensures.items)
      c.decode_status.ensures,
  refl,
  refl,
  refl,
)

pub returns-then-status-ne-DONE-clause-fed : goal.returns-then-status-ne-DONE-clause-fed
returns-then-status-ne-DONE-clause-fed c = λ image made are.
    let status = c.hand_out_events-status.result in
    let count = c.hand_out_events-status.new.count in
    let old = c.args.events.now in
    let new = c.hand_out_events-status.new.events in
    let list = c.feed_packet.new.events.items in
    let fed = c.in-Ok-feed_packet.ensures image c.in-Some.payload.now c.args.numbers.now
    (record { made = made; read = sym c.in-Ok.ensures.value; are = are }) c.clear.ensures.items in
    let stays = kept numbers_of_event list status count old new
    (subst (λ xs. IsHandedOut (map numbers_of_event xs) status count old new) c.as_slice.ensures.value
    c.hand_out_events-status.ensures) c.if-status-ne-DONE.true in (
      NoRoom c.in-Some.payload.now (ap (λ p. option_map (λ own. own.now) p) c.in-Some.is) c.in-Ok-feed_packet.after list
          fed.0 stays.small stays.said,
      refl,
      refl,
      stays.stays,
    )

pub returns-clause-fed : goal.returns-clause-fed
returns-clause-fed c = λ image made are.
    let status = c.hand_out_events-status.result in
    let count = c.hand_out_events-status.new.count in
    let old = c.args.events.now in
    let new = c.hand_out_events-status.new.events in
    let list = c.feed_packet.new.events.items in
    let fed = c.in-Ok-feed_packet.ensures image c.in-Some.payload.now c.args.numbers.now
    (record { made = made; read = sym c.in-Ok.ensures.value; are = are }) c.clear.ensures.items in
    let done = fitted numbers_of_event list status count old new
    (subst (λ xs. IsHandedOut (map numbers_of_event xs) status count old new) c.as_slice.ensures.value
    c.hand_out_events-status.ensures) c.if-status-ne-DONE.false in (
      list,
      subst (λ p. TakesIfAny image p c.args.numbers.now c.in-Ok-feed_packet.after list)
          (sym (ap (λ p. option_map (λ own. own.now) p) c.in-Some.is)) fed.0,
      fed.1,
      done.counted,
      done.fit,
      done.written,
    )

pub returns-clause-fits : goal.returns-clause-fits
returns-clause-fits c =
    (fitted numbers_of_event c.feed_packet.new.events.items c.hand_out_events-status.result
    c.hand_out_events-status.new.count c.args.events.now c.hand_out_events-status.new.events
    (subst (λ xs. IsHandedOut (map numbers_of_event xs) c.hand_out_events-status.result
    c.hand_out_events-status.new.count c.args.events.now c.hand_out_events-status.new.events) c.as_slice.ensures.value
    c.hand_out_events-status.ensures) c.if-status-ne-DONE.false).fit
