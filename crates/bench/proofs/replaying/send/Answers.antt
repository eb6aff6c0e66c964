-- What the hart's sender answers, for the sender that stands at the hart's place: by lemmas on lists.
use Rattle.std.proofs.Common.{◌≡◌, ◌<◌, length, get_or, map, nat_lt, set, subst, sym, arith}
use Rattle.std.specs.Prelude.{IfSome}
use Rattle.encoder.specs.Payloads.{payloads}
use Rattle.message.specs.declared.message.Message.{Message}
use Rattle.funnel.specs.Machine.{after_turn}
use Rattle.funnel.specs.declared.turn.Turn.TheVariants as turn
use Rattle.bench.specs.steps.Sending.{AreSending}
use Rattle.bench.proofs.SendingTurn.{has_room, turn-none, turn-one}
use Rattle.bench.proofs.replaying.send.Goals as goal

pub returns-in_default : goal.returns-in_default
returns-in_default g c =
    let core = c.args.core.now in
    let senders = c.args.senders.now.items in
    let hart = c.args.hart in
    let old = c.index_mut.result.now in
    let new = c.next.new.self in
    let at = c.from-place.ensures in
    let known : hart < length senders = omega (arith, c.if-place-len.false, c.len.ensures, at) in
    let read : old ≡ get_or senders hart old =
    subst (λ place. old ≡ get_or senders place old) at c.index_mut.ensures.value in
    record {
      sent = λ period mode logs state legal sending.
          subst (λ place. AreSending period mode core.capacity logs
          (after_turn core.capacity (map (payloads period mode) logs) (turn.Hart hart) state) core
          (set senders place new))
          (sym at)
          (turn-none period mode core.capacity logs state core senders sending legal hart known old new c.next.result
          read (record { given = c.next.ensures.given; goes_on = c.next.ensures.goes_on }) c.in_default.is);
    }

pub offer-requires : goal.offer-requires
offer-requires g c =
    let is : c.in-Some.message.hart ≡ c.args.hart =
    subst (λ some. IfSome some (λ (message : Message). message.hart ≡ c.args.hart)) c.in-Some.is c.next.ensures.hart in
    record { known = omega (arith, is, c.requires.known, c.if-place-len.false, c.len.ensures, c.from-place.ensures) }

pub returns : goal.returns
returns g c =
    let core = c.args.core.now in
    let senders = c.args.senders.now.items in
    let hart = c.args.hart in
    let old = c.index_mut.result.now in
    let new = c.next.new.self in
    let at = c.from-place.ensures in
    let known : hart < length senders = omega (arith, c.if-place-len.false, c.len.ensures, at) in
    let read : old ≡ get_or senders hart old =
    subst (λ place. old ≡ get_or senders place old) at c.index_mut.ensures.value in
    let room = has_room (nat_lt (length core.queue) core.capacity) c.if-is_full.ensures in
    record {
      sent = λ period mode logs state legal sending.
          subst (λ place. AreSending period mode core.capacity logs
          (after_turn core.capacity (map (payloads period mode) logs) (turn.Hart hart) state) c.offer.new.self
          (set senders place new))
          (sym at)
          (turn-one period mode core.capacity logs state core senders sending legal hart known old new c.next.result
          read (record { given = c.next.ensures.given; goes_on = c.next.ensures.goes_on }) c.in-Some.message
          c.offer.new.self c.in-Some.is room c.offer.ensures.step);
    }
