-- One payload more is fed: by lemmas on lists, which no tactic finds.
use Rattle.std.proofs.Common.{◌∙◌, ap, arith, length, refl}
use Rattle.std.proofs.lemmas.List.{length-drop}
use Rattle.ffi.proofs.FedInTurn.{fed_all, fed_more, fed_none, stopped}
use Rattle.ffi.proofs.WrittenInTurn.{part_back, part_lent}
use Rattle.ffi.specs.FedAll.{AllTaken, BadState, Fed, NoProgram}
use Rattle.ffi.proofs.feeding_all.feed_while_room.Goals as goal

pub returns-in-None : goal.returns-in-None
returns-in-None c =
    BadState (λ some. let same = c.in-None.ensures.only some.0 some.1 in cc) c.none_fed.ensures.status
    c.none_fed.ensures.taken c.none_fed.ensures.count refl refl

pub returns-in-Err : goal.returns-in-Err
returns-in-Err c =
    NoProgram (c.in-Some.first, c.in-Some.ensures.found) c.in-Err.fault c.in-Err.is
    (c.none_fed-in-Err.ensures.status ∙ c.status.ensures) c.none_fed-in-Err.ensures.taken c.none_fed-in-Err.ensures.count refl refl

pub loop-place-init : goal.loop-place-init
loop-place-init c = (
  fed_none c.args.image.now c.args.payloads.now c.args.ends.now c.args.numbers.now c.args.events.now c.in-Some.first
      c.in-Some.ensures.found,
  omega arith,
)

pub returns-in-Err-feed_next : goal.returns-in-Err-feed_next
returns-in-Err-feed_next c =
    let before = c.loop-place.invariant.0 in
    let step = c.in-Err-feed_next.ensures.fed c.args.image.now c.in-Ok.is before.are in
    let ended = stopped c.args.image.now c.args.payloads.now c.args.ends.now c.args.numbers.now c.args.events.now
    c.loop-place.numbers c.feed_next.new.numbers c.loop-place.kept c.feed_next.new.kept c.loop-place.place
    c.loop-place.written c.loop-place.events _ c.feed_next.new.events _ _
    (part_lent c.loop-place.written c.loop-place.events)
    (part_back c.loop-place.written c.loop-place.events c.feed_next.new.events) c.loop-place-test.true
    c.text_at-payload.ensures before c.in-Err-feed_next.status step in
    Fed (c.in-Some.first, c.in-Some.ensures.found) c.in-Ok.program c.in-Ok.is ended.0 ended.1

pub loop-place-preserved : goal.loop-place-preserved
loop-place-preserved c =
    let before = c.loop-place.invariant.0 in
    let more = c.in-Ok-feed_next.more in
    let fits = c.in-Ok-feed_next.ensures.fits in
    let lent = ap length (part_lent c.loop-place.written c.loop-place.events) in
    let left = length-drop c.loop-place.written c.loop-place.events in
    let same = c.loop-place.auto.events in
    let room = c.loop-place.invariant.1 in (
      fed_more c.args.image.now c.args.payloads.now c.args.ends.now c.args.numbers.now c.args.events.now
          c.loop-place.numbers c.feed_next.new.numbers c.loop-place.kept c.feed_next.new.kept c.loop-place.place
          c.loop-place.written c.loop-place.events _ c.feed_next.new.events _ _
          (part_lent c.loop-place.written c.loop-place.events)
          (part_back c.loop-place.written c.loop-place.events c.feed_next.new.events) c.loop-place-test.true
          c.text_at-payload.ensures before more
          (c.in-Ok-feed_next.ensures.fed c.args.image.now c.in-Ok.is before.are),
      omega (arith, fits, lent, left, same, room),
    )

pub returns : goal.returns
returns c =
    Fed (c.in-Some.first, c.in-Some.ensures.found) c.in-Ok.program c.in-Ok.is
    (fed_all c.args.image.now c.args.payloads.now c.args.ends.now c.args.numbers.now c.args.events.now
    c.loop-place.numbers c.loop-place.kept c.loop-place.place c.loop-place.written c.loop-place.events
    (omega arith) c.loop-place.invariant.0) (AllTaken refl refl)
