-- One message more is followed: by lemmas on the messages that some bytes begin with.
use Rattle.std.proofs.Common.{◌∙◌, ◌+◌, Err, Ok, ap, arith, length, subst, sym}
use Rattle.std.proofs.lemmas.Grind.{common_steps}
use Rattle.std.proofs.lemmas.List.{length-append}
use Rattle.std.specs.Prelude.{◌≡◌, IfErr}
use Rattle.captures.proofs.FoundInFront.{in_front}
use Rattle.message.specs.Capture.{message_bytes}
use Rattle.comparing.proofs.FollowedHarts.{HasFollowed, followed_cut, followed_next, followed_none, followed_whole, refused_by}
use Rattle.comparing.specs.declared.source.SourcingFault.TheVariants.{Stops}
use Rattle.comparing.specs.steps.Sourcing.{IsRefusedUpTo}
use Rattle.comparing.specs.steps.Sourcing.{stopped_after}
use Rattle.comparing.proofs.sourcing.follow_messages.Goals as goal

pub loop-message-init : goal.loop-message-init
loop-message-init g c = record {
  has = followed_none c.args.what c.args.left c.args.trails.now.items;
  few = omega arith;
  room = omega arith;
}

pub loop-message-preserved : goal.loop-message-preserved
loop-message-preserved g c =
    let left = c.loop-message.left in
    let next = c.next.new.self in
    let said = c.in-Ok-Some.ensures in
    let m = c.in-Ok-Some.message in
    let front = in_front left next _ m c.in-Ok-Some.field-0-is said.ranges said.message said.shorter in
    let shorter = front.shorter in
    let size = c.size.ensures.bytes in
    let split = ap length front.here ∙ length-append (message_bytes m) next in
    record {
      has = subst (λ stopped. HasFollowed c.args.what c.args.left next c.args.trails.now.items
          (c.loop-message.number + 1) (c.loop-message.offset + c.size.result) stopped c.follow_next.new.trails.items)
          (sym c.stopped_after-stopped.ensures)
          (subst (λ size. HasFollowed c.args.what c.args.left next c.args.trails.now.items
          (c.loop-message.number + 1) (c.loop-message.offset + size)
          (stopped_after c.args.what.stop (record {
            place = c.loop-message.number;
            number = m.number;
            offset = c.loop-message.offset;
          }) m.hart c.loop-message.stopped) c.follow_next.new.trails.items) (sym size)
          (followed_next c.args.what c.args.left left next c.args.trails.now.items c.loop-message.number
          c.loop-message.offset c.loop-message.stopped c.loop-message.trails.items m c.loop-message.invariant.has
          front.is_message front.here c.follow_next.new.trails.items c.in_ok-follow_next.ensures.before
          c.follow_next.ensures.kept));
      few = omega (arith, c.loop-message.invariant.few, shorter);
      room = omega (arith, c.loop-message.invariant.room, split, size);
    }

pub returns-in-Ok-None-clause-followed : goal.returns-in-Ok-None-clause-followed
returns-in-Ok-None-clause-followed g c =
    followed_whole c.args.what c.args.left c.loop-message.left c.args.trails.now.items c.loop-message.number
    c.loop-message.offset c.loop-message.stopped c.loop-message.trails.items c.loop-message.invariant.has
    (c.in-Ok-None.ensures.end.0 (ap (λ found. Ok found) c.in-Ok-None.field-0-is))

pub returns-in-Err-clause-followed : goal.returns-in-Err-clause-followed
returns-in-Err-clause-followed g c =
    let said = c.in-Err.ensures in
    followed_cut c.args.what c.args.left c.loop-message.left c.args.trails.now.items c.loop-message.number
    c.loop-message.offset c.loop-message.stopped c.loop-message.trails.items c.loop-message.invariant.has c.in-Err.field-0
    said.fault (λ short. said.short.0 (ap (λ f. Err f) short)) (λ bad. said.bad_length.0 (ap (λ f. Err f) bad))

pub returns-in_err-follow_next-clause-stops : goal.returns-in_err-follow_next-clause-stops
returns-in_err-follow_next-clause-stops g c =
    let left = c.loop-message.left in
    let next = c.next.new.self in
    let said = c.in-Ok-Some.ensures in
    let m = c.in-Ok-Some.message in
    let why = c.in_err-follow_next.field-0.0 in
    let front = in_front left next _ m c.in-Ok-Some.field-0-is said.ranges said.message said.shorter in
    let is : c.from_residual.result ≡ Err why = grind (arith, common_steps) in
    subst (λ r. IfErr r (λ why. why ≡ Stops → IsRefusedUpTo c.args.what c.args.left c.args.trails.now.items)) (sym is)
    (λ stops. refused_by c.args.what c.args.left left next c.args.trails.now.items c.loop-message.number
    c.loop-message.offset c.loop-message.stopped c.loop-message.trails.items m c.loop-message.invariant.has
    front.is_message front.here why c.in_err-follow_next.ensures.passed
    (c.in_err-follow_next.ensures.stops stops))
