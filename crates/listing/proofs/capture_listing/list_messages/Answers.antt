-- How far a capture was listed: by lemmas on listings, which no tactic finds.
use Rattle.std.proofs.Common.{◌+◌, Ok, Err, length, refl, ap, subst, sym}
use Rattle.std.proofs.Common.{arith}
use Rattle.std.proofs.lemmas.List.{length-append}
use Rattle.std.proofs.lemmas.Result.{err_from_is_err_and}
use Rattle.message.specs.Range.{selected}
use Rattle.message.specs.Capture.{message_bytes}
use Rattle.captures.proofs.FoundInFront.{InFront, in_front}
use Rattle.listing.proofs.Reaching.{HasListed, cut_begun, cut_written, judged_more, judged_refused, listed_all}
use Rattle.listing.proofs.Reaching.{listed_none, next_begun}
use Rattle.listing.proofs.capture_listing.list_messages.Goals.{In-Ok-Some}
use Rattle.listing.proofs.capture_listing.list_messages.Goals as goal

-- The message that was found stands in front of the bytes that were left.
in_front_of : (g : _) (c : In-Ok-Some g) → InFront c.loop-message.messages c.next.new.self c.in-Ok-Some.message
in_front_of g c =
    let said = c.in-Ok-Some.ensures in
    in_front c.loop-message.messages c.next.new.self _ c.in-Ok-Some.message c.in-Ok-Some.field-0-is said.ranges
    said.message said.shorter

pub loop-message-init : goal.loop-message-init
loop-message-init g c = (
  λ harts has.
      listed_none c.args.input.now harts c.args.start c.args.messages c.args.receiver.now (g.W.Write.contents
      c.args.sink.now) has,
  (refl, omega arith),
)

pub returns-in-Ok-None-clause-listed : goal.returns-in-Ok-None-clause-listed
returns-in-Ok-None-clause-listed g c = λ harts has.
    listed_all c.args.input.now harts c.args.start c.args.messages c.loop-message.messages c.loop-message.number
    c.loop-message.offset
    c.loop-message.receiver (g.W.Write.contents c.args.sink.now) (g.W.Write.contents c.loop-message.sink)
    (c.loop-message.invariant.0 harts has) (c.in-Ok-None.ensures.end.0 (ap Ok c.in-Ok-None.field-0-is))

pub returns-in-Err-clause-listed : goal.returns-in-Err-clause-listed
returns-in-Err-clause-listed g c = λ harts has.
    let said = c.in-Err.ensures in
    cut_written c.args.input.now harts c.args.start c.args.messages c.loop-message.messages c.loop-message.number
    c.loop-message.offset
    c.loop-message.receiver (g.W.Write.contents c.args.sink.now) (g.W.Write.contents c.loop-message.sink)
    (c.loop-message.invariant.0 harts has) (g.W.Write.contents c.write_incomplete.new.sink) c.in-Err.fault said.fault
    (λ is. said.short.0 (ap Err is)) (λ is. said.bad_length.0 (ap Err is))
    c.in_ok-write_incomplete-in-Err.ensures.text

pub returns-in_err-write_incomplete-in-Err-clause-begun : goal.returns-in_err-write_incomplete-in-Err-clause-begun
returns-in_err-write_incomplete-in-Err-clause-begun g c = λ harts has.
    let said = c.in-Err.ensures in
    let made = err_from_is_err_and c.from_residual.result c.from_residual.ensures.1 in
    rw made.1 (cut_begun c.args.input.now harts c.args.start c.args.messages c.loop-message.messages
    c.loop-message.number c.loop-message.offset
    c.loop-message.receiver (g.W.Write.contents c.args.sink.now) (g.W.Write.contents c.loop-message.sink)
    (c.loop-message.invariant.0 harts has) (g.W.Write.contents c.write_incomplete.new.sink) c.in-Err.fault said.fault
    (λ is. said.short.0 (ap Err is)) (λ is. said.bad_length.0 (ap Err is)) c.write_incomplete.ensures.begun)

pub list_message-requires : goal.list_message-requires
list_message-requires g c =
    let so_far = (c.loop-message.invariant.0 c.requires.none.0 c.requires.none.1).taken in
    record { harts = c.requires.none.0; messages = selected c.args.input.now.only so_far.messages; has = so_far.takes }

pub returns-in_err-list_message-clause-begun : goal.returns-in_err-list_message-clause-begun
returns-in_err-list_message-clause-begun g c = λ harts has.
    let left = c.loop-message.messages in
    let next = c.next.new.self in
    let front = in_front_of g (goal.at.returns-in_err-list_message-clause-begun g c).In-Ok-Some in
    let r = c.loop-message.invariant.0 harts has in
    let found = c.in_err-list_message.ensures.begun harts (selected c.args.input.now.only r.taken.messages)
    r.taken.takes in
    let made = err_from_is_err_and c.from_residual-in_err-list_message.result
    c.from_residual-in_err-list_message.ensures.1 in
    rw made.1 (next_begun c.args.input.now harts c.args.start c.args.messages left c.loop-message.number
    c.loop-message.offset c.loop-message.receiver (g.W.Write.contents c.args.sink.now)
    (g.W.Write.contents c.loop-message.sink) r next c.list_message.new.receiver c.in-Ok-Some.message front.is_message
    front.here found.0 found.1 (g.W.Write.contents c.list_message.new.sink) found.2 found.3)

pub overflow_add-number : goal.overflow_add-number
overflow_add-number g c =
    let front = in_front_of g (goal.at.overflow_add-number g c).In-Ok-Some in
    let shorter = front.shorter in
    let room = c.requires.room in
    let few = c.loop-message.invariant.1.1 in
    omega (arith, shorter, room, few)

pub overflow_add-offset : goal.overflow_add-offset
overflow_add-offset g c =
    let left = c.loop-message.messages in
    let next = c.next.new.self in
    let front = in_front_of g (goal.at.overflow_add-offset g c).In-Ok-Some in
    let here = ap length front.here in
    let both = length-append (message_bytes c.in-Ok-Some.message) next in
    let room = c.requires.room in
    let stands = c.loop-message.invariant.1.0 in
    let size = c.size.ensures.bytes in
    omega (arith, here, both, room, stands, size)

pub loop-message-preserved : goal.loop-message-preserved
loop-message-preserved g c =
    let left = c.loop-message.messages in
    let next = c.next.new.self in
    let front = in_front_of g (goal.at.loop-message-preserved g c).In-Ok-Some in
    let old = g.W.Write.contents c.args.sink.now in
    let mid = g.W.Write.contents c.loop-message.sink in
    let new = g.W.Write.contents c.list_message.new.sink in
    let after = c.list_message.new.receiver in
    let number = c.loop-message.number in
    let offset = c.loop-message.offset in
    let here = ap length front.here in
    let both = length-append (message_bytes c.in-Ok-Some.message) next in
    let stands = c.loop-message.invariant.1.0 in
    let few = c.loop-message.invariant.1.1 in
    let shorter = front.shorter in
    let size = c.size.ensures.bytes in (
      λ harts has.
          let r = c.loop-message.invariant.0 harts has in
          let found = c.in_ok-list_message.ensures.listed harts (selected c.args.input.now.only r.taken.messages)
          r.taken.takes in
          subst (λ more. HasListed c.args.input.now harts c.args.start c.args.messages next (number + 1)
          (offset + more) after old new) (sym size)
          (judged_more c.args.input.now harts c.args.start c.args.messages left number offset
          c.loop-message.receiver old mid r next after c.in-Ok-Some.message front.is_message front.here _ found.0 new
          c.in-None.is found.1 found.2),
      (omega (arith, here, both, stands, size), omega (arith, few, shorter)),
    )

pub returns-in-Some-clause-listed : goal.returns-in-Some-clause-listed
returns-in-Some-clause-listed g c = λ harts has.
    let left = c.loop-message.messages in
    let next = c.next.new.self in
    let front = in_front_of g (goal.at.returns-in-Some-clause-listed g c).In-Ok-Some in
    let r = c.loop-message.invariant.0 harts has in
    let found = c.in_ok-list_message.ensures.listed harts (selected c.args.input.now.only r.taken.messages)
    r.taken.takes in
    judged_refused c.args.input.now harts c.args.start c.args.messages left c.loop-message.number
    c.loop-message.offset c.loop-message.receiver (g.W.Write.contents c.args.sink.now)
    (g.W.Write.contents c.loop-message.sink) r next c.list_message.new.receiver c.in-Ok-Some.message front.is_message
    front.here _ c.in-Some.fault c.from.result found.0 (g.W.Write.contents c.list_message.new.sink) c.in-Some.is
    found.1 c.from.ensures found.2
