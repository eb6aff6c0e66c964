-- How far a capture was received: by lemmas on captures, which no tactic finds.
use Rattle.std.proofs.Common.{arith}
use Rattle.rvclass.specs.Fetch.{words_of}
use Rattle.message.specs.Range.{selected}
use Rattle.captures.proofs.FoundInFront.{in_front}
use Rattle.captures.proofs.ReachingHarts.{collected_at, reaches_more, reaches_none}
use Rattle.captures.proofs.capture_decoding.collect.Goals as goal

pub loop-message-init : goal.loop-message-init
loop-message-init g c = (
  λ harts has.
      reaches_none c.args.range (words_of c.args.program.now) harts c.args.announced c.args.messages
      c.args.receiver.now has,
  omega arith,
)

pub loop-message-preserved : goal.loop-message-preserved
loop-message-preserved g c =
    let left = c.loop-message.messages in
    let next = c.next.new.self in
    let said = c.in-Ok-Some.ensures in
    let front = in_front left next _ c.in-Ok-Some.message c.in-Ok-Some.field-0-is said.ranges said.message
    said.shorter in
    let shorter = front.shorter in (
      λ harts has.
          let r = c.loop-message.invariant.0 harts has in
          reaches_more c.args.range (words_of c.args.program.now) harts c.args.announced c.args.messages left next
          c.loop-message.number c.loop-message.receiver c.receive_selected.new.receiver c.in-Ok-Some.message r
          front.is_message front.here c.in-Ok.ensures.agrees
          (c.in-Ok.ensures.received harts (selected c.args.range r.messages) r.takes),
      omega (arith, c.loop-message.invariant.1, shorter),
    )

pub returns-in-Err-receive_selected : goal.returns-in-Err-receive_selected
returns-in-Err-receive_selected g c = λ harts has.
    let words = words_of c.args.program.now in
    let said = c.in-Ok-Some.ensures in
    let front = in_front c.loop-message.messages c.next.new.self _ c.in-Ok-Some.message c.in-Ok-Some.field-0-is
    said.ranges said.message said.shorter in
    collected_at c.args.range words harts c.args.announced c.args.messages c.loop-message.messages c.next.new.self
    c.loop-message.number c.loop-message.receiver c.receive_selected.new.receiver c.in-Ok-Some.message
    c.in-Err-receive_selected.fault
    c.from.result (c.loop-message.invariant.0 harts has) front.is_message front.here
    c.in-Err-receive_selected.ensures.own
    (λ messages. c.in-Err-receive_selected.ensures.held harts messages)
    (λ messages. c.in-Err-receive_selected.ensures.not_received harts messages)
    c.from.ensures
