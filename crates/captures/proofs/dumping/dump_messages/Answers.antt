-- One message more is dumped: by a lemma on captures, which no tactic finds.
use Rattle.std.proofs.Common.{option_map}
use Rattle.std.proofs.lemmas.Result.{err_from_is_err_and}
use Rattle.captures.proofs.Dumps.{dump_begun}
use Rattle.captures.proofs.DumpedMessages.{dumped-next}
use Rattle.captures.proofs.FoundInFront.{in_front}
use Rattle.captures.proofs.dumping.dump_messages.Goals as goal

pub loop-message-preserved : goal.loop-message-preserved
loop-message-preserved g c =
    let left = c.loop-message.messages in
    let next = c.next.new.self in
    let said = c.in-Ok-Some.ensures in
    let front = in_front left next _ c.in-Ok-Some.message c.in-Ok-Some.field-0-is said.ranges said.message
    said.shorter in
    rw (c.in_ok-bad-in-Ok-Some.ensures.bad)
    (dumped-next (option_map (λ file. file.now) c.args.symbols) c.args.harts c.args.mode c.args.all left next
    c.loop-message.count c.loop-message.bad c.in-Ok-Some.message _ _ _
    c.loop-message.invariant front.is_message c.in_ok-bad-in-Ok-Some.ensures.text front.here front.shorter)

pub returns-in_err-bad-in-Ok-Some-clause-begun : goal.returns-in_err-bad-in-Ok-Some-clause-begun
returns-in_err-bad-in-Ok-Some-clause-begun g c =
    let said = c.in-Ok-Some.ensures in
    let front = in_front c.loop-message.messages c.next.new.self _ c.in-Ok-Some.message c.in-Ok-Some.field-0-is
    said.ranges said.message said.shorter in
    let made = err_from_is_err_and c.from_residual.result c.from_residual.ensures.1 in
    rw made.1 (dump_begun (option_map (λ file. file.now) c.args.symbols) c.args.harts c.args.mode c.args.all
    c.loop-message.messages c.next.new.self c.loop-message.count
    c.loop-message.bad c.in-Ok-Some.message _ _ _ c.requires c.loop-message.invariant front.is_message front.here
    c.write_selected_line.ensures.begun)
