-- Each answer is given by a lemma on the cases of the demultiplexer, which no search cuts.
use Rattle.std.proofs.Common.{Ok, Err, slice_get}
use Rattle.message.proofs.Answering.{answer-after_close, answer-gap, answer-repeat, answer-stranger, answer-unpacked}
use Rattle.message.proofs.Moving.{harts_after-ok, harts_after-err}
use Rattle.message.proofs.demux.Demux.accept.Goals as goal

pub returns-clause-accepted : goal.returns-clause-accepted
returns-clause-accepted g c =
    λ packet. rw c.accept_by_hart.ensures.value
    (answer-unpacked (slice_get c.args.self.now c.args.message.now.hart) c.args.message.now (Ok packet))

pub returns-clause-stranger : goal.returns-clause-stranger
returns-clause-stranger g c = rw c.accept_by_hart.ensures.value (answer-stranger c.args.self.now c.args.message.now)

pub returns-clause-after_close : goal.returns-clause-after_close
returns-clause-after_close g c =
    rw c.accept_by_hart.ensures.value
    (answer-after_close (slice_get c.args.self.now c.args.message.now.hart) c.args.message.now)

pub returns-clause-repeat : goal.returns-clause-repeat
returns-clause-repeat g c =
    rw c.accept_by_hart.ensures.value
    (answer-repeat (slice_get c.args.self.now c.args.message.now.hart) c.args.message.now)

pub returns-clause-gap : goal.returns-clause-gap
returns-clause-gap g c =
    λ k. rw c.accept_by_hart.ensures.value
    (answer-gap (slice_get c.args.self.now c.args.message.now.hart) c.args.message.now k)

pub returns-clause-bad_packet : goal.returns-clause-bad_packet
returns-clause-bad_packet g c =
    λ why. rw c.accept_by_hart.ensures.value
    (answer-unpacked (slice_get c.args.self.now c.args.message.now.hart) c.args.message.now (Err why))

pub returns-clause-moves : goal.returns-clause-moves
returns-clause-moves g c =
    rw c.accept_by_hart.ensures.state
    (harts_after-ok c.args.self.now c.args.message.now c.accept_by_hart.result c.accept_by_hart.ensures.value)

pub returns-clause-refused : goal.returns-clause-refused
returns-clause-refused g c =
    rw c.accept_by_hart.ensures.state
    (harts_after-err c.args.self.now c.args.message.now c.accept_by_hart.result c.accept_by_hart.ensures.value)
