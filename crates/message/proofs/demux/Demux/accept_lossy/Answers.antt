-- Each answer is given by a lemma on the cases of the demultiplexer, which no search cuts.
use Rattle.std.proofs.Common.{slice_get}
use Rattle.message.proofs.AnsweringLossy.{answer_lossy-after_close, answer_lossy-gap, answer_lossy-repeat}
use Rattle.message.proofs.AnsweringLossy.{answer_lossy-stranger, answer_lossy-taken, answer_lossy-bad}
use Rattle.message.proofs.MovingLossy.{harts_after_lossy-ok, harts_after_lossy-err}
use Rattle.message.proofs.demux.Demux.accept_lossy.Goals as goal

pub returns-clause-accepted : goal.returns-clause-accepted
returns-clause-accepted g c =
    λ packet missing. rw c.accept_lossy_by_hart.ensures.value
    (answer_lossy-taken (slice_get c.args.self.now c.args.message.now.hart) c.args.message.now packet missing)

pub returns-clause-stranger : goal.returns-clause-stranger
returns-clause-stranger g c =
    rw c.accept_lossy_by_hart.ensures.value (answer_lossy-stranger c.args.self.now c.args.message.now)

pub returns-clause-after_close : goal.returns-clause-after_close
returns-clause-after_close g c =
    rw c.accept_lossy_by_hart.ensures.value
    (answer_lossy-after_close (slice_get c.args.self.now c.args.message.now.hart) c.args.message.now)

pub returns-clause-repeat : goal.returns-clause-repeat
returns-clause-repeat g c =
    rw c.accept_lossy_by_hart.ensures.value
    (answer_lossy-repeat (slice_get c.args.self.now c.args.message.now.hart) c.args.message.now)

pub returns-clause-gap : goal.returns-clause-gap
returns-clause-gap g c =
    λ k. rw c.accept_lossy_by_hart.ensures.value
    (answer_lossy-gap (slice_get c.args.self.now c.args.message.now.hart) c.args.message.now k)

pub returns-clause-bad_packet : goal.returns-clause-bad_packet
returns-clause-bad_packet g c =
    λ why. rw c.accept_lossy_by_hart.ensures.value
    (answer_lossy-bad (slice_get c.args.self.now c.args.message.now.hart) c.args.message.now why)

pub returns-clause-moves : goal.returns-clause-moves
returns-clause-moves g c =
    rw c.accept_lossy_by_hart.ensures.state
    (harts_after_lossy-ok c.args.self.now c.args.message.now c.accept_lossy_by_hart.result
    c.accept_lossy_by_hart.ensures.value)

pub returns-clause-refused : goal.returns-clause-refused
returns-clause-refused g c =
    rw c.accept_lossy_by_hart.ensures.state
    (harts_after_lossy-err c.args.self.now c.args.message.now c.accept_lossy_by_hart.result
    c.accept_lossy_by_hart.ensures.value)
