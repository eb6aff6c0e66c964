-- What the bytes begin with is read: the lemma goes by whether a message is left.
use Rattle.std.proofs.Common.{subst}
use Rattle.stimulus.specs.steps.Drawing.{TakesNext}
use Rattle.stimulus.proofs.LeftMessages.{next_taken, or_none}
use Rattle.stimulus.proofs.mixing.next_of.Goals as goal

pub returns-in-Ok-clause-taken : goal.returns-in-Ok-clause-taken
returns-in-Ok-clause-taken c = λ messages front.
    subst (λ r. TakesNext messages (or_none r) c.next.new.self) c.in-Ok.is
    (next_taken messages c.args.own.now c.next.new.self c.next.result front c.next.ensures.ranges
    c.next.ensures.message c.next.ensures.end.0 c.next.ensures.ended c.next.ensures.stays c.next.ensures.reads_back)

pub returns-in-Err-clause-taken : goal.returns-in-Err-clause-taken
returns-in-Err-clause-taken c = λ messages front.
    subst (λ r. TakesNext messages (or_none r) c.next.new.self) c.in-Err.is
    (next_taken messages c.args.own.now c.next.new.self c.next.result front c.next.ensures.ranges
    c.next.ensures.message c.next.ensures.end.0 c.next.ensures.ended c.next.ensures.stays c.next.ensures.reads_back)
