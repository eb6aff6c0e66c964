-- What bytes begin with, and what is left of them: by laws on lists, which no tactic finds.
use Rattle.message.proofs.Fronts.{first_message-short}
use Rattle.message.proofs.Passed.{passed-ended, passed-message, passed-shorter, passed-reads_back}
use Rattle.message.proofs.in_memory.Messages.next.Goals as goal

pub returns-clause-message : goal.returns-clause-message
returns-clause-message c =
    passed-message c.args.self.now c.pass.new.self c.pass.result c.pass.ensures.bytes c.pass.ensures.value
    c.pass.ensures.state

pub returns-clause-shorter : goal.returns-clause-shorter
returns-clause-shorter c = passed-shorter c.args.self.now c.pass.new.self c.pass.result (returns-clause-message c)

pub returns-clause-short : goal.returns-clause-short
returns-clause-short c = rw (c.pass.ensures.value) (first_message-short c.args.self.now c.pass.ensures.bytes)

pub returns-clause-reads_back : goal.returns-clause-reads_back
returns-clause-reads_back c = λ message rest is begins.
    passed-reads_back c.args.self.now c.pass.new.self c.pass.result message rest is begins c.pass.ensures.value
    c.pass.ensures.state

pub returns-clause-ended : goal.returns-clause-ended
returns-clause-ended c = λ none.
    passed-ended c.args.self.now c.pass.new.self c.pass.result none c.pass.ensures.value c.pass.ensures.state
