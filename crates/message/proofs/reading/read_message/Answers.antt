-- That a whole message is read back follows from all clauses of the reading together, by a lemma.
use Rattle.message.proofs.ReadBack.{reads_back}
use Rattle.message.proofs.reading.read_message.Goals as goal

pub returns-clause-reads_back : goal.returns-clause-reads_back
returns-clause-reads_back g c = λ message rest is from.
    reads_back message rest c.next_message.result _ _ is from c.next_message.ensures.ranges
    c.next_message.ensures.message (λ e. (c.next_message.ensures.end e).0) c.next_message.ensures.short
    c.next_message.ensures.bad_length c.next_message.ensures.never_write c.next_message.ensures.never_bad_header
