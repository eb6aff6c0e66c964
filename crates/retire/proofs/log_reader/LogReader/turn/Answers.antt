-- What the end of the source says of the log is named by hand.
use Rattle.std.proofs.Common.{arith, rules}
use Rattle.retire.proofs.ReaderLemmas.{header-ends, rows-end}
use Rattle.retire.proofs.log_reader.LogReader.turn.Goals as goal

pub returns-then-is_empty-clause-faults : goal.returns-then-is_empty-clause-faults
returns-then-is_empty-clause-faults g c = λ most seen h.
    header-ends g.S.Source.given g.S.Source.left most seen c.fill_up.new.self (c.in_default.ensures.goes_on most seen h)
    c.in-Header.is c.if-self.true (search (rules, arith))

pub returns-then-is_empty-2-clause-end : goal.returns-then-is_empty-2-clause-end
returns-then-is_empty-2-clause-end g c = λ most seen h e.
    rows-end g.S.Source.given g.S.Source.left most seen c.fill_up.new.self (c.in_default.ensures.goes_on most seen h)
    c.in-Rows.is c.if-self-2.true (search (rules, arith))
