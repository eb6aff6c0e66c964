-- The records of the header's line and of the rows are named by hand.
use Rattle.std.proofs.Common.{◌∙◌, refl}
use Rattle.retire.proofs.PlainLogLemmas.{log-plain}
use Rattle.retire.proofs.plain.plain_log.Goals as goal

pub returns-in_default-clause-reads : goal.returns-in_default-clause-reads
returns-in_default-clause-reads g c = λ (rest, line, rows). absurd (c.in_default.ensures.reads refl rest line)

pub returns-clause-holds : goal.returns-clause-holds
returns-clause-holds g c =
    log-plain c.args.text.now c.in-Some.rows.now c.in_ok-read.read.rest.now _ _ _ c.is_empty.result
    c.in-Some.ensures.header c.in_ok-read.ensures.reads (c.reserve.ensures.items ∙ c.requires.empty) c.is_empty.ensures
