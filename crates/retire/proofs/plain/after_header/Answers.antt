-- The header's line is named by hand.
use Rattle.retire.proofs.PlainLogLemmas.{header-ended}
use Rattle.retire.proofs.plain.after_header.Goals as goal

pub returns-clause-header : goal.returns-clause-header
returns-clause-header c =
    header-ended c.line_end.result c.args.is_ended c.args.text.now c.in_ok-end.end.now c.in_ok-end.ensures.names
    c.line_end.ensures.ends

pub returns-in_err-end-clause-reads : goal.returns-in_err-end-clause-reads
returns-in_err-end-clause-reads c = λ ended rest (end, whole, ends). absurd (c.in_err-end.ensures.reads end whole)
