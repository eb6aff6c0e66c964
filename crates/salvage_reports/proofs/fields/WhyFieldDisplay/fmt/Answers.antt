-- A reason is written as `csv` writes its text: by a lemma on reasons.
use Rattle.std.proofs.Common.{rules, ap, sym, ◌∙◌}
use Rattle.std.proofs.Output.{has_written_of_eq}
use Rattle.salvage_reports.proofs.PlainRows.{reason_is}
use Rattle.output.specs.Quoted.{quoted_field}
use Rattle.salvage_reports.specs.Fields.{why_field}
use Rattle.salvage_reports.proofs.fields.WhyFieldDisplay.fmt.Goals as goal

pub returns-in-Bad-clause-writes : goal.returns-in-Bad-clause-writes
returns-in-Bad-clause-writes g c = λ plain written.
    has_written_of_eq _ _ _ _ _ (sym (reason_is c.in-Bad.why) ∙ sym (ap (why_field quoted_field) c.in-Bad.is))
    (search rules)
