-- What is kept and the fate are those of the definitions, by the laws on one more message.
use Rattle.std.proofs.Common.{◌∙◌, ap, subst, sym}
use Rattle.auditing.proofs.Taken.{fate_in_found}
use Rattle.auditing.proofs.TakenKnown.{fate_known, takes_known}
use Rattle.auditing.specs.Audits.{Audits}
use Rattle.auditing.specs.Findings.{fate_of_finding}
use Rattle.auditing.proofs.audit.Audit.take.Goals as goal

pub returns-clause-fate : goal.returns-clause-fate
returns-clause-fate g c = λ sent received audits.
    c.fate.ensures ∙ ap fate_of_finding c.take_by_hart.ensures.finding
    ∙ fate_in_found c.args.self.now.by c.args.self.now c.args.message.now
    ∙ fate_known sent received c.args.self.now audits c.args.message.now

pub returns-clause-taken : goal.returns-clause-taken
returns-clause-taken g c = λ sent received audits.
    subst (Audits sent _) (sym c.take_by_hart.ensures.after)
    (takes_known sent received c.args.self.now audits c.args.message.now)
