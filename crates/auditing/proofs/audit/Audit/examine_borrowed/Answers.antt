-- What is kept and what is found are those of the definitions, by the laws on one more message.
use Rattle.std.proofs.Common.{◌∙◌, subst, sym}
use Rattle.auditing.proofs.TakenKnown.{finding_known, takes_known}
use Rattle.frames.specs.Borrowed.{message_of}
use Rattle.auditing.specs.Audits.{Audits}
use Rattle.auditing.proofs.audit.Audit.examine_borrowed.Goals as goal

pub returns-clause-finding : goal.returns-clause-finding
returns-clause-finding g c = λ sent received audits.
    c.take_borrowed.ensures.finding ∙ finding_known sent received c.args.self.now audits (message_of c.args.message)

pub returns-clause-taken : goal.returns-clause-taken
returns-clause-taken g c = λ sent received audits.
    subst (Audits sent _) (sym c.take_borrowed.ensures.after)
    (takes_known sent received c.args.self.now audits (message_of c.args.message))
