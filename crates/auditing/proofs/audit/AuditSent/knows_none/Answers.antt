-- No message is known by its payload alone: by a lemma, which no search finds.
use Rattle.auditing.proofs.Recognised.{numbers_know_none}
use Rattle.auditing.proofs.audit.AuditSent.knows_none.Goals as goal

pub returns : goal.returns
returns g c = λ is. numbers_know_none c.args.self.now
