-- The laws are by the payloads that are kept, which no search finds.
use Rattle.auditing.proofs.Recognised.{sight_of_kept}
use Rattle.auditing.proofs.Sights.{sight_kept}
use Rattle.auditing.proofs.laws.sights_are_of_sent.Goals as goal

pub returns-clause-numbered : goal.returns-clause-numbered
returns-clause-numbered c = λ sent received ledger message audits. sight_kept sent received ledger message audits

pub returns-clause-unnumbered : goal.returns-clause-unnumbered
returns-clause-unnumbered c = λ framed how sent own message keeps. sight_of_kept framed how sent own message keeps
