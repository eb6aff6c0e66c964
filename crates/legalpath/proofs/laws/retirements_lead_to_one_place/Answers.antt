-- The laws are proved by cases of the class of the word.
use Rattle.legalpath.proofs.EventLemmas.{leads_to_one, stand_together, stand_above, keep_privilege}
use Rattle.legalpath.proofs.laws.retirements_lead_to_one_place.Goals as goal

pub returns-clause-leads : goal.returns-clause-leads
returns-clause-leads c = leads_to_one

pub returns-clause-together : goal.returns-clause-together
returns-clause-together c = stand_together

pub returns-clause-above : goal.returns-clause-above
returns-clause-above c = stand_above

pub returns-clause-keeps : goal.returns-clause-keeps
returns-clause-keeps c = keep_privilege
