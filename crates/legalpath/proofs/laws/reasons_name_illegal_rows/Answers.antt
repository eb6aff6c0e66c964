-- The laws are proved by cases of the event and by recursion over the log.
use Rattle.legalpath.proofs.FaultLemmas.{names_one_fault}
use Rattle.legalpath.proofs.ReasonLemmas.{none_applies, none_applies-right}
use Rattle.legalpath.proofs.laws.reasons_name_illegal_rows.Goals as goal

pub returns-clause-refuses : goal.returns-clause-refuses
returns-clause-refuses c = λ words before event.
    (none_applies-right words before event, λ right why. none_applies words before event why right.0 right.1)

pub returns-clause-one : goal.returns-clause-one
returns-clause-one c = names_one_fault
