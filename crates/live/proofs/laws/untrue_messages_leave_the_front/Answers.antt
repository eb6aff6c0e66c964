-- The laws are by cases of where a message is, which no search makes.
use Rattle.live.proofs.Fronts.{untrue_both, untrue_strange, untrue_taken, untrue_waits}
use Rattle.live.proofs.laws.untrue_messages_leave_the_front.Goals as goal

pub returns-clause-undecided : goal.returns-clause-undecided
returns-clause-undecided c = λ window sent state one is. untrue_waits window sent state one is

pub returns-clause-decided : goal.returns-clause-decided
returns-clause-decided c = λ window sent state one is. untrue_strange window sent state one is

pub returns-clause-taken : goal.returns-clause-taken
returns-clause-taken c = λ window sent state one none is. untrue_taken window sent state one none is

pub returns-clause-both : goal.returns-clause-both
returns-clause-both c = λ window sent state one first at none before is.
    untrue_both window sent state one first at none before is
