-- Each clause is an induction over the turns, which no tactic finds.
use Rattle.funnel.specs.Machine.{after_turns, opening}
use Rattle.funnel.proofs.EveryState.{every-keeps}
use Rattle.funnel.proofs.Kept.{keeps-first, keeps-lawful}
use Rattle.funnel.proofs.laws.every_state_is_lawful.Goals as goal

pub returns-clause-lawful : goal.returns-clause-lawful
returns-clause-lawful c = λ capacity payloads turns last.
    keeps-lawful capacity payloads (after_turns capacity payloads turns (opening payloads))
    (every-keeps capacity payloads turns) last

pub returns-clause-carried : goal.returns-clause-carried
returns-clause-carried c = λ capacity payloads turns hart.
    keeps-first capacity payloads (after_turns capacity payloads turns (opening payloads))
    (every-keeps capacity payloads turns) hart

pub returns-clause-bounded : goal.returns-clause-bounded
returns-clause-bounded c = λ capacity payloads turns. (every-keeps capacity payloads turns).room
