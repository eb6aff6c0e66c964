-- The laws are recursions over the messages, which no search makes.
use Rattle.auditing.proofs.AddingUp.{balances, came_adds, sent_adds}
use Rattle.auditing.proofs.laws.rows_add_up.Goals as goal

pub returns-clause-sent : goal.returns-clause-sent
returns-clause-sent c = λ harts hart sent received turn. sent_adds harts hart sent received turn

pub returns-clause-came : goal.returns-clause-came
returns-clause-came c = λ hart sent received. came_adds hart sent received

pub returns-clause-balance : goal.returns-clause-balance
returns-clause-balance c = λ harts hart sent received turn. balances harts hart sent received turn
