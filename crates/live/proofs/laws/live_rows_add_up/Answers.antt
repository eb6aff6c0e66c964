-- The counts add up line by line, which no search makes.
use Rattle.std.proofs.Common.{arith}
use Rattle.live.proofs.AddingUp.{rows_add}
use Rattle.live.proofs.laws.live_rows_add_up.Goals as goal

pub returns-clause-sum : goal.returns-clause-sum
returns-clause-sum c = λ lines hart less. rows_add lines hart less

pub returns-clause-balance : goal.returns-clause-balance
returns-clause-balance c = λ lines hart less. let sum = rows_add lines hart less in omega (arith, sum)
