-- The law is a recursion over the messages, which no search makes.
use Rattle.auditing.proofs.AddingUp.{skips_add}
use Rattle.auditing.proofs.laws.skips_add_up.Goals as goal

pub returns : goal.returns
returns c = λ harts hart sent received turn. skips_add harts hart sent received turn
