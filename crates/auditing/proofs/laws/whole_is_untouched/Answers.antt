-- The laws are recursions over the messages, which no search makes.
use Rattle.auditing.proofs.AllWhole.{untouched_same, whole_untouched}
use Rattle.auditing.proofs.laws.whole_is_untouched.Goals as goal

pub returns-clause-untouched : goal.returns-clause-untouched
returns-clause-untouched c = λ harts hart sent received turn. whole_untouched harts hart sent received turn

pub returns-clause-same_list : goal.returns-clause-same_list
returns-clause-same_list c = λ harts hart sent received turn. untouched_same harts hart sent received turn
