-- By a lemma on flags, which no tactic finds.
use Rattle.auditing.proofs.CountLaws.{whole_equal}
use Rattle.auditing.proofs.laws.whole_is_equal.Goals as goal

pub returns : goal.returns
returns c = λ by sent received hart flags is. whole_equal by sent received hart flags is
