-- By a lemma on flags, which no tactic finds.
use Rattle.auditing.proofs.CountLaws.{adds_up}
use Rattle.auditing.proofs.laws.counts_add_up.Goals as goal

pub returns : goal.returns
returns c = λ by sent received hart flags is. adds_up by sent received hart flags is
