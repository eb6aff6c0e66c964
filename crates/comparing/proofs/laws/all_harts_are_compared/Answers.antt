-- By a lemma on lists.
use Rattle.comparing.proofs.EqualHarts.{all_got}
use Rattle.comparing.proofs.laws.all_harts_are_compared.Goals as goal

pub returns : goal.returns
returns c = all_got
