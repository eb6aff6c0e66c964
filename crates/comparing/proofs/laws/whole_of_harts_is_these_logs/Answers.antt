-- By a lemma on lists.
use Rattle.comparing.proofs.EqualHarts.{whole_of_harts}
use Rattle.comparing.proofs.laws.whole_of_harts_is_these_logs.Goals as goal

pub returns : goal.returns
returns c = whole_of_harts
