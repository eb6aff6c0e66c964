-- By a lemma on lists.
use Rattle.comparing.proofs.EqualLogs.{whole_equal}
use Rattle.comparing.proofs.laws.whole_is_these_logs.Goals as goal

pub returns : goal.returns
returns c = whole_equal
