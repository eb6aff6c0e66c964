-- The law is a recursion, which no search makes.
use Rattle.retire.proofs.RangeLemmas.{log-in_range}
use Rattle.retire.proofs.laws.long_read_is_in_range.Goals as goal

pub returns : goal.returns
returns c = log-in_range
