-- Numbers are recovered: by a lemma on them.
use Rattle.captures.proofs.Recovering.{low_numbers}
use Rattle.captures.proofs.laws.low_numbers_are_recovered.Goals as goal

pub returns : goal.returns
returns c = low_numbers
