-- By a lemma on how many harts there are.
use Rattle.comparing.proofs.DecodedHarts.{whole_decoded}
use Rattle.comparing.proofs.laws.whole_is_decoded.Goals as goal

pub returns : goal.returns
returns c = whole_decoded
