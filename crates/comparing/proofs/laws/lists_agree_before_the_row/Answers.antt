-- By a lemma on lists.
use Rattle.comparing.proofs.AgreeingRows.{agree}
use Rattle.comparing.proofs.laws.lists_agree_before_the_row.Goals as goal

pub returns : goal.returns
returns c = agree
