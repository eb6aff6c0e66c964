-- By the lengths of parts of a list.
use Rattle.live.proofs.Views.{view_bounded}
use Rattle.live.proofs.laws.views_are_bounded.Goals as goal

pub returns : goal.returns
returns c = λ window sent front. view_bounded window sent front
