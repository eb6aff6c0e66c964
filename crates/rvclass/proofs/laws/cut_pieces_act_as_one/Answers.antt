-- A piece that is cut in two has the bytes of both, by a lemma.
use Rattle.rvclass.proofs.CutLemmas.{cut_acts}
use Rattle.rvclass.proofs.laws.cut_pieces_act_as_one.Goals as goal

pub returns : goal.returns
returns c = λ before after base left right addr. cut_acts base left right addr before after
