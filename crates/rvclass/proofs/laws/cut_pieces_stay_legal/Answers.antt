-- Each bound of a memory is kept, by lemmas.
use Rattle.rvclass.proofs.CutLegalLemmas.{cut_legal}
use Rattle.rvclass.proofs.laws.cut_pieces_stay_legal.Goals as goal

pub returns : goal.returns
returns c = λ before after base left right even memory few. cut_legal base left right even after before memory few
