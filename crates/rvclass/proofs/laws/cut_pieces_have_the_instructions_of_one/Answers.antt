-- The word at an address is said of its bytes by a lemma.
use Rattle.rvclass.proofs.CutLemmas.{cut_acts}
use Rattle.rvclass.proofs.BytesLemmas.{same_words}
use Rattle.rvclass.proofs.laws.cut_pieces_have_the_instructions_of_one.Goals as goal

pub returns : goal.returns
returns c = λ before after base left right. same_words _ _ (λ addr. cut_acts base left right addr before after)
