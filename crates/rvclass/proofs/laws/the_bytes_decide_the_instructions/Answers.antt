-- The word at an address is said of its bytes by a lemma.
use Rattle.rvclass.proofs.BytesLemmas.{same_words}
use Rattle.rvclass.proofs.laws.the_bytes_decide_the_instructions.Goals as goal

pub returns : goal.returns
returns c = same_words
