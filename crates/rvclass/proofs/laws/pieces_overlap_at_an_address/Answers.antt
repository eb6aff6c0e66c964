-- Both ways are lemmas about pieces.
use Rattle.rvclass.proofs.OverlapLemmas.{overlap_both, overlap_somewhere}
use Rattle.rvclass.proofs.laws.pieces_overlap_at_an_address.Goals as goal

pub returns : goal.returns
returns c = λ p q. (overlap_somewhere p q, overlap_both p q)
