-- How many bytes a piece has from an address on is counted by a lemma.
use Rattle.rvclass.proofs.OneLemmas.{has_of_one}
use Rattle.rvclass.proofs.laws.one_piece_is_an_image.Goals as goal

pub returns-clause-has : goal.returns-clause-has
returns-clause-has c = has_of_one
