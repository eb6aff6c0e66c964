-- Two pieces that do not overlap have their bytes in either order, by a lemma.
use Rattle.rvclass.proofs.AddedPieceLemmas.{added_either}
use Rattle.rvclass.proofs.laws.the_order_of_adding_is_free.Goals as goal

pub returns : goal.returns
returns c = λ m one both other two base second bytes more addr e1 e2 e3 e4.
    added_either m one both other two base second bytes more addr e1 e2 e3 e4
