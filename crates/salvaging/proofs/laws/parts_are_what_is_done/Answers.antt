-- The law is a recursion over the entries of a hart, which no search makes.
use Rattle.salvaging.proofs.PartsTreated.{parts_treated}
use Rattle.salvaging.proofs.laws.parts_are_what_is_done.Goals as goal

pub returns : goal.returns
returns g c = λ words mode messages hart program salvaged treats.
    parts_treated words mode messages hart program salvaged treats
