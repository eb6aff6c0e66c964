-- The law is a recursion over the entries of the messages, which no search makes.
use Rattle.salvaging.proofs.SalvagedOnce.{salvaged_once}
use Rattle.salvaging.proofs.laws.harts_are_salvaged_in_one_way.Goals as goal

pub returns : goal.returns
returns g c = λ words mode messages one other program salvaged too.
    salvaged_once words program mode messages one other salvaged too
