-- The law is an induction over the walk, which no search makes.
use Rattle.decoder.proofs.WalkBound.{walk_bound}
use Rattle.decoder.proofs.laws.walks_are_short.Goals as goal

pub returns : goal.returns
returns c = λ words spot half before taken end walk program lies few walks follows. walk_bound words spot half program
    lies before taken end walk few walks follows
