-- The law counts messages by the rows of their numbers, which no search does.
use Rattle.salvaging.proofs.CountedToo.{counted_too}
use Rattle.salvaging.proofs.laws.treatments_are_counted.Goals as goal

pub returns : goal.returns
returns g c = λ words mode harts messages treated salvaged program are is.
    counted_too words program mode harts messages treated are salvaged is
