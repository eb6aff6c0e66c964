-- The law is a recursion over each hart's messages, which no search makes.
use Rattle.salvaging.proofs.CollectedToo.{all_collected}
use Rattle.salvaging.proofs.laws.what_is_collected_is_salvaged.Goals as goal

pub returns : goal.returns
returns g c = λ words mode harts messages pieces salvaged program accepted described is.
    all_collected words program mode harts messages pieces salvaged accepted described is
