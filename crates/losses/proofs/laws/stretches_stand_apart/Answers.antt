-- The law is a recursion over the blocks of the numbers, which no search makes.
use Rattle.losses.proofs.StretchesApart.{parts_stand_apart}
use Rattle.losses.proofs.laws.stretches_stand_apart.Goals as goal

pub returns : goal.returns
returns c = λ words period mode log numbers program legal rising.
    parts_stand_apart words program period mode log legal numbers rising
