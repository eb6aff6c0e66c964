-- The clause is a law, which takes an induction over the log.
use Rattle.encoder.proofs.ProfileLemmas.{packets_in_profile}
use Rattle.encoder.proofs.laws.packets_are_in_profile.Goals as goal

pub returns : goal.returns
returns c = λ words period mode log program wide legal.
    packets_in_profile words program.even period mode log wide legal
