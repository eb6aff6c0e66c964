-- The law is an induction over the packets, which no search makes.
use Rattle.decoder.proofs.UniqueLemmas.{one_log}
use Rattle.decoder.proofs.laws.one_log_is_described.Goals as goal

pub returns : goal.returns
returns c = λ words packets log other program one two. one_log words program packets log other one two
