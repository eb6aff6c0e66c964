-- The law is an induction over the packets, which no search makes.
use Rattle.decoder.proofs.ExtendingLemmas.{log_goes_on}
use Rattle.decoder.proofs.laws.more_packets_describe_a_longer_log.Goals as goal

pub returns : goal.returns
returns c = λ words packets more log other program few all.
    let front = log_goes_on words program packets more log other few all in (front.rest, front.is)
