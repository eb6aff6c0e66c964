-- The law is an induction over the packets, which no search makes.
use Rattle.decoder.proofs.ExtendingLemmas.{front_describes}
use Rattle.decoder.proofs.laws.first_packets_describe_a_beginning.Goals as goal

pub returns : goal.returns
returns c = λ words packets more log all.
    let front = front_describes words packets more log all in (front.0, (front.1.rest, front.1.is))
