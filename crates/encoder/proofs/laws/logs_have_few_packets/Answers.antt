-- The clause is a law, which takes an induction over the log.
use Rattle.encoder.proofs.CountLemmas.{few_packets}
use Rattle.encoder.proofs.laws.logs_have_few_packets.Goals as goal

pub returns : goal.returns
returns c = few_packets
