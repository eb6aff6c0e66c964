-- By a lemma on the packets of a hart's messages.
use Rattle.comparing.proofs.NoneEarly.{none_early}
use Rattle.comparing.proofs.laws.decoding_stops_where_it_is_said.Goals as goal

pub returns : goal.returns
returns c = none_early
