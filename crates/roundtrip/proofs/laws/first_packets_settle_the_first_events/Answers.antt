-- The law is a recursion over the events of the log, which no search makes.
use Rattle.roundtrip.proofs.FirstPackets.{packets_describe, first_packets_describe}
use Rattle.roundtrip.proofs.laws.first_packets_settle_the_first_events.Goals as goal

pub returns-clause-first : goal.returns-clause-first
returns-clause-first c =
    λ words period count mode log program legal. first_packets_describe words program period mode log legal count

pub returns-clause-whole : goal.returns-clause-whole
returns-clause-whole c = λ words period mode log program legal. packets_describe words program period mode log legal
