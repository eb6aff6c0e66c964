-- The law is a lemma on the texts.
use Rattle.salvage_reports.proofs.TakenMessages.{taken_have_their_effect}
use Rattle.salvage_reports.proofs.laws.taken_messages_have_their_effect.Goals as goal

pub returns : goal.returns
returns c = taken_have_their_effect
