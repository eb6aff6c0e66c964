-- The law is a lemma on messages one after the other, which no search finds.
use Rattle.auditing.proofs.Recognised.{framed-taken}
use Rattle.auditing.proofs.laws.framed_messages_are_taken.Goals as goal

pub returns : goal.returns
returns c = framed-taken
