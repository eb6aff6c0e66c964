-- Mixing keeps each hart's messages: by a lemma on it.
use Rattle.log_commands.proofs.MixedLogs.{mixed_same}
use Rattle.log_commands.proofs.laws.mixed_messages_are_the_same.Goals as goal

pub returns : goal.returns
returns c = mixed_same
