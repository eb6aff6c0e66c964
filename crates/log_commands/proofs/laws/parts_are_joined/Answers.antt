-- The parts are joined: by a lemma on them.
use Rattle.log_commands.proofs.JoinedParts.{parts_joined}
use Rattle.log_commands.proofs.laws.parts_are_joined.Goals as goal

pub returns : goal.returns
returns c = parts_joined
