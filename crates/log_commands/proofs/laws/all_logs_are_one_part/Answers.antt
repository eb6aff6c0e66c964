-- There is one part: by a lemma on it.
use Rattle.log_commands.proofs.JoinedParts.{one_part}
use Rattle.log_commands.proofs.laws.all_logs_are_one_part.Goals as goal

pub returns : goal.returns
returns c = one_part
