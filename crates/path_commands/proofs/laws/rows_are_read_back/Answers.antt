-- A fact about definitions alone, which has a proof of its own.
use Rattle.path_commands.proofs.PlainRows.{are_read_back}
use Rattle.path_commands.proofs.laws.rows_are_read_back.Goals as goal

pub returns : goal.returns
returns c = are_read_back
