-- The law is proved whole in its own file.
use Rattle.retire.proofs.PlainLogLemmas.{written_is_plain}
use Rattle.retire.proofs.laws.written_is_plain.Goals as goal

pub returns : goal.returns
returns c = written_is_plain
