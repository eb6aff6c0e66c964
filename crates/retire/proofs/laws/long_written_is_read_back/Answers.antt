-- The law is a recursion, which no search makes.
use Rattle.retire.proofs.RoundTrip.{reads_back_up_to}
use Rattle.retire.proofs.laws.long_written_is_read_back.Goals as goal

pub returns : goal.returns
returns c = reads_back_up_to
