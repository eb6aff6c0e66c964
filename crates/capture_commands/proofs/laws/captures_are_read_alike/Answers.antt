-- The law is a recursion over the messages of a capture, which no search makes.
use Rattle.capture_commands.proofs.KeptToo.{read_alike}
use Rattle.capture_commands.proofs.laws.captures_are_read_alike.Goals as goal

pub returns : goal.returns
returns c = λ bytes header messages is. read_alike bytes header messages is
