-- The law is a recursion over the messages, which no search makes.
use Rattle.path_commands.proofs.GeneratedCaptures.{mixed_decodes}
use Rattle.path_commands.proofs.laws.generated_captures_decode.Goals as goal

pub returns : goal.returns
returns c = λ program asked bytes start made. mixed_decodes program asked start bytes made
