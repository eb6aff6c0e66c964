-- The law is a recursion over the messages of a capture, which no search makes.
use Rattle.capture_commands.proofs.KeptToo.{kept_too}
use Rattle.capture_commands.proofs.laws.what_is_collected_of_a_capture_is_salvaged.Goals as goal

pub returns : goal.returns
returns c = λ harts asked program bytes header found messages why pieces salvaged whole numbers alike are is.
    kept_too harts asked program bytes header messages whole numbers alike pieces found why salvaged are is
