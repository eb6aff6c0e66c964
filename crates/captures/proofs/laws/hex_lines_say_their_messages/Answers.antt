-- The lines are read back: by a lemma on them.
use Rattle.captures.proofs.HexTextRead.{say_their_messages}
use Rattle.captures.proofs.laws.hex_lines_say_their_messages.Goals as goal

pub returns : goal.returns
returns c = say_their_messages
