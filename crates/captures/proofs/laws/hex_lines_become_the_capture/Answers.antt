-- The lines are read back: by a lemma on them.
use Rattle.captures.proofs.HexTextRead.{become_the_capture}
use Rattle.captures.proofs.laws.hex_lines_become_the_capture.Goals as goal

pub returns : goal.returns
returns c = become_the_capture
