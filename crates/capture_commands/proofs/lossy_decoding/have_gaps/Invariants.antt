-- No messages of the harts so far are missing.
use Rattle.std.proofs.Common.{◌≡◌, drop}
use Rattle.capture_commands.specs.Pieces.{have_gaps, parts_of}
use Rattle.capture_commands.proofs.lossy_decoding.have_gaps.Given as goal

abbrev pub invariant-loop-pieces : goal.invariant-loop-pieces
invariant-loop-pieces l = have_gaps (parts_of l.harts) ≡ have_gaps (parts_of (drop l.pieces-index l.harts))
