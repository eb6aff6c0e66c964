use Rattle.std.proofs.Common.{◌≡◌, drop}
use Rattle.capture_commands.specs.Decoding.{end_of_harts_of}
use Rattle.capture_commands.proofs.ending.ended_of.Given as goal

-- Those of the harts so far that are in the range are closed.
abbrev pub invariant-loop-hart : goal.invariant-loop-hart
invariant-loop-hart l = end_of_harts_of l.range 0 l.harts ≡ end_of_harts_of l.range l.hart (drop l.hart l.harts)
