-- The flags of the harts so far.
use Rattle.std.proofs.Common.{◌≡◌, take}
use Rattle.parallel_decode.specs.steps.Surveying.{closed_of}
use Rattle.parallel_decode.proofs.indexing.flags_of.Given as goal

abbrev pub invariant-loop-own : goal.invariant-loop-own
invariant-loop-own g l = l.closed.items ≡ closed_of (take l.own-index l.owns)
