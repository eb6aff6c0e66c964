-- The text is written up to the place.
use Rattle.std.proofs.Common.{Ok}
use Rattle.parallel_decode.specs.steps.Putting.{PutsOn}
use Rattle.parallel_decode.proofs.writing.write_stretches.Given as goal

abbrev pub invariant-loop-at : goal.invariant-loop-at
invariant-loop-at g l = PutsOn l.plan l.from (Ok l.at) (g.O.Write.contents l.fn.out) (g.O.Write.contents l.out)
