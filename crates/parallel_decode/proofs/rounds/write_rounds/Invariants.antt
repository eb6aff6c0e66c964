-- The text is written up to the place.
use Rattle.std.proofs.Common.{Ok}
use Rattle.parallel_decode.specs.steps.Putting.{PutsOn}
use Rattle.parallel_decode.proofs.rounds.write_rounds.Given as goal

abbrev pub invariant-loop : goal.invariant-loop
invariant-loop g l = PutsOn l.plan 0 (Ok l.at) (g.O.Write.contents l.fn.out) (g.O.Write.contents l.out)
