-- Some text was appended so far.
use Rattle.path_commands.specs.steps.Following.{AppendsSome}
use Rattle.path_commands.proofs.following.follow.Given as goal

abbrev pub invariant-loop : goal.invariant-loop
invariant-loop g l = AppendsSome (g.O.Write.contents l.fn.out) (g.O.Write.contents l.out)
