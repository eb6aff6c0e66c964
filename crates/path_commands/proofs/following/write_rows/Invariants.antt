-- Some text was appended so far.
use Rattle.path_commands.specs.steps.Following.{AppendsSome}
use Rattle.path_commands.proofs.following.write_rows.Given as goal

abbrev pub invariant-loop-hart : goal.invariant-loop-hart
invariant-loop-hart g l = AppendsSome (g.O.Write.contents l.fn.out) (g.O.Write.contents l.out)
