-- Of what was read the lines are passed but for what is held.
use Rattle.std.proofs.Common.{ℕ, List, [], Option}
use Rattle.log_streams.specs.Known.{Content}
use Rattle.path_commands.specs.steps.Streaming.{HasTaken, IsReadTo}
use Rattle.path_commands.proofs.streaming.copy_lines.Given as goal

abbrev pub invariant-loop : goal.invariant-loop
invariant-loop g l =
    (content : Content) (old : Option (List ℕ)) → IsReadTo (content l.asked.lines.now) [] (g.R.FileReader.left l.fn.reader)
    → HasTaken l.asked l.settings [] l.fn.taken old (g.O.Write.contents l.fn.out)
    → (given : List ℕ) × IsReadTo (content l.asked.lines.now) given (g.R.FileReader.left l.reader)
    × HasTaken l.asked l.settings given l.taken old (g.O.Write.contents l.out)
