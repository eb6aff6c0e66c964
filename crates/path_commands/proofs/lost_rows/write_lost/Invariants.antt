-- The rows of the runs so far are written.
use Rattle.std.proofs.Common.{length}
use Rattle.output.proofs.FieldParts.{HasWritten}
use Rattle.path_commands.specs.Rows.{run_rows}
use Rattle.path_commands.proofs.lost_rows.write_lost.Given as goal

abbrev pub invariant-loop-run : goal.invariant-loop-run
invariant-loop-run g l =
    HasWritten (run_rows l.format l.hart l.fn.runs) (run_rows l.format l.hart l.left)
    (g.O.Write.contents l.fn.out) (g.O.Write.contents l.out)

abbrev pub decreases-loop-run : goal.decreases-loop-run
decreases-loop-run g l = length l.left
