-- The rows of the runs so far and of the messages before them are written.
use Rattle.std.proofs.Common.{◌≤◌, drop, length}
use Rattle.output.proofs.FieldParts.{HasWritten}
use Rattle.path_commands.specs.MatchedRows.{arrival_rows}
use Rattle.path_commands.proofs.matched_report.write_arrivals.Given as goal

abbrev pub invariant-loop-run : goal.invariant-loop-run
invariant-loop-run g l =
    HasWritten (arrival_rows l.format l.runs l.lines) (arrival_rows l.format (drop l.run-index l.runs) l.left)
    (g.O.Write.contents l.fn.out) (g.O.Write.contents l.out)
    × (length l.left ≤ length l.lines)
