-- The rows of the harts so far are written.
use Rattle.std.proofs.Common.{drop}
use Rattle.output.proofs.FieldParts.{HasWritten}
use Rattle.path_commands.specs.MatchedRows.{unmatched_rows}
use Rattle.path_commands.specs.UnnumberedText.{texts_from}
use Rattle.path_commands.proofs.matched_report.write_unmatched.Given as goal

abbrev pub invariant-loop-hart : goal.invariant-loop-hart
invariant-loop-hart g l =
    HasWritten (texts_from (unmatched_rows l.format) 0 l.all) (texts_from (unmatched_rows l.format) l.hart
    (drop l.hart l.all))
    (g.O.Write.contents l.fn.out) (g.O.Write.contents l.out)
