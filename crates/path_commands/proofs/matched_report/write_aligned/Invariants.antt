-- The rows of the harts so far are written.
use Rattle.std.proofs.Common.{drop}
use Rattle.output.proofs.FieldParts.{HasWritten}
use Rattle.path_commands.specs.MatchedRows.{own_row}
use Rattle.path_commands.specs.UnnumberedText.{of_selected, texts_from}
use Rattle.path_commands.proofs.matched_report.write_aligned.Given as goal

abbrev pub invariant-loop-hart : goal.invariant-loop-hart
invariant-loop-hart g l =
    HasWritten (texts_from (of_selected l.report.harts (own_row l.report.format)) 0 l.all) (texts_from
    (of_selected l.report.harts (own_row l.report.format)) l.hart (drop l.hart l.all))
    (g.O.Write.contents l.fn.out) (g.O.Write.contents l.out)
