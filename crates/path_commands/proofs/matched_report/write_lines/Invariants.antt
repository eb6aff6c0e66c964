-- The rows of the messages so far are written.
use Rattle.std.proofs.Common.{drop}
use Rattle.std.specs.List.{flat_map}
use Rattle.output.proofs.FieldParts.{HasWritten}
use Rattle.path_commands.specs.MatchedRows.{arrival_row}
use Rattle.path_commands.proofs.matched_report.write_lines.Given as goal

abbrev pub invariant-loop-line : goal.invariant-loop-line
invariant-loop-line g l =
    HasWritten (flat_map (arrival_row l.format) l.lines) (flat_map (arrival_row l.format) (drop l.line-index l.lines))
    (g.O.Write.contents l.fn.out) (g.O.Write.contents l.out)
