-- The rows of the harts so far are written, and what their rows count is summed up.
use Rattle.std.proofs.Common.{◌<◌, ◌^◌, List, length, ◌-◌, None}
use Rattle.std.specs.List.{flat_map, range_with_len}
use Rattle.message.specs.declared.message.Message.{Message}
use Rattle.auditing.specs.Known.{known_all}
use Rattle.auditing.specs.Audits.{Audits}
use Rattle.auditing.specs.HartRows.{row_of}
use Rattle.output.proofs.FieldParts.{HasWritten}
use Rattle.path_commands.specs.OnlyHarts.{harts_among}
use Rattle.path_commands.proofs.Sums.{IsTotal}
use Rattle.path_commands.specs.Rows.{hart_row, hart_rows}
use Rattle.path_commands.proofs.comparing.write_rows.Given as goal

abbrev pub invariant-loop-hart : goal.invariant-loop-hart
invariant-loop-hart g l =
    (own came : List Message) → Audits own came l.path → length came < 2 ^ 64
    → HasWritten (hart_rows l.fn.report.format (known_all l.path.by own) (known_all l.path.by came)
    (harts_among l.fn.report.harts
    (length l.path.harts)))
    (flat_map (λ hart. hart_row l.fn.report.format hart (row_of (known_all l.path.by own) (known_all l.path.by came)
    hart) None)
    (range_with_len l.hart (l.past - l.hart)))
    (g.O.Write.contents l.fn.out) (g.O.Write.contents l.out)
    × IsTotal (known_all l.path.by own) (known_all l.path.by came) l.total l.fn.report.harts.first l.hart l.past
