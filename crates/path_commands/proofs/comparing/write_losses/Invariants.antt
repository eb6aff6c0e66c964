-- The rows of the harts so far are written.
use Rattle.std.proofs.Common.{List, length, ◌-◌}
use Rattle.std.specs.List.{flat_map, range_with_len}
use Rattle.message.specs.declared.message.Message.{Message}
use Rattle.auditing.specs.Known.{known_all}
use Rattle.auditing.specs.Audits.{Audits}
use Rattle.auditing.specs.Losing.{lost_runs}
use Rattle.output.proofs.FieldParts.{HasWritten}
use Rattle.path_commands.specs.Rows.{all_run_rows, run_rows}
use Rattle.path_commands.specs.OnlyHarts.{harts_among}
use Rattle.path_commands.proofs.comparing.write_losses.Given as goal

abbrev pub invariant-loop-hart : goal.invariant-loop-hart
invariant-loop-hart g l =
    (own came : List Message) → Audits own came l.path
    → HasWritten (all_run_rows l.fn.report.format (known_all l.path.by own) (known_all l.path.by came)
    (harts_among l.fn.report.harts
    (length l.path.harts)))
    (flat_map (λ hart. run_rows l.fn.report.format hart (lost_runs (known_all l.path.by own) (known_all l.path.by came)
    hart))
    (range_with_len l.hart (l.past - l.hart)))
    (g.O.Write.contents l.fn.out) (g.O.Write.contents l.out)
