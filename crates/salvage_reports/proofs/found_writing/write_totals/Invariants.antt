-- The counts so far are written.
use Rattle.std.proofs.Common.{drop}
use Rattle.std.specs.List.{flat_map}
use Rattle.output.proofs.FieldParts.{HasWritten}
use Rattle.salvage_reports.specs.steps.Harts.{own_total}
use Rattle.salvage_reports.proofs.found_writing.write_totals.Given as goal

abbrev pub invariant-loop-what : goal.invariant-loop-what
invariant-loop-what g l =
    HasWritten (flat_map (own_total l.layout l.found l.bytes) l.all)
    (flat_map (own_total l.layout l.found l.bytes) (drop l.what-index l.all))
    (g.O.Write.contents l.fn.out) (g.O.Write.contents l.out)
