-- The runs so far are written.
use Rattle.std.specs.List.{flat_map}
use Rattle.output.proofs.FieldParts.{HasWritten}
use Rattle.salvage_reports.specs.Layouts.{run_text}
use Rattle.salvage_reports.proofs.found_writing.write_runs.Given as goal

abbrev pub invariant-loop-span : goal.invariant-loop-span
invariant-loop-span g l =
    HasWritten (flat_map (run_text l.layout) l.fn.spans) (flat_map (run_text l.layout) l.span-iterator)
    (g.O.Write.contents l.fn.out) (g.O.Write.contents l.out)
