-- The parts so far are counted.
use Rattle.std.proofs.Common.{◌≡◌, ◌<◌, ◌^◌, ◌+◌, drop}
use Rattle.std.specs.Prelude.{sum_by}
use Rattle.salvaging.specs.PartsIn.{parts_in}
use Rattle.salvage_reports.specs.Totals.{capped, part_count}
use Rattle.salvage_reports.proofs.totals.with_parts.Given as goal

abbrev pub invariant-loop-part : goal.invariant-loop-part
invariant-loop-part l = record {
  fits : l.all < 2 ^ 64;
  so_far : capped (l.all + sum_by (part_count l.what) (parts_in (drop l.part-index l.parts)))
      ≡ capped (l.sum + sum_by (part_count l.what) (parts_in l.parts));
}
