-- The harts so far are counted.
use Rattle.std.proofs.Common.{◌≡◌, ◌<◌, ◌^◌, ◌+◌, drop}
use Rattle.std.specs.Prelude.{sum_by}
use Rattle.salvage_reports.specs.Totals.{capped, hart_count}
use Rattle.salvage_reports.proofs.totals.of_harts.Given as goal

abbrev pub invariant-loop-own : goal.invariant-loop-own
invariant-loop-own l = record {
  fits : l.sum < 2 ^ 64;
  so_far : capped (l.sum + sum_by (hart_count l.what) (drop l.own-index l.harts))
      ≡ capped (sum_by (hart_count l.what) l.harts);
}
