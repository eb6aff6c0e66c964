-- The spans so far are counted.
use Rattle.std.proofs.Common.{◌≡◌, ◌<◌, ◌^◌, ◌+◌}
use Rattle.std.specs.Prelude.{sum_by}
use Rattle.salvage_reports.specs.Totals.{capped, loose_bytes}
use Rattle.salvage_reports.proofs.totals.loose_bytes.Given as goal

abbrev pub invariant-loop-span : goal.invariant-loop-span
invariant-loop-span l = record {
  fits : l.sum < 2 ^ 64;
  so_far : capped (l.sum + sum_by loose_bytes l.span-iterator)
      ≡ capped (sum_by loose_bytes l.fn.spans);
}
