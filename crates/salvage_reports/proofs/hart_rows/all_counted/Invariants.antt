-- The messages so far, by their keys.
use Rattle.std.proofs.Common.{◌≡◌, map, take}
use Rattle.std.specs.Prelude.{All}
use Rattle.std.specs.List.{zip}
use Rattle.salvage_reports.specs.steps.Counted.{HasNumber, counted_of}
use Rattle.salvage_reports.proofs.hart_rows.all_counted.Given as goal

abbrev pub invariant-loop-at : goal.invariant-loop-at
invariant-loop-at g l = record {
  value : l.all.items ≡ map counted_of (take l.at (zip l.messages l.treated));
  ranges : All HasNumber (take l.at (zip l.messages l.treated));
}
