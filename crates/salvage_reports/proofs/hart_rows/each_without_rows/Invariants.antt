-- The messages so far, without rows, and room for the rest.
use Rattle.std.proofs.Common.{◌≡◌, ◌≤◌, length, map, take}
use Rattle.std.specs.List.{zip}
use Rattle.std.specs.Vec.{vec_capacity}
use Rattle.salvage_reports.specs.HartRows.{without_rows}
use Rattle.salvage_reports.proofs.hart_rows.each_without_rows.Given as goal

abbrev pub invariant-loop-at : goal.invariant-loop-at
invariant-loop-at g l = record {
  items : l.all.items ≡ map without_rows (take l.at (zip l.messages l.treated));
  long : length l.all.items ≡ l.at;
  room : l.count ≤ vec_capacity l.all;
}
