-- As many empty lists as were counted, and room for the rest.
use Rattle.std.proofs.Common.{◌≡◌, ◌≤◌, All, [], length}
use Rattle.std.specs.Vec.{vec_capacity}
use Rattle.salvage_reports.proofs.frame_reading.empty_lists.Given as goal

abbrev pub invariant-loop : goal.invariant-loop
invariant-loop l =
    (length l.lists.items ≡ l.counter) × (l.count ≤ vec_capacity l.lists) × All (λ list. list.items ≡ []) l.lists.items
