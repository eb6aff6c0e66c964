use Rattle.std.proofs.Common.{◌≡◌, ◌≤◌, [], length, replicate}
use Rattle.std.specs.Vec.{vec_capacity}
use Rattle.receiver.specs.Received.{events_in}
use Rattle.receiver.proofs.receiving.empty_lists.Given as goal

-- As many empty lists as were counted, and room for the rest.
abbrev pub invariant-loop : goal.invariant-loop
invariant-loop g l =
    (events_in l.lists.items ≡ replicate l.counter []) × (length l.lists.items ≡ l.counter)
    × (l.count ≤ vec_capacity l.lists)
