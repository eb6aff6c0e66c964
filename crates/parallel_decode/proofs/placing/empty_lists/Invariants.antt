-- As many empty lists as were counted, and room for the rest.
use Rattle.std.proofs.Common.{◌≡◌, ◌≤◌, All, [], length}
use Rattle.std.specs.Vec.{vec_capacity}
use Rattle.parallel_decode.proofs.placing.empty_lists.Given as goal

abbrev pub invariant-loop-own : goal.invariant-loop-own
invariant-loop-own g l =
    (length l.lists.items ≡ l.own-index) × (length l.owns ≤ vec_capacity l.lists)
    × All (λ list. list.items ≡ []) l.lists.items
