-- The messages so far have their places.
use Rattle.std.proofs.Common.{◌≡◌, ◌≤◌, length, take}
use Rattle.std.specs.Vec.{vec_capacity}
use Rattle.salvaging.specs.steps.Arrivals.{arrivals_in, placed_from}
use Rattle.salvaging.proofs.far.with_places.Given as goal

abbrev pub invariant-loop-place : goal.invariant-loop-place
invariant-loop-place g l =
    (arrivals_in l.came.items ≡ placed_from 0 (take l.place l.messages)) × (length l.came.items ≡ l.place)
    × (length l.messages ≤ vec_capacity l.came)
