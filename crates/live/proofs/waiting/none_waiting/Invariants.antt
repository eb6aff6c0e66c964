-- So many places are empty, and there is room for the others.
use Rattle.std.proofs.Common.{◌≡◌, ◌≤◌, None, length, replicate}
use Rattle.std.specs.Vec.{vec_capacity}
use Rattle.live.proofs.waiting.none_waiting.Given as goal

abbrev pub invariant-loop : goal.invariant-loop
invariant-loop g l =
    (l.waiting.items ≡ replicate l.counter None) × (length l.waiting.items ≡ l.counter)
    × (l.harts ≤ vec_capacity l.waiting)
