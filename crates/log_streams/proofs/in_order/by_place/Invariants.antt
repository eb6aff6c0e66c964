use Rattle.std.proofs.Common.{◌≡◌, All, length}
use Rattle.log_streams.specs.steps.Places.{AreAllowedFrom}
use Rattle.log_streams.proofs.in_order.by_place.Given as goal

-- What is in the list is allowed at its place, and what is left too.
abbrev pub invariant-loop-entry : goal.invariant-loop-entry
invariant-loop-entry g l =
    (length l.all.items ≡ l.count) × AreAllowedFrom (g.W.Worker.Allows l._worker) 0 l.all.items
    × All (λ entry. g.W.Worker.Allows l._worker entry.place entry.made) l.entry-iterator.rest.items
