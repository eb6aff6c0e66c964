-- The segments are numbered, and there is room for those of the other pieces.
use Rattle.std.proofs.Common.{◌≡◌, ◌≤◌, length}
use Rattle.std.specs.Vec.{vec_capacity}
use Rattle.decoder.specs.steps.Segments.{AreSegments, next_place}
use Rattle.decoder.proofs.segments.find_segments.Given as goal

abbrev pub invariant-loop-done : goal.invariant-loop-done
invariant-loop-done g l =
    (length l.segments.items ≤ l.done) × (l.count ≤ vec_capacity l.segments) × AreSegments 0 l.segments.items
    × (l.first ≡ next_place 0 l.segments.items)
