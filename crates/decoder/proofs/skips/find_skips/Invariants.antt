-- As many skips as places were gone over, and room for the rest.
use Rattle.std.proofs.Common.{◌≡◌, ◌≤◌, length}
use Rattle.std.specs.Vec.{vec_capacity}
use Rattle.rvclass.specs.Fetch.{words_of}
use Rattle.decoder.specs.steps.StraightLines.{AreSkips}
use Rattle.decoder.proofs.skips.find_skips.Given as goal

abbrev pub invariant-loop-place : goal.invariant-loop-place
invariant-loop-place g l =
    (length l.skips.items ≡ l.place) × (l.places ≤ vec_capacity l.skips)
    × AreSkips (words_of l.program) l.segments l.skips.items
