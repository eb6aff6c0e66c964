-- The range with the number is among those that are left.
use Rattle.std.proofs.Common.{◌≡◌, drop}
use Rattle.std.specs.List.{slice_get}
use Rattle.rvclass.specs.Memory.{in_order}
use Rattle.explaining.specs.Ranges.{ranges_of}
use Rattle.explaining.specs.steps.JoinedRanges.{ranges_on}
use Rattle.explaining.proofs.ranges.range_at.Given as goal

abbrev pub invariant-loop-piece : goal.invariant-loop-piece
invariant-loop-piece l =
    slice_get (ranges_of (in_order l.program)) l.fn.number
    ≡ slice_get (ranges_on l.range (drop l.piece (in_order l.program))) l.left
