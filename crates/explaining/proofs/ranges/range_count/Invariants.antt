-- The ranges are those that were counted and those that are left. No piece makes two.
use Rattle.std.proofs.Common.{◌≡◌, ◌+◌, ◌≤◌, drop, length}
use Rattle.rvclass.specs.Memory.{in_order}
use Rattle.explaining.specs.Ranges.{ranges_of}
use Rattle.explaining.specs.steps.JoinedRanges.{lists_one, ranges_on}
use Rattle.explaining.proofs.ranges.range_count.Given as goal

abbrev pub invariant-loop-piece : goal.invariant-loop-piece
invariant-loop-piece l =
    (length (ranges_of (in_order l.program)) ≡ l.count
    + length (ranges_on l.range (drop l.piece (in_order l.program))))
    × (l.count + lists_one l.range ≤ l.piece)
