-- The runs so far were added, and these are left.
use Rattle.std.proofs.Common.{◌≡◌, ◌++◌, length, map}
use Rattle.ffi.specs.AuditedAll.{lost_reported}
use Rattle.ffi.proofs.path_harts.add_lost.Given as goal

abbrev pub invariant-loop-run : goal.invariant-loop-run
invariant-loop-run l =
    l.lost.items ++ map (lost_reported l.hart) l.left ≡ l.fn.lost.items ++ map (lost_reported l.hart) l.fn.runs

abbrev pub decreases-loop-run : goal.decreases-loop-run
decreases-loop-run l = length l.left
