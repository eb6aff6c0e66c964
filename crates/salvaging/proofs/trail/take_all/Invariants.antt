-- The messages before these are taken.
use Rattle.std.proofs.Common.{◌≡◌, length}
use Rattle.rvclass.specs.Fetch.{words_of}
use Rattle.salvaging.proofs.TakenSoFar.{TakenSo}
use Rattle.salvaging.proofs.trail.take_all.Given as goal

abbrev pub invariant-loop-entry : goal.invariant-loop-entry
invariant-loop-entry g l =
    (l.lines.program ≡ l.initial.lines.program) × TakenSo g.M.Mark.kept (words_of l.program) l.mode l.came l.rest
    l.marks.items l.trail

abbrev pub decreases-loop-entry : goal.decreases-loop-entry
decreases-loop-entry g l = length l.rest
