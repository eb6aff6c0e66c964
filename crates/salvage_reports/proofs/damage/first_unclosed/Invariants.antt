-- The harts so far are closed.
use Rattle.std.proofs.Common.{◌≡◌, ◌+◌, drop}
use Rattle.salvage_reports.specs.Damage.{closed_harts, first_unclosed}
use Rattle.salvage_reports.proofs.damage.first_unclosed.Given as goal

abbrev pub invariant-loop-place : goal.invariant-loop-place
invariant-loop-place l =
    first_unclosed l.first (closed_harts l.harts)
    ≡ first_unclosed (l.first + l.place) (closed_harts (drop l.place l.harts))
