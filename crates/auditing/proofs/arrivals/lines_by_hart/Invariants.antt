-- The lines of the first messages are made.
use Rattle.std.proofs.Common.{◌≡◌, ◌++◌, drop}
use Rattle.auditing.specs.Arrivals.{arrival_lines, lines_from}
use Rattle.auditing.proofs.arrivals.lines_by_hart.Given as goal

abbrev pub invariant-loop-place : goal.invariant-loop-place
invariant-loop-place g l =
    arrival_lines l.all l.harts ≡ l.lines.items ++ lines_from l.states.items l.place (drop l.place l.harts)
