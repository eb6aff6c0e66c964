-- The lines of the first messages are made.
use Rattle.std.proofs.Common.{◌≡◌, ◌++◌, drop}
use Rattle.auditing.proofs.ArrivalLemmas.{harts_of}
use Rattle.auditing.specs.Arrivals.{arrival_lines, lines_from}
use Rattle.auditing.proofs.arrivals.arrival_lines.Given as goal

abbrev pub invariant-loop-place : goal.invariant-loop-place
invariant-loop-place g l =
    arrival_lines l.all (harts_of l.messages)
    ≡ l.lines.items ++ lines_from l.cursors.items l.place (drop l.place (harts_of l.messages))
