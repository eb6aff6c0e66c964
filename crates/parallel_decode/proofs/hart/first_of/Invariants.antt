-- What is left of the sections.
use Rattle.std.proofs.Common.{◌≤◌, length}
use Rattle.parallel_decode.proofs.hart.first_of.Given as goal

abbrev pub invariant-loop : goal.invariant-loop
invariant-loop l = (l.low ≤ l.high) × (l.high ≤ length l.sections)
