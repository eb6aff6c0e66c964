-- What is looked for is between two segments.
use Rattle.std.proofs.Common.{◌≤◌}
use Rattle.decoder.proofs.segments.segment_by.Given as goal

abbrev pub invariant-loop : goal.invariant-loop
invariant-loop l = l.low ≤ l.high
