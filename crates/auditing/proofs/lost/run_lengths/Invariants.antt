-- The runs so far are measured.
use Rattle.std.proofs.Common.{length}
use Rattle.auditing.proofs.MeasuredRuns.{HasMeasured}
use Rattle.auditing.specs.Losing.{runs_of}
use Rattle.auditing.specs.Unset.{lost_in}
use Rattle.auditing.proofs.lost.run_lengths.Given as goal

abbrev pub invariant-loop-run : goal.invariant-loop-run
invariant-loop-run l = HasMeasured (runs_of (lost_in 0 l.came)) l.left (length l.came) l.runs l.longest

abbrev pub decreases-loop-run : goal.decreases-loop-run
decreases-loop-run l = length l.left
