-- What is reported so far, and of the rest.
use Rattle.std.proofs.Common.{◌≤◌, length}
use Rattle.salvaging.specs.steps.Arrivals.{arrivals_in}
use Rattle.salvaging.specs.steps.Grouping.{AreSmall, entries_by}
use Rattle.salvaging.specs.steps.Marks.{far_verdict}
use Rattle.salvaging.proofs.GapSteps.{FarSo, GapsSo}
use Rattle.salvaging.proofs.gaps.report_of.Given as goal

abbrev pub invariant-loop-entry : goal.invariant-loop-entry
invariant-loop-entry g l = record {
  shorter : length l.rest ≤ length l.came;
  gaps : GapsSo (entries_by (arrivals_in l.came)) l.far (entries_by (arrivals_in l.rest)) l.at l.next
      l.report.gaps.items;
  far : FarSo far_verdict (entries_by (arrivals_in l.came)) l.verdicts l.far (entries_by (arrivals_in l.rest)) l.at
      l.report.far.items;
  small : AreSmall (entries_by (arrivals_in l.rest));
}

abbrev pub decreases-loop-entry : goal.decreases-loop-entry
decreases-loop-entry g l = length l.rest
