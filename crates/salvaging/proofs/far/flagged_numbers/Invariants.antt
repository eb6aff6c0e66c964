-- The numbers so far, and those of the rest.
use Rattle.std.proofs.Common.{◌≤◌, length}
use Rattle.salvaging.specs.steps.Arrivals.{arrivals_in}
use Rattle.salvaging.specs.steps.Grouping.{entries_by}
use Rattle.salvaging.proofs.FlaggedNumbers.{FlaggedSo}
use Rattle.salvaging.proofs.far.flagged_numbers.Given as goal

abbrev pub invariant-loop-entry : goal.invariant-loop-entry
invariant-loop-entry g l = record {
  shorter : length l.rest ≤ length l.came;
  so : FlaggedSo (entries_by (arrivals_in l.came)) l.flags (entries_by (arrivals_in l.rest)) l.at l.numbers.items;
}

abbrev pub decreases-loop-entry : goal.decreases-loop-entry
decreases-loop-entry g l = length l.rest
