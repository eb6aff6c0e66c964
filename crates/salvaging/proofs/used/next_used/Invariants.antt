-- None of the numbers before these messages is used.
use Rattle.std.proofs.Common.{◌≡◌, ◌≤◌, length}
use Rattle.salvaging.specs.Entries.{next_used}
use Rattle.salvaging.specs.steps.Arrivals.{arrivals_in}
use Rattle.salvaging.specs.steps.Grouping.{entries_by}
use Rattle.salvaging.proofs.used.next_used.Given as goal

abbrev pub invariant-loop-entry : goal.invariant-loop-entry
invariant-loop-entry l = record {
  shorter : length l.rest ≤ length l.came;
  used : next_used (entries_by (arrivals_in l.came)) ≡ next_used (entries_by (arrivals_in l.rest));
}

abbrev pub decreases-loop-entry : goal.decreases-loop-entry
decreases-loop-entry l = length l.rest
