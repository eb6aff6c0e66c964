-- None of the numbers behind these messages is used.
use Rattle.std.proofs.Common.{◌≡◌, length}
use Rattle.salvaging.specs.Entries.{is_closed}
use Rattle.salvaging.specs.steps.Arrivals.{arrivals_in}
use Rattle.salvaging.specs.steps.Grouping.{entries_by}
use Rattle.salvaging.proofs.used.is_closed.Given as goal

abbrev pub invariant-loop-entry : goal.invariant-loop-entry
invariant-loop-entry l = is_closed (entries_by (arrivals_in l.came)) ≡ is_closed (entries_by (arrivals_in l.rest))

abbrev pub decreases-loop-entry : goal.decreases-loop-entry
decreases-loop-entry l = length l.rest
