-- The messages before this place are read, which have the first number. The last of them is kept.
use Rattle.std.proofs.Common.{◌≡◌, drop}
use Rattle.salvaging.specs.Entries.{entry_number}
use Rattle.salvaging.specs.steps.Arrivals.{arrival_of, arrivals_in}
use Rattle.salvaging.specs.steps.Grouping.{entries_by, entries_on, entry_of}
use Rattle.salvaging.proofs.grouping.first_entry.Given as goal

abbrev pub invariant-loop-at : goal.invariant-loop-at
invariant-loop-at l = record {
  entries : entries_by (arrivals_in l.came)
      ≡ entries_on (entry_of l.entry) (arrival_of l.before) (arrivals_in (drop l.at l.came));
  number : entry_number (entry_of l.entry) ≡ l.first.message.now.number;
}
