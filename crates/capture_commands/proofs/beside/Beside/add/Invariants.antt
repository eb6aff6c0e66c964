-- The events of the log so far are compared.
use Rattle.std.proofs.Common.{◌≤◌, ◌-◌, ◌++◌, List, length, take}
use Rattle.capture_commands.specs.steps.Beside.{IsBeside}
use Rattle.retire.specs.Log.{most_long_rows}
use Rattle.retire.specs.declared.event.Event.{Event}
use Rattle.capture_commands.proofs.beside.Beside.add.Given as goal

abbrev pub invariant-loop-done : goal.invariant-loop-done
invariant-loop-done l = record {
  within : l.done ≤ length l.events;
  beside : (decoded seen : List Event) → IsBeside decoded seen l.fn.self → length (seen ++ l.events) ≤ most_long_rows
      → IsBeside decoded (seen ++ take l.done l.events) l.self;
}

abbrev pub decreases-loop-done : goal.decreases-loop-done
decreases-loop-done l = length l.events - l.done
