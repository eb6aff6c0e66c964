-- So much of what is decoded is counted.
use Rattle.std.proofs.Common.{◌≤◌, List, length}
use Rattle.retire.specs.Log.{most_long_rows}
use Rattle.capture_commands.specs.steps.Beside.{IsBeside, IsDecodedTo}
use Rattle.retire.specs.declared.event.Event.{Event}
use Rattle.capture_commands.proofs.beside.Beside.finish.Given as goal

abbrev pub invariant-loop : goal.invariant-loop
invariant-loop l =
    (decoded seen : List Event) → IsBeside decoded seen l.fn.self → length seen ≤ most_long_rows
    → IsDecodedTo decoded seen l.self
