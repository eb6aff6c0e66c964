-- The exit status of each end of a run.
use Rattle.std.specs.Prelude.{ℕ}
use Rattle.command_inputs.specs.declared.status.Status.{Status}
use Rattle.command_inputs.specs.declared.status.Status.TheVariants.{Whole, NotWhole, Refused, Machine}

-- The exit status is 0 where all is done, 1 where a capture is not good or a log did not come back complete, 2 where the
-- input is refused, and 3 where the machine failed.
abbrev pub code_of : Status → ℕ
code_of Whole = 0
code_of NotWhole = 1
code_of Refused = 2
code_of Machine = 3
