-- The fault of `capture` for each fault of what it calls, and how it ends at that.
use Rattle.std.specs.Prelude.{Result}
use Rattle.captures.specs.declared.line_fault.LinesFault.{LinesFault}
use Rattle.captures.specs.declared.line_fault.LinesFault.TheVariants as lines
use Rattle.command_inputs.specs.Faults as inputs
use Rattle.command_inputs.specs.Faults.{Path}
use Rattle.command_inputs.specs.Finding as finding
use Rattle.command_inputs.specs.Meaning as meaning
use Rattle.command_inputs.specs.Printed as printed
use Rattle.command_inputs.specs.declared.fault.Fault.{Fault as AnyFault}
use Rattle.command_inputs.specs.declared.fault.Fault.TheVariants as fault
use Rattle.command_inputs.specs.declared.status.Status.{Status}
use Rattle.command_inputs.specs.declared.status.Status.TheVariants.{NotWhole, Refused}
use Rattle.path_commands.specs.declared.line_reason.LineReason.{LineReason}
use Rattle.path_commands.specs.declared.line_reason.LineReason.TheVariants.{Line, Skipped}

-- A fault of `capture`.
abbrev pub Fault : Type 0
Fault = AnyFault LineReason

-- What `capture` prints, and how it ends.
abbrev pub Printed : Type 0
Printed = printed.Printed LineReason

-- What `capture` means.
abbrev pub Meaning : Type 1
Meaning = meaning.Meaning LineReason

-- A value is found by `capture`, and this holds of it.
abbrev pub Once : {A : Type 0} → (Result A Fault → Type 0) → (A → Type 0) → Type 0
Once Finds Holds = finding.Once Finds Holds

-- The status at a reason of `capture`'s own: what is asked for, or the lines, are refused. Where lines are skipped, the
-- capture is not that of all lines.
abbrev pub line_reason_status : LineReason → Status
line_reason_status (Skipped path count) = NotWhole
line_reason_status why = Refused

-- The status that `capture` ended with: the one that it returned, or the one of its fault.
abbrev pub final_status : Result Status Fault → Status
final_status ended = inputs.final_status line_reason_status ended

-- The fault of the lines at a path that are not written as a capture.
abbrev pub lines_fault : Path → LinesFault → Fault
lines_fault path (lines.Line line why) = fault.Own (Line path line why)
lines_fault path lines.Write = fault.Output
