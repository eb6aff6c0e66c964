-- The faults of all subcommands, and how the program ends at them.
use Rattle.std.specs.Prelude.{Result}
use Rattle.command_inputs.specs.Faults as inputs
use Rattle.command_inputs.specs.Meaning as meaning
use Rattle.command_inputs.specs.Printed as printed
use Rattle.command_inputs.specs.declared.fault.Fault.{Fault as AnyFault}
use Rattle.command_inputs.specs.declared.status.Status.{Status}
use Rattle.command_inputs.specs.declared.status.Status.TheVariants.{Refused}
use Rattle.log_commands.specs.Faults.{log_reason_status}
use Rattle.capture_commands.specs.Faults.{capture_reason_status}
use Rattle.path_commands.specs.Faults.{path_reason_status}
use Rattle.path_commands.specs.LineFaults.{line_reason_status}
use Rattle.commands.specs.declared.reason.CommandReason.{CommandReason}
use Rattle.commands.specs.declared.reason.CommandReason.TheVariants.{Capture, Line, Log, Path, Words}

-- A fault of the program.
abbrev pub Fault : Type 0
Fault = AnyFault CommandReason

-- What the program prints, and how it ends.
abbrev pub Printed : Type 0
Printed = printed.Printed CommandReason

-- What a subcommand means, whichever it is.
abbrev pub Meaning : Type 1
Meaning = meaning.Meaning CommandReason

-- The status at a reason. Arguments that are no text are refused.
abbrev pub command_reason_status : CommandReason → Status
command_reason_status Words = Refused
command_reason_status (Log why) = log_reason_status why
command_reason_status (Capture why) = capture_reason_status why
command_reason_status (Path why) = path_reason_status why
command_reason_status (Line why) = line_reason_status why

-- The status at a fault.
abbrev pub status_of : Fault → Status
status_of why = inputs.status_of command_reason_status why

-- The status that a run ended with: the one that it returned, or the one of its fault.
abbrev pub final_status : Result Status Fault → Status
final_status ended = inputs.final_status command_reason_status ended
