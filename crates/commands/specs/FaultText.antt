-- The texts of the faults of all subcommands.
use Rattle.std.specs.Prelude.{ℕ, List, codes}
use Rattle.command_inputs.specs.FaultText as inputs
use Rattle.log_commands.specs.FaultText.{log_reason_text}
use Rattle.capture_commands.specs.FaultText.{capture_reason_text}
use Rattle.path_commands.specs.FaultText.{path_reason_text}
use Rattle.path_commands.specs.LineFaultText.{line_reason_text}
use Rattle.commands.specs.Faults.{Fault}
use Rattle.commands.specs.declared.reason.CommandReason.{CommandReason}
use Rattle.commands.specs.declared.reason.CommandReason.TheVariants.{Capture, Line, Log, Path, Words}

-- A reason, as a line of text.
abbrev pub command_reason_text : CommandReason → List ℕ
command_reason_text Words = codes "words cannot be read"
command_reason_text (Log why) = log_reason_text why
command_reason_text (Capture why) = capture_reason_text why
command_reason_text (Path why) = path_reason_text why
command_reason_text (Line why) = line_reason_text why

-- The line that a fault has on standard error.
abbrev pub error_line : Fault → List ℕ
error_line why = inputs.error_line command_reason_text why
