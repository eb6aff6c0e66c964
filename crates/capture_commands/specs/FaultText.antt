-- The texts of the reasons that only subcommands that read a capture have.
use Rattle.std.specs.Prelude.{ℕ, ◌++◌, List, codes}
use Rattle.std.specs.Fmt.{decimal}
use Rattle.captures.specs.FaultText.{capture_fault_text}
use Rattle.message.specs.Text.{range_text}
use Rattle.message.specs.FaultText.{message_fault_text}
use Rattle.message.specs.declared.fault.MessageFault.TheVariants.{BadHeader}
use Rattle.capture_commands.specs.declared.reason.CaptureReason.{CaptureReason}
use Rattle.capture_commands.specs.declared.reason.CaptureReason.TheVariants.{Header, Logs, Message, NoHart, Unclosed}

-- A reason of a subcommand that reads a capture, as a line of text.
abbrev pub capture_reason_text : CaptureReason → List ℕ
capture_reason_text Header = message_fault_text BadHeader
capture_reason_text (Message number why) =
    codes "message " ++ (decimal number ++ (codes ": " ++ capture_fault_text why))
capture_reason_text (Unclosed hart) = codes "hart " ++ (decimal hart ++ codes ": no closing packet")
capture_reason_text (Logs logs harts) = decimal logs ++ (codes " logs for " ++ (decimal harts ++ codes " harts"))
capture_reason_text (NoHart harts) = codes "no hart of " ++ range_text harts
