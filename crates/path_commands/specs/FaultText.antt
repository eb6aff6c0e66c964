-- The texts of the reasons that only `audit` has.
use Rattle.std.specs.Prelude.{ℕ, ◌++◌, List, codes}
use Rattle.auditing.specs.FateText.{sent_fault_text}
use Rattle.message.specs.Text.{range_text}
use Rattle.message.specs.FaultText.{message_fault_text}
use Rattle.message.specs.declared.fault.MessageFault.TheVariants.{BadHeader}
use Rattle.command_inputs.specs.FaultText.{at_path}
use Rattle.path_commands.specs.declared.reason.PathReason.{PathReason}
use Rattle.path_commands.specs.declared.reason.PathReason.TheVariants.{Damaged, LiveTable, LiveUnnumbered, NoHart, Sent, WindowAlone}

-- A reason that only `audit` has, as a line of text.
abbrev pub path_reason_text : PathReason → List ℕ
path_reason_text (Damaged path) = at_path path (message_fault_text BadHeader)
path_reason_text (Sent path why) = at_path path (sent_fault_text why)
path_reason_text (NoHart path harts) = at_path path (codes "no hart of " ++ range_text harts)
path_reason_text LiveUnnumbered = codes "--unnumbered does not go with --live"
path_reason_text LiveTable = codes "--format csv does not go with --live"
path_reason_text WindowAlone = codes "--window needs --live"
