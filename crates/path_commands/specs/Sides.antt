-- SENT and RECEIVED, and how an audit of them ends.
use Rattle.std.specs.Prelude.{◌≡◌, ℕ, Bool, true, false, is_some, List, Option, Some, None, Result, Ok, Err}
use Rattle.payload.specs.declared.by.By.{By}
use Rattle.payload.specs.declared.by.By.TheVariants as by
use Rattle.message.specs.declared.fault.MessageFault.{MessageFault}
use Rattle.message.specs.declared.header.Header.{Header}
use Rattle.message.specs.declared.message.Message.{Message}
use Rattle.auditing.specs.Sent.{IsSent, IsSentFault}
use Rattle.auditing.specs.declared.fault.SentFault.{SentFault}
use Rattle.command_inputs.specs.Faults.{Path}
use Rattle.command_inputs.specs.declared.status.Status.{Status}
use Rattle.command_inputs.specs.declared.status.Status.TheVariants.{NotWhole, Whole}
use Rattle.path_commands.specs.AuditText.{headers_differ}
use Rattle.path_commands.specs.Faults.{Fault, damaged_fault, sent_fault}

-- SENT: its header, if it has one, and its messages.
pub record Sent : Type 0 where
  pub header : Option Header
  pub messages : List Message

-- SENT is found to be whole, or it is refused.
abbrev pub IsFoundSent : Path → List ℕ → Result Sent Fault → Type 0
IsFoundSent path bytes (Ok sent) = IsSent bytes sent.header sent.messages
IsFoundSent path bytes (Err why) = (fault : SentFault) × IsSentFault bytes fault × (why ≡ sent_fault path fault)

-- Headers differ: both captures have one, and these differ; or SENT has one, and that of RECEIVED is cut or not valid.
abbrev pub heads_differ : Option Header → Option Header → Option MessageFault → Bool
heads_differ sent header None = headers_differ sent header
heads_differ sent header (Some why) = is_some sent

-- A header of RECEIVED that is cut or not valid, if it is so; else the end by whether the result is whole.
abbrev pub end_of_audit : Path → Option MessageFault → Bool → Result Status Fault
end_of_audit received (Some why) whole = Err (damaged_fault received)
end_of_audit received None true = Ok Whole
end_of_audit received None false = Ok NotWhole

-- What payloads are compared by.
abbrev pub by_packets : Bool → By
by_packets true = by.Packets
by_packets false = by.Bytes
