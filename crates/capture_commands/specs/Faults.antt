-- The fault of a subcommand that reads a capture, for each fault of what it calls, and how the subcommand ends at it.
use Rattle.std.specs.Prelude.{ℕ, Result}
use Rattle.captures.specs.declared.capture_reading.ReadFault.{ReadFault}
use Rattle.captures.specs.declared.capture_reading.ReadFault.TheVariants as reading
use Rattle.captures.specs.declared.outcome.CaptureFault.{CaptureFault}
use Rattle.captures.specs.declared.outcome.CaptureFault.TheVariants as capture
use Rattle.decoder.specs.declared.fault.DecodeFault.TheVariants as decode
use Rattle.losses.specs.declared.fault.LossyFault.{LossyFault}
use Rattle.losses.specs.declared.fault.LossyFault.TheVariants as lossy
use Rattle.message.specs.declared.fault.MessageFault.TheVariants.{BadHeader}
use Rattle.command_inputs.specs.Faults as inputs
use Rattle.command_inputs.specs.Finding as finding
use Rattle.command_inputs.specs.Meaning as meaning
use Rattle.command_inputs.specs.Printed as printed
use Rattle.command_inputs.specs.declared.fault.Fault.{Fault as AnyFault}
use Rattle.command_inputs.specs.declared.fault.Fault.TheVariants as fault
use Rattle.command_inputs.specs.declared.status.Status.{Status}
use Rattle.command_inputs.specs.declared.status.Status.TheVariants.{NotWhole, Refused}
use Rattle.capture_commands.specs.declared.reason.CaptureReason.{CaptureReason}
use Rattle.capture_commands.specs.declared.reason.CaptureReason.TheVariants.{Header, Logs, Message}

-- A fault of a subcommand that reads a capture.
abbrev pub Fault : Type 0
Fault = AnyFault CaptureReason

-- What such a subcommand prints, and how it ends.
abbrev pub Printed : Type 0
Printed = printed.Printed CaptureReason

-- What such a subcommand means.
abbrev pub Meaning : Type 1
Meaning = meaning.Meaning CaptureReason

-- A value is found by such a subcommand, and this holds of it.
abbrev pub Once : {A : Type 0} → (Result A Fault → Type 0) → (A → Type 0) → Type 0
Once Finds Holds = finding.Once Finds Holds

-- The status at a reason of such a subcommand's own. At faults of a capture's header, of its messages, of a hart that
-- is not closed and of a capture that has no hart that is asked for, the capture is not good. Another count of logs than
-- of harts is refused.
abbrev pub capture_reason_status : CaptureReason → Status
capture_reason_status (Logs logs harts) = Refused
capture_reason_status _ = NotWhole

-- The status at a fault.
abbrev pub status_of : Fault → Status
status_of why = inputs.status_of capture_reason_status why

-- The status that such a subcommand ended with: the one that it returned, or the one of its fault.
abbrev pub final_status : Result Status Fault → Status
final_status ended = inputs.final_status capture_reason_status ended

-- The fault of a capture at the message with this number. That of a bad header names no message.
abbrev pub capture_fault : ℕ → CaptureFault → Fault
capture_fault number (capture.Message BadHeader) = fault.Own Header
capture_fault number (capture.Decode decode.Memory) = fault.Memory
capture_fault number why = fault.Own (Message number why)

-- The fault of a capture that is not read to its end.
abbrev pub reading_fault : ReadFault → Fault
reading_fault (reading.Message number why) = capture_fault number (capture.Message why)
reading_fault reading.Memory = fault.Memory

-- The fault of messages from which nothing is collected.
abbrev pub lossy_fault : LossyFault → Fault
lossy_fault (lossy.Demux place why) = fault.Own (Message place (capture.Demux why))
lossy_fault (lossy.Decode place why) = capture_fault place (capture.Decode why)
lossy_fault lossy.Memory = fault.Memory
