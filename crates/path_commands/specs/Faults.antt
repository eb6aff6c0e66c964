-- The fault of `audit` for each fault of what it calls, and how it ends at that.
use Rattle.std.specs.Prelude.{Result}
use Rattle.auditing.specs.declared.fault.SentFault.{SentFault}
use Rattle.auditing.specs.declared.fault.SentFault.TheVariants as sent
use Rattle.message.specs.declared.range.HartRange.{HartRange}
use Rattle.command_inputs.specs.Faults as inputs
use Rattle.command_inputs.specs.Faults.{Path}
use Rattle.command_inputs.specs.Finding as finding
use Rattle.command_inputs.specs.Meaning as meaning
use Rattle.command_inputs.specs.Printed as printed
use Rattle.command_inputs.specs.declared.fault.Fault.{Fault as AnyFault}
use Rattle.command_inputs.specs.declared.fault.Fault.TheVariants as fault
use Rattle.command_inputs.specs.declared.status.Status.{Status}
use Rattle.command_inputs.specs.declared.status.Status.TheVariants.{NotWhole, Refused}
use Rattle.path_commands.specs.declared.reason.PathReason.{PathReason}
use Rattle.path_commands.specs.declared.reason.PathReason.TheVariants.{Damaged, LiveTable, LiveUnnumbered, NoHart, Sent, WindowAlone}

-- A fault of `audit`.
abbrev pub Fault : Type 0
Fault = AnyFault PathReason

-- What `audit` prints, and how it ends.
abbrev pub Printed : Type 0
Printed = printed.Printed PathReason

-- What `audit` means.
abbrev pub Meaning : Type 1
Meaning = meaning.Meaning PathReason

-- A value is found by `audit`, and this holds of it.
abbrev pub Once : {A : Type 0} → (Result A Fault → Type 0) → (A → Type 0) → Type 0
Once Finds Holds = finding.Once Finds Holds

-- The status at a reason of `audit`'s own. SENT is refused, also where it has none of the harts that are asked for;
-- where RECEIVED's header is not valid, that capture is not good.
abbrev pub path_reason_status : PathReason → Status
path_reason_status (Sent path why) = Refused
path_reason_status (NoHart path harts) = Refused
path_reason_status LiveUnnumbered = Refused
path_reason_status LiveTable = Refused
path_reason_status WindowAlone = Refused
path_reason_status (Damaged path) = NotWhole

-- The status at a fault.
abbrev pub status_of : Fault → Status
status_of why = inputs.status_of path_reason_status why

-- The status that `audit` ended with: the one that it returned, or the one of its fault.
abbrev pub final_status : Result Status Fault → Status
final_status ended = inputs.final_status path_reason_status ended

-- The fault of a capture that does not hold, whole and in order, what was sent.
abbrev pub sent_fault : Path → SentFault → Fault
sent_fault path sent.Memory = fault.Memory
sent_fault path why = fault.Own (Sent path why)

-- The fault of SENT where it has none of these harts.
abbrev pub no_hart_fault : Path → HartRange → Fault
no_hart_fault path harts = fault.Own (NoHart path harts)

-- The fault of RECEIVED where its header is cut or not valid.
abbrev pub damaged_fault : Path → Fault
damaged_fault path = fault.Own (Damaged path)
