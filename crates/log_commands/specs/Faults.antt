-- The fault of a subcommand that reads logs, for each fault of what it calls, and how the subcommand ends at it.
use Rattle.std.specs.Prelude.{Result}
use Rattle.bench.specs.declared.setup.Setup.{Setup}
use Rattle.bench.specs.declared.setup.Setup.TheVariants as setup
use Rattle.funnel.specs.declared.schedule_fault.ScheduleFault.{ScheduleFault}
use Rattle.funnel.specs.declared.schedule_fault.ScheduleFault.TheVariants as schedule
use Rattle.command_inputs.specs.Faults as inputs
use Rattle.command_inputs.specs.Finding as finding
use Rattle.command_inputs.specs.Meaning as meaning
use Rattle.command_inputs.specs.Printed as printed
use Rattle.command_inputs.specs.declared.fault.Fault.{Fault as AnyFault}
use Rattle.command_inputs.specs.declared.fault.Fault.TheVariants as fault
use Rattle.command_inputs.specs.declared.status.Status.{Status}
use Rattle.command_inputs.specs.declared.status.Status.TheVariants.{Refused}
use Rattle.log_commands.specs.declared.reason.LogReason.{LogReason}
use Rattle.log_commands.specs.declared.reason.LogReason.TheVariants.{Schedule, Unsent}

-- A fault of a subcommand that reads logs.
abbrev pub Fault : Type 0
Fault = AnyFault LogReason

-- What such a subcommand prints, and how it ends.
abbrev pub Printed : Type 0
Printed = printed.Printed LogReason

-- What such a subcommand means.
abbrev pub Meaning : Type 1
Meaning = meaning.Meaning LogReason

-- A value is found by such a subcommand, and this holds of it.
abbrev pub Once : {A : Type 0} → (Result A Fault → Type 0) → (A → Type 0) → Type 0
Once Finds Holds = finding.Once Finds Holds

-- The status at a reason of such a subcommand's own: the input is refused.
abbrev pub log_reason_status : LogReason → Status
log_reason_status why = Refused

-- The status that such a subcommand ended with: the one that it returned, or the one of its fault.
abbrev pub final_status : Result Status Fault → Status
final_status ended = inputs.final_status log_reason_status ended

-- The fault of a text that is no schedule.
abbrev pub schedule_fault : ScheduleFault → Fault
schedule_fault schedule.Memory = fault.Memory
schedule_fault why = fault.Own (Schedule why)

-- The fault of logs that are not sent.
abbrev pub unsent_fault : Setup → Fault
unsent_fault setup.Memory = fault.Memory
unsent_fault why = fault.Own (Unsent why)
