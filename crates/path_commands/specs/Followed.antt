-- What `audit` prints while messages come.
use Rattle.std.specs.Prelude.{◌≡◌, ◌^◌, ◌-◌, ℕ, Bool, List, Option, Some, None, Result, Ok, Err, min, unwrap_or, if◌then◌else◌}
use Rattle.log_streams.specs.Known.{Absent, Content, Known, Present}
use Rattle.command_inputs.specs.declared.words.Audit.{Audit}
use Rattle.command_inputs.specs.declared.words.Format.{Format}
use Rattle.command_inputs.specs.declared.words.Format.TheVariants.{Csv}
use Rattle.command_inputs.specs.Printed.{silent}
use Rattle.command_inputs.specs.declared.fault.Fault.TheVariants as fault
use Rattle.path_commands.specs.Faults.{Fault, Printed}
use Rattle.path_commands.specs.declared.reason.PathReason.TheVariants.{LiveTable, LiveUnnumbered, WindowAlone}

-- A window goes with an audit while messages come.
abbrev pub window_at : Option ℕ → Result (Unit {0}) Fault
window_at None = Ok tt
window_at (Some window) = Err (fault.Own WindowAlone)

-- A table does not go with an audit while messages come.
abbrev pub table_at : Format → Result (Unit {0}) Fault
table_at Csv = Err (fault.Own LiveTable)
table_at format = Ok tt

-- Nor do numbers that are not to be looked at.
abbrev pub beside_at : Bool → Format → Result (Unit {0}) Fault
beside_at unnumbered format = if unnumbered then Err (fault.Own LiveUnnumbered) else table_at format

-- What is asked for goes together, or the fault where it does not: messages are to be compared while they come, and their
-- numbers are not to be looked at, or a table is wanted; or they are not, and a window is given.
abbrev pub live_at : Audit → Result (Unit {0}) Fault
live_at asked = if asked.live then beside_at asked.unnumbered asked.format else window_at asked.window

-- Whether what is asked for goes together is found.
abbrev pub IsLive : Audit → Result (Unit {0}) Fault → Type 0
IsLive asked found = found ≡ live_at asked

-- How many messages may be in view before the front, and after it: those that are asked for, or else 65536.
abbrev pub window_of : Option ℕ → ℕ
window_of window = min (unwrap_or window 65536) (2 ^ 32 - 1)

-- Both files are opened before one is read, SENT first. What is printed of files that are there is in no clause.
abbrev pub FollowsBoth : Audit → Known → Known → Printed → Type 0
FollowsBoth asked Absent received printed = printed ≡ silent (fault.Unreadable asked.sent)
FollowsBoth asked (Present bytes) Absent printed = printed ≡ silent (fault.Unreadable asked.received)
FollowsBoth asked sent received printed = Unit {0}

-- What is printed while messages come.
abbrev pub Follows : Content → Audit → Printed → Type 0
Follows content asked = FollowsBoth asked (content asked.sent.now) (content asked.received.now)
