-- The parts of a capture, each with the messages of some harts' logs.
use Rattle.std.specs.Prelude.{ℕ, ◌-◌, ◌==◌, nat_lt, if◌then◌else◌, Bool, List, [], ◌++◌, Option, Some, None, Result, Ok}
use Rattle.std.specs.Prelude.{Err, unwrap_or}
use Rattle.captures.specs.HexLines.{hex_text}
use Rattle.captures.specs.Messages.{messages_of_harts}
use Rattle.captures.specs.Versions.{start_bytes}
use Rattle.command_inputs.specs.Order.{logs_fault}
use Rattle.command_inputs.specs.declared.fault.Fault.TheVariants as fault
use Rattle.legalpath.specs.ProgramLog.{ProgramLog}
use Rattle.message.specs.Capture.{capture}
use Rattle.message.specs.Version.{most_harts}
use Rattle.message.specs.declared.header.Header.{Header}
use Rattle.message.specs.declared.header.Version.{Version}
use Rattle.message.specs.declared.message.Message.{Message}
use Rattle.payload.specs.declared.mode.Mode.{Mode}
use Rattle.log_commands.specs.Faults.{Fault}
use Rattle.log_commands.specs.declared.reason.LogReason.TheVariants.{FirstAlone, FirstHart, ManyHarts}

-- The hart of the first log of a part. Where none is given, it is hart 0.
abbrev pub first_hart : Option ℕ → ℕ
first_hart first = unwrap_or first 0

-- How many harts all parts have. Where no count is given, there is a hart for each log.
abbrev pub all_harts : Option ℕ → ℕ → ℕ
all_harts None logs = logs
all_harts (Some harts) logs = harts

-- What comes before the messages of a part: before those of hart 0 what the capture of all harts begins with, and
-- before others nothing.
abbrev pub part_start : Version → ℕ → Header → List ℕ
part_start version hart header = if hart == 0 then start_bytes version header else []

-- The text of messages: lines of hexadecimal, where these are asked for, or a part of a capture of this many harts. The
-- first log is that of this hart.
abbrev pub messages_text : Bool → Version → ℕ → Mode → ℕ → ℕ → List Message → List ℕ
messages_text hex version period mode hart harts messages =
    if hex then hex_text messages
    else (part_start version hart (record { mode = mode; period = period; harts = harts }) ++ capture messages)

-- The part of a capture whose logs are these, or the same as lines.
abbrev pub part_text : Bool → Version → ℕ → Mode → ℕ → ℕ → List ProgramLog → List ℕ
part_text hex version period mode hart harts logs =
    messages_text hex version period mode hart harts (messages_of_harts period mode hart logs)

-- Why no such part is asked for: a first hart is given and no count of all harts, or the count is more than a capture
-- of the version has.
abbrev pub asked_part : Version → Option ℕ → Option ℕ → Result (Unit {0}) Fault
asked_part version first (Some harts) =
    if nat_lt (most_harts version) harts then Err (fault.Own (ManyHarts (most_harts version))) else Ok tt
asked_part version (Some first) None = Err (fault.Own FirstAlone)
asked_part version None None = Ok tt

-- How many logs a part may have, or the fault of a first hart that is not one of all.
abbrev pub most_logs : Version → Option ℕ → Option ℕ → Result ℕ Fault
most_logs version first None = Ok (most_harts version)
most_logs version first (Some harts) =
    if nat_lt (first_hart first) harts then Ok (harts - first_hart first) else Err (fault.Own (FirstHart harts))

-- The fault of what is asked for that is no part; then that of a base that is no number, of a first hart that is not
-- one of all, and of no log or of more logs than there may be.
abbrev pub part_fault : Result (Unit {0}) Fault → Option ℕ → Result ℕ Fault → ℕ → Option Fault
part_fault (Err why) base most logs = Some why
part_fault (Ok part) None most logs = Some fault.Base
part_fault (Ok part) (Some base) (Err why) logs = Some why
part_fault (Ok part) (Some base) (Ok most) logs = logs_fault most (Some base) logs
