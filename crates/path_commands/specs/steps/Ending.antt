-- How a run goes on once the rows of the messages are written.
use Rattle.std.specs.Prelude.{ℕ, ◌≡◌, ◌^◌, ◌<◌, ◌⊎◌, List, Option, Result, Err, length}
use Rattle.std.specs.Io.KnownBytes.{Appends}
use Rattle.payload.specs.declared.by.By.{By}
use Rattle.message.specs.declared.range.HartRange.{HartRange}
use Rattle.message.specs.declared.message.Message.{Message}
use Rattle.frames.specs.Counted.{bytes_in, messages_in, runs_in}
use Rattle.auditing.specs.Audits.{Audits}
use Rattle.auditing.specs.Known.{known_all}
use Rattle.auditing.specs.Ledger.{Ledger}
use Rattle.command_inputs.specs.Faults.{Path}
use Rattle.path_commands.specs.Faults.{Fault}
use Rattle.command_inputs.specs.declared.fault.Fault.TheVariants as fault
use Rattle.command_inputs.specs.declared.status.Status.{Status}
use Rattle.path_commands.specs.ReceivedCapture.{ReceivedCapture, is_whole_result}
use Rattle.path_commands.specs.Rows.{rows_behind}
use Rattle.path_commands.specs.Sides.{Sent, end_of_audit}
use Rattle.path_commands.specs.declared.received.ReceivedSummary.{ReceivedSummary}
use Rattle.path_commands.specs.declared.report.Report.{Report}
use Rattle.path_commands.specs.steps.Noting.{noted_of}

-- RECEIVED was read, against these messages of SENT: its header, why it has none that is valid, how many messages and
-- bytes of no message it has, and what is found of the messages of these harts.
pub record HasReceived (harts : HartRange) (sent : List Message) (path : Ledger) (arrived : ReceivedSummary)
    (came : ReceivedCapture)
    : Type 0 where
  pub audits : Audits sent (messages_in came.spans) path
  pub few : length (messages_in came.spans) < 2 ^ 64
  pub header : arrived.header ≡ came.header
  pub fault : arrived.fault ≡ came.fault
  pub messages : arrived.read.messages ≡ length (messages_in came.spans)
  pub bytes : arrived.read.bytes ≡ bytes_in came.spans
  pub runs : arrived.read.runs ≡ runs_in came.spans
  pub noted : arrived.noted ≡ noted_of harts (known_all path.by sent) (known_all path.by (messages_in came.spans))

-- The rows after those of the messages are written, and the run ends as it should; or the output failed.
abbrev pub EndsRest : By → Report → Path → Sent → ReceivedCapture → Result Status Fault → Option (List ℕ) → Option
    (List ℕ)
    → Type 0
EndsRest how report received sent came ended old new =
    (ended ≡ Err fault.Output)
    ⊎ (Appends old new (rows_behind how report sent came)
    × (ended ≡ end_of_audit received came.fault (is_whole_result how report.harts sent came)))
