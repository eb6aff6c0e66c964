-- The lines that are made of logs.
use Rattle.std.specs.Prelude.{ℕ, ◌≡◌, Bool, List, Option, Ok, is_none, length}
use Rattle.bench.specs.Got.{Got}
use Rattle.captures.specs.declared.outcome.CaptureFault.{CaptureFault}
use Rattle.comparing.specs.Explained.{are_whole_sourced, explained_harts, explained_text}
use Rattle.comparing.specs.declared.explained.ExplainedHart.{ExplainedHart}
use Rattle.comparing.specs.declared.sourcing.SourcedHart.{SourcedHart}
use Rattle.log_streams.specs.Known.{Content}
use Rattle.legalpath.specs.ProgramLog.{ProgramLog}
use Rattle.rvclass.specs.Image.{Image}
use Rattle.command_inputs.specs.Faults.{Path}
use Rattle.command_inputs.specs.FoundLogs.{AreLegalLogsUpTo}
use Rattle.capture_commands.specs.Faults.{Printed}
use Rattle.capture_commands.specs.declared.reason.CaptureReason.{CaptureReason}
use Rattle.capture_commands.specs.Comparison.{comparison_end, end_of_stop}

-- The logs at these paths are legal, as many as there are harts, and this is said of the harts. The first hart has this
-- number.
pub record AreLinesOfLogs (rows : ℕ) (content : Content) (program : Image) (paths : List Path) (hart : ℕ)
    (gots : List Got) (lines : List ExplainedHart) : Type 0 where
  pub logs : List ProgramLog
  pub legal : AreLegalLogsUpTo {W = CaptureReason} rows content program paths (Ok logs)
  pub many : length logs ≡ length gots
  pub each : lines ≡ explained_harts hart gots logs

-- The report of these harts is written, where decoding stops there, and the run ends as that says. The rows before the
-- first difference are written if they are wanted, and places are named by the symbols.
abbrev pub WritesLines : Bool → Option (List ℕ) → Option (ℕ × CaptureFault) → List SourcedHart → Printed → Type 0
WritesLines before symbols stop harts printed = printed ≡ record {
  text = explained_text before symbols stop harts;
  ended = comparison_end (end_of_stop stop) (are_whole_sourced (is_none stop) harts);
}
