-- What `compare` prints, and how it ends.
use Rattle.std.specs.Prelude.{⊤, ℕ, ◌≡◌, ◌≢◌, Bool, List, Option, Result, Err, length}
use Rattle.bench.specs.Got.{Got}
use Rattle.captures.specs.declared.outcome.CaptureFault.{CaptureFault}
use Rattle.comparing.specs.Compared.{AreGotOf, is_compared_whole}
use Rattle.comparing.specs.Explained.{explained_harts, explained_text}
use Rattle.comparing.specs.Sourced.{AreSourced}
use Rattle.comparing.specs.declared.sourcing.SourcedHart.{SourcedHart}
use Rattle.log_streams.specs.Known.{Content}
use Rattle.message.specs.declared.range.HartRange.{HartRange}
use Rattle.legalpath.specs.ProgramLog.{ProgramLog}
use Rattle.rvclass.specs.Fetch.{words_of}
use Rattle.rvclass.specs.Image.{Image}
use Rattle.rvclass.specs.Words.{Words}
use Rattle.command_inputs.specs.declared.words.Compare.{Compare}
use Rattle.command_inputs.specs.declared.words.Format.TheVariants.{Text}
use Rattle.command_inputs.specs.FurtherPieces.{base_number}
use Rattle.command_inputs.specs.Meaning.{writing_at_once}
use Rattle.command_inputs.specs.OnlyHarts.{asked_harts}
use Rattle.command_inputs.specs.Order.{base_or_only_fault}
use Rattle.command_inputs.specs.Printed.{First}
use Rattle.command_inputs.specs.declared.fault.Fault.TheVariants as fault
use Rattle.capture_commands.specs.CaptureInput.{CaptureInput, IsCaptureInput}
use Rattle.capture_commands.specs.CountedHarts.{HasHartBelow}
use Rattle.capture_commands.specs.Faults.{Fault, Meaning, Once, Printed}
use Rattle.capture_commands.specs.Comparison.{AreLogsOfHarts, comparison_end, end_of_stop, rows_of}

-- The report of a comparison that says where logs differ, and which messages of the capture the rows come from, is written,
-- whose first hart has this number, and the run ends as that says. The rows before the first difference are written if they
-- are wanted, and places are named by the symbols.
pub record WritesComparison (before : Bool) (symbols : Option (List ℕ)) (words : Words) (bytes : List ℕ) (hart : ℕ)
    (stop : Option (ℕ × CaptureFault)) (gots : List Got) (logs : List ProgramLog) (printed : Printed) : Type 0 where
  pub harts : List SourcedHart
  pub sourced : AreSourced words bytes stop (explained_harts hart gots logs) harts
  pub is : printed ≡ record {
    text = explained_text before symbols stop harts;
    ended = comparison_end (end_of_stop stop) (is_compared_whole stop gots logs);
  }

-- The bytes of a capture decode to something of each of these harts that it has, and decoding does not stop for want of
-- memory. The logs of as many harts are found, and compared with that.
pub record ComparesCapture (content : Content) (asked : Compare) (range : HartRange) (program : Image)
    (symbols : Option (List ℕ)) (bytes : List ℕ) (printed : Printed) : Type 0 where
  pub gots : List Got
  pub stop : Option (ℕ × CaptureFault)
  pub got : AreGotOf range (words_of program) asked.harts bytes gots stop
  pub no_memory : end_of_stop stop ≢ Err fault.Memory
  pub prints : First
      (AreLogsOfHarts (rows_of asked.long) content program asked.logs.items (length gots))
      (WritesComparison asked.explain symbols (words_of program) bytes range.first stop gots) printed

-- The capture is compared where it has one of these harts.
abbrev pub ComparesHarts : Content → Compare → HartRange → Image → Option (List ℕ) → List ℕ → Printed → Type 0
ComparesHarts content asked range program symbols bytes =
    First (HasHartBelow asked.harts range bytes) (λ _. ComparesCapture content asked range program symbols bytes)

-- The input of `compare` is found. It has no format.
abbrev pub IsCompareInput : Content → Compare → Result CaptureInput Fault → Type 0
IsCompareInput content asked = IsCaptureInput content Text asked.program asked.only asked.symbols asked.capture

-- What an input has of its harts is compared with the logs that are asked for.
abbrev pub ComparesInput : Content → Compare → CaptureInput → Printed → Type 0
ComparesInput content asked input = ComparesHarts content asked input.only input.program input.symbols input.bytes

-- The input is found first. Where there is no fault, what it has of its harts is compared.
abbrev pub Compares : Content → Compare → Printed → Type 0
Compares content asked = First (IsCompareInput content asked) (ComparesInput content asked)

-- A capture's bytes decode to something of each of these harts without want of memory, and the logs of as many harts
-- are found.
pub record CanCompareCapture (content : Content) (asked : Compare) (range : HartRange) (program : Image) (bytes : List ℕ)
    : Type 0 where
  pub gots : List Got
  pub stop : Option (ℕ × CaptureFault)
  pub got : AreGotOf range (words_of program) asked.harts bytes gots stop
  pub no_memory : end_of_stop stop ≢ Err fault.Memory
  pub logs : Once (AreLogsOfHarts (rows_of asked.long) content program asked.logs.items (length gots)) (λ _. ⊤)

-- And the capture has one of these harts.
abbrev pub CanCompareHarts : Content → Compare → HartRange → Image → List ℕ → Type 0
CanCompareHarts content asked range program bytes =
    Once (HasHartBelow asked.harts range bytes) (λ _. CanCompareCapture content asked range program bytes)

abbrev pub CanCompareInput : Content → Compare → CaptureInput → Type 0
CanCompareInput content asked input = CanCompareHarts content asked input.only input.program input.bytes

-- `compare` writes once it has the legal logs.
abbrev pub CanCompare : Content → Compare → Type 0
CanCompare content asked = Once (IsCompareInput content asked) (CanCompareInput content asked)

-- What `compare` means. Where allocation fails, it wrote nothing.
abbrev pub compare_meaning : Compare → Meaning
compare_meaning asked = writing_at_once
    (base_or_only_fault (base_number asked.program) (asked_harts asked.only))
    (λ content. Compares content asked) (λ content. CanCompare content asked)
