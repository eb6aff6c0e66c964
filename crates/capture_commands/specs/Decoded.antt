-- What `decode` prints, and how it ends.
use Rattle.std.specs.Prelude.{⊤, ◌⊎◌, ◌≡◌, ℕ, Bool, true, false, List, Option, None, Result}
use Rattle.std.specs.Io.KnownBytes.{Keeps}
use Rattle.captures.specs.declared.outcome.CaptureFault.{CaptureFault}
use Rattle.message.specs.declared.range.HartRange.{HartRange}
use Rattle.retire.specs.declared.event.Event.{Event}
use Rattle.rvclass.specs.Fetch.{words_of}
use Rattle.rvclass.specs.Image.{Image}
use Rattle.command_inputs.specs.declared.words.Decode.{Decode}
use Rattle.command_inputs.specs.declared.words.Format.TheVariants.{Text}
use Rattle.command_inputs.specs.Begun.{BeginsPrinted}
use Rattle.command_inputs.specs.FurtherPieces.{base_number}
use Rattle.log_streams.specs.Known.{Content}
use Rattle.command_inputs.specs.OnlyHarts.{asked_harts}
use Rattle.command_inputs.specs.Order.{base_or_only_fault}
use Rattle.command_inputs.specs.Printed.{First}
use Rattle.capture_commands.specs.CaptureInput.{CaptureInput, IsCaptureInput}
use Rattle.capture_commands.specs.CountedHarts.{HasHartBelow}
use Rattle.capture_commands.specs.Faults.{Fault, Meaning, Once, Printed}
use Rattle.capture_commands.specs.Decoding.{end_of_capture_of}
use Rattle.parallel_decode.specs.HartsText.{harts_text_of}
use Rattle.captures.specs.Decoded.{IsDecodedOf}
use Rattle.capture_commands.specs.Pieces.{HasPieces, WritesPieces}

-- The logs that a capture's bytes decode to are written, those of these harts, where messages of these alone are looked
-- at. The run ends as decoding does.
pub record WritesDecoded (harts : ℕ) (range : HartRange) (program : Image) (bytes : List ℕ) (printed : Printed)
    : Type 0 where
  pub lists : List (List Event)
  pub closed : List Bool
  pub stop : Option (ℕ × CaptureFault)
  pub decoded : IsDecodedOf range (words_of program) harts bytes lists closed stop
  pub text : printed.text ≡ harts_text_of range 0 lists
  pub ended : printed.ended ≡ end_of_capture_of range stop closed

-- What a capture has of the logs of these harts is written: where messages may be lost, what is left of each log, and
-- else the logs that its bytes decode to.
abbrev pub WritesLogs : Bool → ℕ → HartRange → Image → List ℕ → Printed → Type 0
WritesLogs true harts range program bytes = WritesPieces harts range program bytes
WritesLogs false harts range program bytes = WritesDecoded harts range program bytes

-- What a capture has of the logs of these harts is written, where it has one of these harts.
abbrev pub WritesLogsOf : Bool → ℕ → HartRange → Image → List ℕ → Printed → Type 0
WritesLogsOf lossy harts range program bytes =
    First (HasHartBelow harts range bytes) (λ _. WritesLogs lossy harts range program bytes)

-- The input of `decode` is found. It has no format and no symbols.
abbrev pub IsDecodeInput : Content → Decode → Result CaptureInput Fault → Type 0
IsDecodeInput content asked = IsCaptureInput content Text asked.program asked.only None asked.capture

-- What an input has of the logs of its harts is written, as it is asked for.
abbrev pub DecodesInput : Decode → CaptureInput → Printed → Type 0
DecodesInput asked input = WritesLogsOf asked.lossy asked.harts input.only input.program input.bytes

-- The input is found first. Where there is no fault, what it has of the logs of its harts is written.
abbrev pub Decodes : Content → Decode → Printed → Type 0
Decodes content asked = First (IsDecodeInput content asked) (DecodesInput asked)

-- Where messages may be lost, what is left of the logs is written once it is collected.
abbrev pub CanWriteLogs : Bool → ℕ → HartRange → Image → List ℕ → Type 0
CanWriteLogs true harts range program bytes = HasPieces harts range program bytes
CanWriteLogs false harts range program bytes = ⊤

-- And the capture has one of these harts.
abbrev pub CanWriteLogsOf : Bool → ℕ → HartRange → Image → List ℕ → Type 0
CanWriteLogsOf lossy harts range program bytes =
    Once (HasHartBelow harts range bytes) (λ _. CanWriteLogs lossy harts range program bytes)

abbrev pub CanDecodeInput : Decode → CaptureInput → Type 0
CanDecodeInput asked input = CanWriteLogsOf asked.lossy asked.harts input.only input.program input.bytes

-- `decode` writes once it has its input, and that has one of the harts.
abbrev pub CanDecode : Content → Decode → Type 0
CanDecode content asked = Once (IsDecodeInput content asked) (CanDecodeInput asked)

-- What `decode` means. Only where messages may be lost does it take memory for the text of a log once the logs before
-- it are written.
abbrev pub decode_meaning : Decode → Meaning
decode_meaning asked = record {
  early = base_or_only_fault (base_number asked.program) (asked_harts asked.only);
  Prints = λ content. Decodes content asked;
  CanWrite = λ content. CanDecode content asked;
  Begins = λ content old new. Keeps old new ⊎ ((asked.lossy ≡ true) × BeginsPrinted (Decodes content asked) old new);
  WritesInParts = asked.lossy ≡ true;
  Cuts = λ content. Decodes content asked;
}
