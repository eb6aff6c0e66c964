-- What `capture` prints, and how it ends.
use Rattle.std.specs.Prelude.{⊤, ◌≡◌, ◌≢◌, ◌⊎◌, ◌==◌, ◌&&◌, ℕ, ◌^◌, ◌++◌, nat_lt, not, if◌then◌else◌, Bool, true, false, List}
use Rattle.std.specs.Prelude.{[], ◌∷◌, Option, Some, None, Result, Ok, Err}
use Rattle.std.specs.Io.KnownBytes.{Keeps}
use Rattle.captures.specs.Capture.{capture_of_text}
use Rattle.captures.specs.Streamed.{skips_of, stop_of, streamed_bytes, streamed_faults}
use Rattle.captures.specs.declared.line_fault.LinesFault.{LinesFault}
use Rattle.captures.specs.declared.line_settings.Settings.{Settings}
use Rattle.message.specs.Version.{most_harts}
use Rattle.command_inputs.specs.Begun.{BeginsPrinted}
use Rattle.command_inputs.specs.declared.words.Capture.{Capture}
use Rattle.log_streams.specs.Known.{Absent, Content, Known}
use Rattle.command_inputs.specs.Faults.{Path}
use Rattle.command_inputs.specs.Found.{IsRead}
use Rattle.command_inputs.specs.Kind.{is_streamed}
use Rattle.command_inputs.specs.Printed.{First, silent}
use Rattle.command_inputs.specs.declared.fault.Fault.TheVariants as fault
use Rattle.command_inputs.specs.declared.status.Status.{Status}
use Rattle.command_inputs.specs.declared.status.Status.TheVariants.{Whole}
use Rattle.path_commands.specs.LineFaults.{Fault, Meaning, Once, Printed, lines_fault}
use Rattle.path_commands.specs.declared.line_reason.LineReason.TheVariants.{ManyHarts, SkipAlone, Skipped}

-- More harts are asked for than this many.
abbrev pub are_many : ℕ → Option ℕ → Bool
are_many most None = false
are_many most (Some harts) = nat_lt most harts

-- How many numbers there are of so many bits, where these are given.
abbrev pub numbers_of : Option ℕ → Option ℕ
numbers_of None = None
numbers_of (Some bits) = Some (2 ^ bits)

-- What the capture is to be beside its messages.
abbrev pub asked_settings : Capture → Settings
asked_settings asked =
    record {
      version = asked.version;
      mode = asked.mode;
      period = asked.period;
      harts = asked.harts;
      numbers = numbers_of asked.number_bits;
    }

-- The fault of more harts than a capture of the version has.
abbrev pub many_harts : Capture → Fault
many_harts asked = fault.Own (ManyHarts (most_harts asked.version))

-- Lines that have a fault are to be skipped, and the lines are not written as they come.
abbrev pub skips_alone : Capture → Bool
skips_alone asked = asked.skip && not (is_streamed asked)

-- What the capture is to be beside its messages, or the fault where lines are to be skipped that cannot be.
abbrev pub skip_at : Capture → Result Settings Fault
skip_at asked = if skips_alone asked then Err (fault.Own SkipAlone) else Ok (asked_settings asked)

-- The same, or the fault where more harts are asked for than the version of the capture has.
abbrev pub settings_at : Capture → Result Settings Fault
settings_at asked =
    if are_many (most_harts asked.version) asked.harts then Err (many_harts asked) else skip_at asked

-- The fault that is found without the file.
abbrev pub asked_fault : Capture → Option Fault
asked_fault asked =
    if are_many (most_harts asked.version) asked.harts then Some (many_harts asked)
    else if skips_alone asked then Some (fault.Own SkipAlone) else None

-- What the capture is to be is found.
abbrev pub AreSettings : Capture → Result Settings Fault → Type 0
AreSettings asked found = found ≡ settings_at asked

-- What is printed of the lines at a path: their capture, and all is done; or nothing, where a line has a fault.
abbrev pub printed_of : Path → Result (List ℕ) LinesFault → Printed
printed_of path (Ok bytes) = record { text = bytes; ended = Ok Whole }
printed_of path (Err why) = silent (lines_fault path why)

-- The capture of a text's lines is written, or nothing where a line has a fault. The text is that of the file at this
-- path.
abbrev pub WritesCapture : Path → Settings → List ℕ → Printed → Type 0
WritesCapture path settings text printed = printed ≡ printed_of path (capture_of_text settings text)

-- How a text ends whose lines are written as they come: at a fault, or with a line that says how many lines are
-- skipped, or whole.
abbrev pub stream_end : Path → Option LinesFault → ℕ → Result Status Fault
stream_end path (Some why) count = Err (lines_fault path why)
stream_end path None count = if count == 0 then Ok Whole else Err (fault.Own (Skipped path count))

-- The lines of a text are written as they come: all, but for those that are skipped, or all before the first that has a
-- fault.
abbrev pub printed_stream : Path → Settings → Bool → List ℕ → Printed
printed_stream path settings skip text = record {
  text = streamed_bytes settings skip text;
  ended = stream_end path (stop_of skip (streamed_faults settings skip text))
      (skips_of skip (streamed_faults settings skip text));
}

-- The last line of a text has an end.
abbrev pub HasEnd : List ℕ → Type 0
HasEnd text = (front : List ℕ) × (text ≡ front ++ (10 ∷ []))

-- So has that of this text, or it has no byte.
abbrev pub EndsLine : List ℕ → Type 0
EndsLine text = (text ≡ []) ⊎ HasEnd text

-- There may be such a file, and it was not read to its end. The lines that came before are written.
pub record IsCutShort (file : Known) (settings : Settings) (skip : Bool) (why : Fault) (printed : Printed)
    : Type 0 where
  pub opened : file ≢ Absent
  pub text : List ℕ
  pub lines : EndsLine text
  pub right : stop_of skip (streamed_faults settings skip text) ≡ None
  pub is : printed ≡ record { text = streamed_bytes settings skip text; ended = Err why }

-- The lines of a file are written as they come. Where it is not opened, nothing is.
abbrev pub WritesStream : Known → Path → Settings → Bool → Result (List ℕ) Fault → Printed → Type 0
WritesStream file path settings skip (Ok text) printed = printed ≡ printed_stream path settings skip text
WritesStream file path settings skip (Err why) printed =
    (printed ≡ silent why) ⊎ IsCutShort file settings skip why printed

-- The lines are read, and written as they come.
abbrev pub Streams : Content → Capture → Settings → Printed → Type 0
Streams content asked settings printed =
    (read : Result (List ℕ) Fault) × IsRead content asked.lines read
    × WritesStream (content asked.lines.now) asked.lines settings asked.skip read printed

-- The lines are written as they come, or else all are read, and where there is no fault, their capture is written.
abbrev pub WritesLines : Bool → Content → Capture → Settings → Printed → Type 0
WritesLines true content asked settings = Streams content asked settings
WritesLines false content asked settings =
    First (IsRead content asked.lines) (WritesCapture asked.lines settings)

-- What is asked for is looked at, and then the lines are read and written.
abbrev pub Captures : Content → Capture → Printed → Type 0
Captures content asked = First (AreSettings asked) (WritesLines (is_streamed asked) content asked)

-- The lines can be read.
abbrev pub CanRead : Content → Capture → Type 0
CanRead content asked = Once (IsRead content asked.lines) (λ _. ⊤)

-- `capture` writes once it has the lines, or the first of them.
abbrev pub CanCapture : Content → Capture → Type 0
CanCapture content asked = Once (AreSettings asked) (λ _. CanRead content asked)

-- What `capture` means. Lines that are written as they come are so before an allocation fails.
abbrev pub capture_meaning : Capture → Meaning
capture_meaning asked = record {
  early = asked_fault asked;
  Prints = λ content. Captures content asked;
  CanWrite = λ content. CanCapture content asked;
  Begins = λ content old new.
      Keeps old new ⊎ ((is_streamed asked ≡ true) × BeginsPrinted (Captures content asked) old new);
  WritesInParts = is_streamed asked ≡ true;
  Cuts = λ content. Captures content asked;
}
