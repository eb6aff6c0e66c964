-- What `list` prints, and how it ends.
use Rattle.std.specs.Prelude.{⊤, ◌≡◌, ◌⊎◌, ℕ, Bool, true, false, List, Option, Result, Err}
use Rattle.std.specs.Io.KnownBytes.{Keeps}
use Rattle.std.specs.Option.{unwrap_or}
use Rattle.captures.specs.declared.outcome.CaptureFault.{CaptureFault}
use Rattle.message.specs.declared.range.HartRange.{HartRange}
use Rattle.rvclass.specs.Fetch.{words_of}
use Rattle.rvclass.specs.Image.{Image}
use Rattle.command_inputs.specs.declared.words.Format.{Format}
use Rattle.command_inputs.specs.declared.words.Listing.{Listing}
use Rattle.command_inputs.specs.FurtherPieces.{base_number}
use Rattle.log_streams.specs.Known.{Content}
use Rattle.command_inputs.specs.OnlyHarts.{asked_harts}
use Rattle.command_inputs.specs.Order.{format_base_or_only_fault}
use Rattle.command_inputs.specs.Printed.{First, IsPrinted}
use Rattle.capture_commands.specs.CaptureInput.{CaptureInput, IsCaptureInput}
use Rattle.capture_commands.specs.Faults.{Fault, Meaning, Once, Printed}
use Rattle.command_inputs.specs.declared.fault.Fault.TheVariants as fault
use Rattle.capture_commands.specs.CountedHarts.{HasHartBelow}
use Rattle.capture_commands.specs.Decoding.{end_of_capture_of}
use Rattle.capture_commands.specs.HartsFound.{HasHartFound}
use Rattle.capture_commands.specs.ListedFormats.{IsListedIn, IsPartListedIn}
use Rattle.capture_commands.specs.ListedSalvaged.{TreatsHarts}

-- The listing of these harts of a capture is written in a format, and the run ends as their decoding does.
pub record WritesListing (format : Format) (rows : Bool) (only : HartRange) (harts : ℕ) (program : Image)
    (symbols : Option (List ℕ)) (bytes : List ℕ) (printed : Printed) : Type 0 where
  pub closed : List Bool
  pub stop : Option (ℕ × CaptureFault)
  pub listing : IsListedIn format rows (words_of program) only harts symbols bytes closed stop printed.text
  pub ended : printed.ended ≡ end_of_capture_of only stop closed

-- The same, where the capture has one of these harts.
abbrev pub ListsBelow : Format → Bool → HartRange → ℕ → Image → Option (List ℕ) → List ℕ → Printed → Type 0
ListsBelow format rows only harts program symbols bytes =
    First (HasHartBelow harts only bytes) (λ _. WritesListing format rows only harts program symbols bytes)

-- A capture with no header has one hart where no count is given.
abbrev pub harts_or_one : Option ℕ → ℕ
harts_or_one given = unwrap_or given 1

-- What is listed of these harts of a capture is written, where it has one of them: what salvaging does with each of
-- their messages, where that is asked for, and else the listing; each in a format.
abbrev pub WritesListed : Format → Bool → Bool → HartRange → Option ℕ → Image → Option (List ℕ) → List ℕ → Printed → Type 0
WritesListed format rows true only harts program symbols bytes = TreatsHarts format rows only harts program symbols bytes
WritesListed format rows false only harts program symbols bytes =
    ListsBelow format rows only (harts_or_one harts) program symbols bytes

-- The input of `list` is found.
abbrev pub IsListInput : Content → Listing → Result CaptureInput Fault → Type 0
IsListInput content asked = IsCaptureInput content asked.format asked.program asked.only asked.symbols asked.capture

-- What is listed of an input is written, as it is asked for.
abbrev pub ListsInput : Listing → CaptureInput → Printed → Type 0
ListsInput asked input =
    WritesListed asked.format asked.rows asked.salvage input.only asked.harts input.program input.symbols input.bytes

-- The input is found first. Where there is no fault, what is listed of it is written.
abbrev pub Lists : Content → Listing → Printed → Type 0
Lists content asked = First (IsListInput content asked) (ListsInput asked)

-- What is listed is written once the capture has one of these harts.
abbrev pub CanListBelow : HartRange → ℕ → List ℕ → Type 0
CanListBelow only harts bytes = Once (HasHartBelow harts only bytes) (λ _. ⊤)

abbrev pub CanTreat : HartRange → Option ℕ → List ℕ → Type 0
CanTreat only harts bytes = Once (HasHartFound harts only bytes) (λ _. ⊤)

abbrev pub CanWriteListed : Bool → HartRange → Option ℕ → List ℕ → Type 0
CanWriteListed true only harts bytes = CanTreat only harts bytes
CanWriteListed false only harts bytes = CanListBelow only (harts_or_one harts) bytes

abbrev pub CanListInput : Listing → CaptureInput → Type 0
CanListInput asked input = CanWriteListed asked.salvage input.only asked.harts input.bytes

-- `list` writes once it has its input, and that has one of the harts.
abbrev pub CanList : Content → Listing → Type 0
CanList content asked = Once (IsListInput content asked) (CanListInput asked)

-- A part of the listing of these harts of a capture, which has one of them, is written in a format, however the run
-- ends.
abbrev pub WritesPart : Format → Bool → HartRange → ℕ → Image → Option (List ℕ) → List ℕ → Printed → Type 0
WritesPart format rows only harts program symbols bytes printed =
    IsPartListedIn format rows (words_of program) only harts symbols bytes printed.text

abbrev pub ListsPartBelow : Format → Bool → HartRange → ℕ → Image → Option (List ℕ) → List ℕ → Printed → Type 0
ListsPartBelow format rows only harts program symbols bytes printed =
    Once (HasHartBelow harts only bytes) (λ _. WritesPart format rows only harts program symbols bytes printed)

-- A part of what is listed is written: of what salvaging does with each message all, and of a listing a part.
abbrev pub WritesListedPart : Format → Bool → Bool → HartRange → Option ℕ → Image → Option (List ℕ) → List ℕ → Printed
    → Type 0
WritesListedPart format rows true only harts program symbols bytes = TreatsHarts format rows only harts program symbols bytes
WritesListedPart format rows false only harts program symbols bytes =
    ListsPartBelow format rows only (harts_or_one harts) program symbols bytes

abbrev pub ListsInputInPart : Listing → CaptureInput → Printed → Type 0
ListsInputInPart asked input =
    WritesListedPart asked.format asked.rows asked.salvage input.only asked.harts input.program input.symbols input.bytes

-- The input was found, and a part of what is listed of it is written.
abbrev pub ListsInPart : Content → Listing → Printed → Type 0
ListsInPart content asked printed = Once (IsListInput content asked) (λ input. ListsInputInPart asked input printed)

-- Nothing was written, or all lines before the message at which allocation failed.
abbrev pub ListsUpToMemory : (Printed → Type 0) → Option (List ℕ) → Option (List ℕ) → Type 0
ListsUpToMemory Prints old new = Keeps old new ⊎ IsPrinted Prints (Err fault.Memory) old new

-- What `list` means. It takes memory for the events of a message once the lines before are written, but not where
-- `salvage` is asked for.
abbrev pub list_meaning : Listing → Meaning
list_meaning asked = record {
  early = format_base_or_only_fault asked.format (base_number asked.program)
      (asked_harts asked.only);
  Prints = λ content. Lists content asked;
  CanWrite = λ content. CanList content asked;
  Begins = λ content old new. ListsUpToMemory (Lists content asked) old new;
  WritesInParts = asked.salvage ≡ false;
  Cuts = λ content. ListsInPart content asked;
}
