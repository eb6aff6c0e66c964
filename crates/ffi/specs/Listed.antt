-- What a call reports of the listing of a capture, or of what salvaging does with each message of one.
use Rattle.std.specs.Prelude.{ℕ, ◌≡◌, ◌==◌, ◌&&◌, is_none, Bool, if◌then◌else◌, List, [], ◌∷◌, Option, Some, None, false}
use Rattle.std.specs.Prelude.{Result, Ok, Err, length}
use Rattle.std.specs.List.{list_any}
use Rattle.std.specs.declared.alloc.Global.{Global}
use Rattle.captures.specs.declared.outcome.CaptureFault.{CaptureFault}
use Rattle.listing.specs.Listing.{IsListing}
use Rattle.listing.specs.declared.form.Form.{Form}
use Rattle.listing.specs.declared.form.Form.TheVariants as form
use Rattle.message.specs.Range.{every_hart, selected}
use Rattle.rvclass.specs.Fetch.{words_of}
use Rattle.rvclass.specs.Image.{Image}
use Rattle.symbols.specs.Refused.{file_or_fault}
use Rattle.symbols.specs.declared.fault.SymbolsFault.{SymbolsFault}
use Rattle.symbols.specs.declared.fault.SymbolsFault.TheVariants as reading
use Rattle.message.specs.declared.fault.MessageFault.{MessageFault}
use Rattle.message.specs.declared.header.Header.{Header}
use Rattle.message.specs.declared.message.Message.{Message}
use Rattle.salvage_reports.specs.Found.{IsSalvagedCapture}
use Rattle.salvage_reports.specs.Frames.{is_run, messages_in}
use Rattle.salvaging.specs.Treatments.{AreTreated}
use Rattle.salvaging.specs.declared.salvaged.Salvaged.{Salvaged}
use Rattle.salvaging.specs.declared.treatment.Treated.{Treated}
use Rattle.frames.specs.Harts.{harts_counted}
use Rattle.frames.specs.Search.{mode_of}
use Rattle.frames.specs.Start.{spans_of}
use Rattle.salvage_reports.specs.HartRows.{in_rows}
use Rattle.salvage_reports.specs.TreatedText.{treated_text_of}
use Rattle.ffi.specs.Decoded.{stop_fault, stop_place}
use Rattle.ffi.specs.Images.{Judged}
use Rattle.ffi.specs.Numbers.{flag}
use Rattle.ffi.specs.Texts.{ReportsText, first_unclosed}
use Rattle.ffi.specs.declared.fault.Fault.{Fault}
use Rattle.ffi.specs.declared.fault.Fault.TheVariants.{Memory, NoProgram, Range, Symbols}
use Rattle.ffi.specs.declared.listing_capture.TheConstants.{CSV, TEXT}
use Rattle.ffi.specs.declared.texts.TextEnd.{TextEnd}
use Rattle.ffi.specs.declared.texts.Written.{Written}
use Rattle.ffi.specs.Salvaged.{harts_asked, salvage_end}

-- The format of a number.
abbrev pub format_of : ℕ → Option Form
format_of number = if number == TEXT then Some (form.Lines false) else if number == CSV then Some form.Table else None

-- A file of symbols that is read, or why it is not.
abbrev pub some_file : Result (List ℕ) SymbolsFault → Result (Option (List ℕ)) SymbolsFault
some_file (Ok file) = Ok (Some file)
some_file (Err why) = Err why

-- The file of symbols that places are named by, or why it is not read. Of no bytes there is none.
abbrev pub symbols_in : List ℕ → Result (Option (List ℕ)) SymbolsFault
symbols_in [] = Ok None
symbols_in (byte ∷ bytes) = some_file (file_or_fault (byte ∷ bytes))

-- How the text of a capture ends that decodes to these flags and stops there, in numbers.
abbrev pub list_end : List Bool → Option (ℕ × CaptureFault) → TextEnd
list_end closed stop = record {
  harts = length closed;
  unclosed = first_unclosed closed;
  place = stop_place stop;
  fault = stop_fault stop;
  whole = flag (is_none stop && first_unclosed closed == length closed);
}

-- The text is the listing of a capture in a format by a program, with places named by a file of symbols, and how it ends.
pub record HasListing (harts : ℕ) (capture : List ℕ) (format : Form) (program : Image) (file : Option (List ℕ))
    (text : List ℕ) (end : TextEnd) : Type 0 where
  pub closed : List Bool
  pub stop : Option (ℕ × CaptureFault)
  pub listed : IsListing (words_of program) format every_hart harts file capture closed stop text
  pub ended : end ≡ list_end closed stop

-- The result in a format that is named, where these are the texts by a program and a file of symbols, and how they end:
-- such a text by the program of the image and the symbols that are read; or the image makes no program, or else the
-- symbols are not read; or an allocation failed.
abbrev pub IsTextBy : Judged → List ℕ → (Image → Option (List ℕ) → List ℕ → TextEnd → Type 0)
    → Result Written Fault → Type 0
IsTextBy image symbols IsText (Ok found) =
    (program : Image) × (file : Option (List ℕ)) × (image ≡ Ok program) × (symbols_in symbols ≡ Ok file)
    × IsText program file found.text.items found.end
IsTextBy image symbols IsText (Err Memory) = Unit {0}
IsTextBy image symbols IsText (Err (NoProgram why)) = image ≡ Err why
IsTextBy image symbols IsText (Err (Symbols reading.Memory)) = Unit {0}
IsTextBy image symbols IsText (Err (Symbols why)) =
    (program : Image) × (image ≡ Ok program) × (symbols_in symbols ≡ Err why)
IsTextBy image symbols IsText (Err other) = ⊥

-- The same, where the format is a number: it comes first, and names none, or the format.
pub data IsTextIn (image : Judged) (symbols : List ℕ) (format : ℕ)
    (IsText : Form → Image → Option (List ℕ) → List ℕ → TextEnd → Type 0) (written : Result Written Fault)
    : Type 0 where
  NoFormat : format_of format ≡ None → written ≡ Err Range → IsTextIn image symbols format IsText written
  InFormat : (named : Form) → format_of format ≡ Some named → IsTextBy image symbols (IsText named) written
      → IsTextIn image symbols format IsText written

-- The listing of a capture was written, and the result was reported.
abbrev pub ReportsList : Judged → ℕ → List ℕ → List ℕ → ℕ → ℕ → ℕ → ℕ → TextEnd → TextEnd → List ℕ → List ℕ → Type 0
ReportsList image harts capture symbols format status wanted_before wanted ended_before ended old new =
    (written : Result Written Fault) × IsTextIn image symbols format (HasListing harts capture) written
    × ReportsText written status wanted_before wanted ended_before ended old new

-- The messages of the frames of a capture.
abbrev pub all_messages : Option Header → List ℕ → List Message
all_messages header capture = selected every_hart (messages_in (spans_of header capture))

-- This is done with each message of all harts of a capture behind this header, or with none, where this count of harts
-- is asked for, if one is.
abbrev pub AreTreatedBehind : Option Header → Option ℕ → Image → List ℕ → List Treated → Type 0
AreTreatedBehind header asked program capture treated =
    AreTreated (words_of program) (mode_of header) (harts_counted asked header capture)
    (all_messages header capture) treated

-- The text is what salvaging does with each message of a capture in a format by a program, with places named by a file
-- of symbols, and how it ends, which is how salvaging ends.
pub record HasTreated (asked : Option ℕ) (capture : List ℕ) (format : Form) (program : Image)
    (file : Option (List ℕ)) (text : List ℕ) (end : TextEnd) : Type 0 where
  pub header : Option Header
  pub why : Option MessageFault
  pub salvaged : Salvaged Global
  pub treated : List Treated
  pub found : IsSalvagedCapture asked program capture header why salvaged
  pub done : AreTreatedBehind header asked program capture treated
  pub laid_out : text
      ≡ treated_text_of format every_hart file header capture (in_rows format (all_messages header capture) treated)
  pub ended : end ≡ salvage_end every_hart why (list_any is_run (spans_of header capture)) salvaged

-- What salvaging does with each message of a capture was written, and the result was reported.
abbrev pub ReportsTreated : Judged → ℕ → List ℕ → List ℕ → ℕ → ℕ → ℕ → ℕ → TextEnd → TextEnd → List ℕ → List ℕ
    → Type 0
ReportsTreated image harts capture symbols format status wanted_before wanted ended_before ended old new =
    (written : Result Written Fault) × IsTextIn image symbols format (HasTreated (harts_asked harts) capture) written
    × ReportsText written status wanted_before wanted ended_before ended old new
