-- What `list --salvage` prints, and how it ends.
use Rattle.std.specs.Prelude.{◌≡◌, ℕ, Bool, List, Option}
use Rattle.std.specs.List.{list_any}
use Rattle.std.specs.declared.alloc.Global.{Global}
use Rattle.message.specs.Range.{selected}
use Rattle.message.specs.declared.range.HartRange.{HartRange}
use Rattle.message.specs.declared.fault.MessageFault.{MessageFault}
use Rattle.message.specs.declared.header.Header.{Header}
use Rattle.message.specs.declared.message.Message.{Message}
use Rattle.rvclass.specs.Fetch.{words_of}
use Rattle.rvclass.specs.Image.{Image}
use Rattle.salvaging.specs.Treatments.{AreTreated}
use Rattle.salvaging.specs.declared.salvaged.Salvaged.{Salvaged}
use Rattle.salvaging.specs.declared.treatment.Treated.{Treated}
use Rattle.frames.specs.Harts.{harts_counted}
use Rattle.frames.specs.Search.{mode_of}
use Rattle.frames.specs.Start.{spans_of}
use Rattle.salvage_reports.specs.Found.{IsSalvagedOf}
use Rattle.salvage_reports.specs.Frames.{is_run, messages_in}
use Rattle.salvage_reports.specs.HartRows.{in_rows}
use Rattle.command_inputs.specs.declared.words.Format.{Format}
use Rattle.command_inputs.specs.Printed.{First}
use Rattle.capture_commands.specs.Faults.{Printed}
use Rattle.capture_commands.specs.HartsFound.{HasHartFound}
use Rattle.capture_commands.specs.ListedFormats.{form_of, treated_in}
use Rattle.capture_commands.specs.Salvaging.{end_of_salvage_of}

-- The messages of these harts' frames of a capture.
abbrev pub messages_of : HartRange → Option Header → List ℕ → List Message
messages_of only header bytes = selected only (messages_in (spans_of header bytes))

-- This is done with each message of these harts' frames of a capture, where this count of harts is asked for, if one
-- is.
abbrev pub AreTreatedIn : HartRange → Option ℕ → Image → Option Header → List ℕ → List Treated → Type 0
AreTreatedIn only asked program header bytes treated =
    AreTreated (words_of program) (mode_of header) (harts_counted asked header bytes) (messages_of only header bytes)
    treated

-- What salvaging does with each message of these harts of a capture, and which rows it settles, where the format says
-- them, is written in a format, and the run ends as one of `salvage` does: by the capture's header and by what is salvaged of them.
pub record WritesTreated (format : Format) (rows : Bool) (only : HartRange) (asked : Option ℕ) (program : Image)
    (symbols : Option (List ℕ)) (bytes : List ℕ) (printed : Printed) : Type 0 where
  pub header : Option Header
  pub why : Option MessageFault
  pub salvaged : Salvaged Global
  pub found : IsSalvagedOf only asked program bytes header why salvaged
  pub treated : List Treated
  pub done : AreTreatedIn only asked program header bytes treated
  pub text : printed.text
      ≡ treated_in format rows only symbols header bytes
      (in_rows (form_of format rows) (messages_of only header bytes) treated)
  pub ended : printed.ended ≡ end_of_salvage_of only why (list_any is_run (spans_of header bytes)) salvaged

-- The same, where the capture has one of these harts.
abbrev pub TreatsHarts : Format → Bool → HartRange → Option ℕ → Image → Option (List ℕ) → List ℕ → Printed → Type 0
TreatsHarts format rows only asked program symbols bytes =
    First (HasHartFound asked only bytes) (λ _. WritesTreated format rows only asked program symbols bytes)
