-- What `salvage` prints, and how it ends.
use Rattle.std.specs.Prelude.{⊤, ◌≡◌, ◌||◌, ℕ, Bool, List, Option, Some, None, Result, Err}
use Rattle.std.specs.List.{list_any}
use Rattle.std.specs.declared.alloc.Global.{Global}
use Rattle.captures.specs.declared.outcome.CaptureFault.TheVariants as capture
use Rattle.message.specs.declared.range.HartRange.{HartRange}
use Rattle.message.specs.declared.fault.MessageFault.{MessageFault}
use Rattle.message.specs.declared.header.Header.{Header}
use Rattle.rvclass.specs.Image.{Image}
use Rattle.salvaging.specs.declared.salvaged.Salvaged.{Salvaged}
use Rattle.salvaging.specs.declared.salvaged.SalvagedHart.{SalvagedHart}
use Rattle.frames.specs.Start.{spans_of}
use Rattle.salvage_reports.specs.Damage.{closed_harts, is_damaged}
use Rattle.salvage_reports.specs.Found.{IsSalvagedOf}
use Rattle.salvage_reports.specs.Frames.{is_run}
use Rattle.salvage_reports.specs.HartItems.{items_of}
use Rattle.command_inputs.specs.declared.words.Format.{Format}
use Rattle.command_inputs.specs.declared.words.Salvage.{Salvage}
use Rattle.command_inputs.specs.FurtherPieces.{base_number}
use Rattle.log_streams.specs.Known.{Content}
use Rattle.command_inputs.specs.Meaning.{writing_at_once}
use Rattle.command_inputs.specs.OnlyHarts.{asked_harts}
use Rattle.command_inputs.specs.Order.{format_base_or_only_fault}
use Rattle.command_inputs.specs.Printed.{First}
use Rattle.capture_commands.specs.CaptureInput.{CaptureInput, IsCaptureInput}
use Rattle.capture_commands.specs.Faults.{Fault, Meaning, Once, Printed, capture_fault}
use Rattle.command_inputs.specs.declared.status.Status.{Status}
use Rattle.capture_commands.specs.Decoding.{end_of_harts}
use Rattle.capture_commands.specs.HartsFound.{HasHartFound}
use Rattle.capture_commands.specs.Pieces.{end_with_gaps}
use Rattle.capture_commands.specs.SalvagedFormats.{salvaged_in}

-- The fault of a header that is cut short or not valid, if there is one: it comes before the first message. Else the
-- fault names the first hart that is not closed, of these harts, from this one on. If all are closed, the end is by
-- whether there is damage, or bytes that belong to no frame.
abbrev pub end_of_salvaged : Option MessageFault → Bool → ℕ → List (SalvagedHart Global) → ℕ → Result Status Fault
end_of_salvaged (Some why) runs first harts strangers = Err (capture_fault 0 (capture.Message why))
end_of_salvaged None runs first harts strangers =
    end_with_gaps (is_damaged harts strangers || runs) (end_of_harts first (closed_harts harts))

-- The end by what is salvaged of all harts.
abbrev pub end_of_salvage : Option MessageFault → Bool → Salvaged Global → Result Status Fault
end_of_salvage why runs salvaged = end_of_salvaged why runs 0 salvaged.harts.items salvaged.strangers

-- The end by what is salvaged of these harts alone.
abbrev pub end_of_salvage_of : HartRange → Option MessageFault → Bool → Salvaged Global → Result Status Fault
end_of_salvage_of only why runs salvaged =
    end_of_salvaged why runs only.first (items_of only salvaged.harts.items) salvaged.strangers

-- What is salvaged of these harts of a capture is written in a format, as a summary or not, and the run ends by the
-- capture's header and by what is salvaged of them. Places, and bytes that belong to no frame, are those of the
-- capture.
pub record WritesSalvaged (only : HartRange) (format : Format) (asked : Option ℕ) (summary : Bool) (program : Image)
    (symbols : Option (List ℕ)) (bytes : List ℕ) (printed : Printed) : Type 0 where
  pub header : Option Header
  pub why : Option MessageFault
  pub salvaged : Salvaged Global
  pub found : IsSalvagedOf only asked program bytes header why salvaged
  pub text : printed.text ≡ salvaged_in format summary symbols only header (spans_of header bytes) salvaged
  pub ended : printed.ended ≡ end_of_salvage_of only why (list_any is_run (spans_of header bytes)) salvaged

-- The same, where the capture has one of these harts.
abbrev pub SalvagesOf : HartRange → Format → Option ℕ → Bool → Image → Option (List ℕ) → List ℕ → Printed → Type 0
SalvagesOf only format asked summary program symbols bytes =
    First (HasHartFound asked only bytes) (λ _. WritesSalvaged only format asked summary program symbols bytes)

-- The input of `salvage` is found.
abbrev pub IsSalvageInput : Content → Salvage → Result CaptureInput Fault → Type 0
IsSalvageInput content asked = IsCaptureInput content asked.format asked.program asked.only asked.symbols asked.capture

-- What is salvaged of an input is written, as it is asked for.
abbrev pub SalvagesInput : Salvage → CaptureInput → Printed → Type 0
SalvagesInput asked input =
    SalvagesOf input.only asked.format asked.harts asked.summary input.program input.symbols input.bytes

-- The input is found first. Where there is no fault, what is salvaged of it is written.
abbrev pub Salvages : Content → Salvage → Printed → Type 0
Salvages content asked = First (IsSalvageInput content asked) (SalvagesInput asked)

-- What is salvaged is written once the capture has one of these harts.
abbrev pub CanSalvageOf : HartRange → Option ℕ → List ℕ → Type 0
CanSalvageOf only asked bytes = Once (HasHartFound asked only bytes) (λ _. ⊤)

abbrev pub CanSalvageInput : Salvage → CaptureInput → Type 0
CanSalvageInput asked input = CanSalvageOf input.only asked.harts input.bytes

-- `salvage` writes once it has its input, and that has one of the harts.
abbrev pub CanSalvage : Content → Salvage → Type 0
CanSalvage content asked = Once (IsSalvageInput content asked) (CanSalvageInput asked)

-- What `salvage` means.
abbrev pub salvage_meaning : Salvage → Meaning
salvage_meaning asked = writing_at_once
    (format_base_or_only_fault asked.format (base_number asked.program) (asked_harts asked.only))
    (λ content. Salvages content asked) (λ content. CanSalvage content asked)
