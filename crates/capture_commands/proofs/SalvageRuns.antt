-- What `salvage` prints, from what was found.
use Rattle.std.proofs.Common.{◌≡◌, inr, refl, ℕ, Bool, List, Option, Result, Ok, ap, subst, ◌∙◌}
use Rattle.std.specs.Io.KnownBytes.{Keeps}
use Rattle.frames.specs.declared.span.Span.{Span}
use Rattle.message.specs.declared.range.HartRange.{HartRange}
use Rattle.output.proofs.Beginnings.{begun_kept}
use Rattle.output.specs.Begun.{AppendsBeginning}
use Rattle.rvclass.specs.Image.{Image}
use Rattle.frames.specs.Start.{spans_of}
use Rattle.salvage_reports.proofs.OwnSpans.{runs_chosen}
use Rattle.salvage_reports.proofs.SameTexts.{text_same as same_texts}
use Rattle.salvage_reports.specs.Layouts.{found_as}
use Rattle.salvage_reports.specs.declared.found.Found.{Found}
use Rattle.command_inputs.specs.declared.words.Format.{Format}
use Rattle.command_inputs.proofs.Beginnings.{printed_begun}
use Rattle.command_inputs.specs.Begun.{IsCutOf}
use Rattle.capture_commands.specs.Faults.{Fault}
use Rattle.command_inputs.specs.declared.status.Status.{Status}
use Rattle.capture_commands.specs.SalvagedFormats.{layout_of, salvaged_in}
use Rattle.capture_commands.specs.Salvaging.{SalvagesOf, end_of_salvage_of}
use Rattle.capture_commands.specs.steps.Reading.{IsFoundOf}

module _ (only : HartRange) (format : Format) (asked : Option ℕ) (summary : Bool) (program : Image)
    (symbols : Option (List ℕ)) (bytes : List ℕ) (found : Found) (is : IsFoundOf only asked program bytes found) where
  abbrev spans : List Span
  spans = spans_of found.header bytes

  abbrev text : List ℕ
  text = salvaged_in format summary symbols only found.header spans found.salvaged

  pub text_same : found_as (layout_of format summary) symbols found bytes ≡ text
  text_same = same_texts only asked program bytes found is.is (layout_of format summary) symbols

  -- What is salvaged is printed, and the end is that of salvaging.
  pub salvaged_printed : (ended : Result Status Fault)
      → ended ≡ end_of_salvage_of found.only found.fault found.frames.runs found.salvaged
      → SalvagesOf only format asked summary program symbols bytes (record { text = text; ended = ended })
  salvaged_printed ended end = (
    Ok tt,
    is.has,
    record {
      header = found.header;
      why = found.fault;
      salvaged = found.salvaged;
      found = is.is.salvaged;
      text = refl;
      ended = end
          ∙ ap (λ (r : HartRange). end_of_salvage_of r found.fault found.frames.runs found.salvaged) is.is.only_is
          ∙ ap (λ b. end_of_salvage_of only found.fault b found.salvaged)
          (is.is.frames.runs ∙ runs_chosen only spans);
    },
  )

  -- A beginning of it was written, and then nothing more.
  pub salvaged_cut : (old mid new : Option (List ℕ))
      → AppendsBeginning (found_as (layout_of format summary) symbols found bytes) old mid
      → Keeps mid new → IsCutOf (SalvagesOf only format asked summary program symbols bytes) old new
  salvaged_cut old mid new begun kept =
      let ended = end_of_salvage_of found.only found.fault found.frames.runs found.salvaged in
      inr (printed_begun (SalvagesOf only format asked summary program symbols bytes) text ended old new
      (salvaged_printed ended refl)
      (begun_kept text old mid new (subst (λ l. AppendsBeginning l old mid) text_same begun) kept))
