-- What `list --salvage` prints, from what was found.
use Rattle.std.proofs.Common.{◌≡◌, ◌∙◌, inr, refl, ℕ, ap, Bool, List, Ok, Option, Result}
use Rattle.std.specs.Io.KnownBytes.{Keeps}
use Rattle.output.proofs.Beginnings.{begun_kept}
use Rattle.output.specs.Begun.{AppendsBeginning}
use Rattle.message.specs.declared.range.HartRange.{HartRange}
use Rattle.rvclass.specs.Image.{Image}
use Rattle.salvaging.specs.declared.treatment.Treated.{Treated}
use Rattle.frames.specs.Start.{spans_of}
use Rattle.command_inputs.proofs.Beginnings.{printed_begun}
use Rattle.command_inputs.specs.Begun.{IsCutOf}
use Rattle.command_inputs.specs.declared.status.Status.{Status}
use Rattle.command_inputs.specs.declared.words.Format.{Format}
use Rattle.salvage_reports.proofs.OwnSpans.{runs_chosen}
use Rattle.salvage_reports.specs.HartRows.{in_rows}
use Rattle.capture_commands.specs.Faults.{Fault}
use Rattle.capture_commands.specs.ListedFormats.{form_of, treated_in}
use Rattle.capture_commands.specs.ListedSalvaged.{AreTreatedIn, TreatsHarts, messages_of}
use Rattle.capture_commands.specs.Salvaging.{end_of_salvage_of}
use Rattle.capture_commands.specs.steps.Reading.{IsFoundOf}
use Rattle.salvage_reports.specs.declared.found.Found.{Found}

module _ (format : Format) (rows : Bool) (only : HartRange) (asked : Option ℕ) (program : Image) (symbols : Option (List ℕ))
    (bytes : List ℕ) (found : Found) (is : IsFoundOf only asked program bytes found) (treated : List Treated)
    (done : AreTreatedIn only asked program found.header bytes treated) where
  abbrev text : List ℕ
  text =
      treated_in format rows only symbols found.header bytes
      (in_rows (form_of format rows) (messages_of only found.header bytes) treated)

  -- What is done with each message is printed, and the end is that of salvaging.
  pub treated_printed : (ended : Result Status Fault)
      → ended ≡ end_of_salvage_of found.only found.fault found.frames.runs found.salvaged
      → TreatsHarts format rows only asked program symbols bytes (record { text = text; ended = ended })
  treated_printed ended end = (
    Ok tt,
    is.has,
    record {
      header = found.header;
      why = found.fault;
      salvaged = found.salvaged;
      found = is.is.salvaged;
      treated = treated;
      done = done;
      text = refl;
      ended = end
          ∙ ap (λ (r : HartRange). end_of_salvage_of r found.fault found.frames.runs found.salvaged) is.is.only_is
          ∙ ap (λ b. end_of_salvage_of only found.fault b found.salvaged)
          (is.is.frames.runs ∙ runs_chosen only (spans_of found.header bytes));
    },
  )

  -- A beginning of it was written, and then nothing more.
  pub treated_cut : (old mid new : Option (List ℕ)) → AppendsBeginning text old mid → Keeps mid new
      → IsCutOf (TreatsHarts format rows only asked program symbols bytes) old new
  treated_cut old mid new begun kept =
      let ended = end_of_salvage_of found.only found.fault found.frames.runs found.salvaged in
      inr (printed_begun (TreatsHarts format rows only asked program symbols bytes) text ended old new
      (treated_printed ended refl) (begun_kept text old mid new begun kept))
