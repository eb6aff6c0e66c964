-- How a comparison ends, once its report is written.
use Rattle.std.proofs.Common.{◌≡◌, ◌∙◌, ap, inr, subst, sym, Bool, ℕ, List, Option}
use Rattle.std.proofs.Common.{Result, Ok, Err}
use Rattle.std.specs.Io.KnownBytes.{Appends, Keeps}
use Rattle.std.specs.Prelude.{⊤, is_none}
use Rattle.captures.specs.declared.outcome.CaptureFault.{CaptureFault}
use Rattle.capture_commands.specs.Faults.{Fault}
use Rattle.command_inputs.proofs.Runs.{appends-keeps}
use Rattle.command_inputs.specs.Printed.{PrintsUnlessDenied}
use Rattle.command_inputs.specs.declared.status.Status.{Status}
use Rattle.comparing.specs.Explained.{are_whole_sourced, explained_text}
use Rattle.comparing.specs.declared.sourcing.SourcedHart.{SourcedHart}
use Rattle.capture_commands.specs.Comparison.{comparison_end, end_of_stop}
use Rattle.capture_commands.specs.steps.Lines.{WritesLines}

module _ (before : Bool) (symbols : Option (List ℕ)) (stop : Option (ℕ × CaptureFault)) (harts : List SourcedHart)
    (old mid new : Option (List ℕ)) (text : Appends old mid (explained_text before symbols stop harts))
    (kept : Keeps mid new) where
  abbrev written : List ℕ
  written = explained_text before symbols stop harts

  abbrev is_whole : Bool
  is_whole = are_whole_sourced (is_none stop) harts

  -- The run ends at the fault at which decoding stops.
  pub ends_at_stop : (why : Fault) (ended : Result Status Fault) → ended ≡ Err why → end_of_stop stop ≡ Err why
      → PrintsUnlessDenied (WritesLines before symbols stop harts) ⊤ ended old new
  ends_at_stop why ended is end =
      subst (λ ended. PrintsUnlessDenied (WritesLines before symbols stop harts) ⊤ ended old new) (sym is)
      (inr (record {
        text = written;
        prints = ap (λ end. record { text = written; ended = comparison_end end is_whole }) (sym end);
        appended = appends-keeps old mid new written text kept;
      }))

  -- Or with the status by whether it is whole.
  pub ends_well : (u : Unit {0}) (whole : Bool) (status : Status) → end_of_stop stop ≡ Ok u → whole ≡ is_whole
      → comparison_end (Ok u) whole ≡ Ok status
      → PrintsUnlessDenied (WritesLines before symbols stop harts) ⊤ (Ok status) old new
  ends_well u whole status end same is = record {
    text = written;
    prints = ap (λ ended. record { text = written; ended = ended })
        (sym is ∙ ap (comparison_end (Ok u)) same ∙ ap (λ end. comparison_end end is_whole) (sym end));
    appended = appends-keeps old mid new written text kept;
  }
