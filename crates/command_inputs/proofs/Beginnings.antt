-- Prefixes of what is written.
use Rattle.std.proofs.Common.{inl, inr, ℕ, List, Option, Result}
use Rattle.std.specs.Io.KnownBytes.{Keeps}
use Rattle.output.specs.Begun.{AppendsBeginning}
use Rattle.output.proofs.Beginnings.{begun_kept}
use Rattle.command_inputs.specs.Begun.{BeginsPrinted, IsCutOf}
use Rattle.command_inputs.specs.Printed.{Printed}
use Rattle.command_inputs.specs.declared.fault.Fault.{Fault}
use Rattle.command_inputs.specs.declared.status.Status.{Status}

-- A prefix was appended of a text that may be printed.
pub printed_begun : {W : Type 0} (Prints : Printed W → Type 0) (text : List ℕ) (ended : Result Status (Fault W))
    (old new : Option (List ℕ))
    → Prints (record { text = text; ended = ended }) → AppendsBeginning text old new → BeginsPrinted Prints old new
printed_begun Prints text ended old new prints begun =
    record { printed = record { text = text; ended = ended }; prints = prints; begun = begun }

-- A prefix was appended of what may be printed, and then nothing more.
pub cut_kept : {W : Type 0} (First Prints : Printed W → Type 0) (old mid new : Option (List ℕ))
    → ((printed : Printed W) → First printed → Prints printed)
    → BeginsPrinted First old mid → Keeps mid new → BeginsPrinted Prints old new
cut_kept First Prints old mid new leads cut kept = record {
  printed = cut.printed;
  prints = leads cut.printed cut.prints;
  begun = begun_kept cut.printed.text old mid new cut.begun kept;
}

-- A cut of what a part of a run prints is one of what the run prints, where it leads there.
pub cut_leads : {W : Type 0} (First Prints : Printed W → Type 0) (old new : Option (List ℕ))
    → ((printed : Printed W) → First printed → Prints printed) → IsCutOf First old new → IsCutOf Prints old new
cut_leads First Prints old new leads (inl kept) = inl kept
cut_leads First Prints old new leads (inr cut) =
    inr (record { printed = cut.printed; prints = leads cut.printed cut.prints; begun = cut.begun })
