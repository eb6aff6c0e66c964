-- What a run prints that finds its input first, and the order of the faults that are found before any file is read.
use Rattle.std.proofs.Common.{◌≡◌, ◌∙◌, ◌⊎◌, inl, inr, refl, sym, subst, ℕ, List, Option, Some, None, Result, Ok, Err}
use Rattle.std.specs.Prelude.{IfSome}
use Rattle.message.specs.declared.range.HartRange.{HartRange}
use Rattle.command_inputs.specs.declared.words.Format.{Format}
use Rattle.command_inputs.specs.declared.words.Format.TheVariants.{Csv, Other, Text}
use Rattle.command_inputs.specs.Begun.{IsCutOf}
use Rattle.command_inputs.specs.Order.{format_base_or_only_fault, format_or_base_fault, only_fault}
use Rattle.command_inputs.specs.Printed.{First, PrintsUnlessDenied}
use Rattle.command_inputs.proofs.Beginnings.{cut_leads}
use Rattle.command_inputs.proofs.Runs.{ends_silently, leads_on}
use Rattle.command_inputs.specs.declared.fault.Fault.TheVariants as fault
use Rattle.command_inputs.specs.declared.status.Status.{Status}
use Rattle.capture_commands.specs.CaptureInput.{CaptureInput}
use Rattle.capture_commands.specs.Faults.{Fault, Once, Printed}
use Rattle.capture_commands.specs.declared.reason.CaptureReason.{CaptureReason}

module _ {A : Type 0} (format : Format) (base : Option ℕ) (only : Option HartRange) (ended : Result A Fault) where
  abbrev Early : Option Fault → Type 0
  Early seen = IfSome seen (λ fault. ended ≡ Err fault)

  -- A fault of the format or of the base comes first.
  pub early_base : (why : Fault) → format_or_base_fault format base ≡ Some why → ended ≡ Err why
      → Early (format_base_or_only_fault format base only)
  early_base why seen is = subst Early (sym (first format base only why seen)) is
    where
      first : (format : Format) (base : Option ℕ) (only : Option HartRange) (why : Fault)
          → format_or_base_fault format base ≡ Some why → format_base_or_only_fault format base only ≡ Some why
      first Other base only why is = is
      first Text None only why is = is
      first Csv None only why is = is
      first Text (Some base) only why is = cc
      first Csv (Some base) only why is = cc

  module _ (none : format_or_base_fault {W = CaptureReason} format base ≡ None) where
    -- Where there is none, it is that of the harts.
    next : format_base_or_only_fault {W = CaptureReason} format base only ≡ only_fault only
    next = go format base only none
      where
        go : (format : Format) (base : Option ℕ) (only : Option HartRange)
            → format_or_base_fault {W = CaptureReason} format base ≡ None
            → format_base_or_only_fault {W = CaptureReason} format base only ≡ only_fault only
        go Other base only none = cc
        go Text None only none = cc
        go Csv None only none = cc
        go Text (Some base) only none = refl
        go Csv (Some base) only none = refl

    pub early_only : (why : Fault) → only_fault only ≡ Some why → ended ≡ Err why
        → Early (format_base_or_only_fault format base only)
    early_only why seen is = subst Early (sym (next ∙ seen)) is

    pub early_none : only_fault {W = CaptureReason} only ≡ None → Early (format_base_or_only_fault format base only)
    early_none seen = subst Early (sym (next ∙ seen)) tt

-- In both cases it holds.
pub in_either : {A B C : Type 0} → (A → C) → (B → C) → A ⊎ B → C
in_either one other (inl a) = one a
in_either one other (inr b) = other b

module _ (Finds : Result CaptureInput Fault → Type 0) (Prints : CaptureInput → Printed → Type 0)
    (Can : CaptureInput → Type 0) (old : Option (List ℕ)) where
  -- There is no input.
  pub no_input : (why : Fault) (ended : Result Status Fault) → ended ≡ Err why → (why ≡ fault.Memory) ⊎ Finds (Err why)
      → PrintsUnlessDenied (First Finds Prints) (Once Finds Can) ended old old
  no_input why ended is lacked =
      ends_silently (First Finds Prints) (Once Finds Can) (Finds (Err why)) why ended old is lacked
      (λ none. (Err why, none, refl))

  module _ (new : Option (List ℕ)) (lent owned : CaptureInput) (same : lent ≡ owned) (found : Finds (Ok owned)) where
    -- What is printed of the input that is lent is what the run prints.
    pub input_leads : (printed : Printed) → Prints lent printed → First Finds Prints printed
    input_leads printed prints = (Ok owned, found, subst (λ input. Prints input printed) same prints)

    pub input_printed : (ended : Result Status Fault) → PrintsUnlessDenied (Prints lent) (Can lent) ended old new
        → PrintsUnlessDenied (First Finds Prints) (Once Finds Can) ended old new
    input_printed ended =
        leads_on (Prints lent) (First Finds Prints) (Can lent) (Once Finds Can) ended old new input_leads
        (λ can. (owned, found, subst Can same can))

    -- And a cut of it is one of that.
    pub input_cut : IsCutOf (Prints lent) old new → IsCutOf (First Finds Prints) old new
    input_cut = cut_leads (Prints lent) (First Finds Prints) old new input_leads
