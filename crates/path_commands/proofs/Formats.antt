-- What `audit` prints, from the format and the harts that are asked for.
use Rattle.std.proofs.Common.{◌≡◌, ap, inl, inr, refl, subst, sym, Bool, false, true, List, ℕ, Option, Some, None, Result}
use Rattle.std.proofs.Common.{Ok, Err}
use Rattle.std.proofs.KnownBytes.{Keeps-refl}
use Rattle.std.specs.Io.KnownBytes.{Keeps}
use Rattle.std.specs.Prelude.{◌⊎◌, IfErr, IfSome}
use Rattle.command_inputs.specs.OnlyHarts.{asked_harts}
use Rattle.log_streams.specs.Known.{Content}
use Rattle.message.specs.declared.range.HartRange.{HartRange}
use Rattle.command_inputs.specs.declared.words.Audit.{Audit}
use Rattle.command_inputs.specs.declared.words.Format.{Format}
use Rattle.command_inputs.specs.declared.words.Format.TheVariants.{Csv, Other, Text}
use Rattle.command_inputs.proofs.Beginnings.{cut_leads}
use Rattle.command_inputs.proofs.Runs.{ends_silently, leads_on}
use Rattle.command_inputs.specs.Begun.{BeginsPrinted, IsCutOf}
use Rattle.command_inputs.specs.Found.{IsFormat}
use Rattle.command_inputs.specs.OnlyHarts.{IsOnly}
use Rattle.command_inputs.specs.Order.{format_fault, format_or_only_fault, only_fault}
use Rattle.command_inputs.specs.Printed.{PrintsUnlessDenied}
use Rattle.command_inputs.specs.declared.fault.Fault.TheVariants as fault
use Rattle.command_inputs.specs.declared.status.Status.{Status}
use Rattle.path_commands.specs.Audited.{Audits, AuditsAs, AuditsAsked, AuditsBy, AuditsHarts, CanAudit, CanAuditAs}
use Rattle.path_commands.specs.Audited.{CanAuditAsked, CanAuditHarts, Writes, early_fault, fault_or}
use Rattle.path_commands.specs.Faults.{Fault, Printed}
use Rattle.path_commands.specs.Followed.{IsLive, live_at}
use Rattle.path_commands.specs.declared.reason.PathReason.{PathReason}

-- A fault is none.
never_none : (why : Fault) → Some why ≡ None → ⊥
never_none why e = cc

-- The first fault, where the argument names no format.
pub no_format : (format : Format) (harts : Option HartRange) (why : Fault) → format_fault format ≡ Some why
    → format_or_only_fault format harts ≡ Some why
no_format Other harts why is = is
no_format Csv harts why is = absurd (never_none why (sym is))
no_format Text harts why is = absurd (never_none why (sym is))

-- And where it names one: that of the harts.
pub format_named : (format : Format) (harts : Option HartRange) → format_fault {W = PathReason} format ≡ None
    → format_or_only_fault {W = PathReason} format harts ≡ only_fault harts
format_named Other harts none = absurd (never_none fault.Format none)
format_named Csv harts none = refl
format_named Text harts none = refl

module _ (content : Content) (asked : Audit) where
  -- The argument names no format.
  pub format_refused : (why : Fault) (ended : Result Status Fault) (old : Option (List ℕ))
      → IsFormat asked.format (Err why) → ended ≡ Err why
      → PrintsUnlessDenied (Audits content asked) (CanAudit content asked) ended old old
  format_refused why ended old found is =
      ends_silently (Audits content asked) (CanAudit content asked) (IsFormat asked.format (Err why)) why ended old is
      (inr found) (λ found. (Err why, found, refl))

  module _ (found : IsFormat {W = PathReason} asked.format (Ok tt)) where
    -- The argument is no range of harts.
    pub only_refused : (why : Fault) (ended : Result Status Fault) (old : Option (List ℕ))
        → IsOnly asked.only (Err why) → ended ≡ Err why
        → PrintsUnlessDenied (Audits content asked) (CanAudit content asked) ended old old
    only_refused why ended old none is =
        ends_silently (Audits content asked) (CanAudit content asked) (IsOnly asked.only (Err why)) why ended old is
        (inr none) (λ none. (Ok tt, found, (Err why, none, refl)))

    module _ (harts : HartRange) (only : IsOnly {W = PathReason} asked.only (Ok harts)) where
      leads : (printed : Printed) → AuditsAsked content asked harts printed → Audits content asked printed
      leads printed prints = (Ok tt, found, (Ok harts, only, prints))

      -- What is printed of these harts is what `audit` prints.
      pub only_printed : (ended : Result Status Fault) (old new : Option (List ℕ))
          → PrintsUnlessDenied (AuditsAsked content asked harts) (CanAuditAsked content asked harts) ended old new
          → PrintsUnlessDenied (Audits content asked) (CanAudit content asked) ended old new
      only_printed ended old new printed =
          leads_on (AuditsAsked content asked harts) (Audits content asked) (CanAuditAsked content asked harts)
          (CanAudit content asked) ended old new leads (λ can. (harts, only, can)) printed

      -- And so is a cut of it.
      pub only_cut : (old new : Option (List ℕ)) → IsCutOf (AuditsAsked content asked harts) old new
          → IsCutOf (Audits content asked) old new
      only_cut old new cut =
          cut_leads (AuditsAsked content asked harts) (Audits content asked) old new leads cut

module _ (content : Content) (asked : Audit) (harts : HartRange) (unnumbered : Bool)
    (is : asked.unnumbered ≡ unnumbered) where
  chosen : (printed : Printed) → AuditsBy (Writes asked.format unnumbered asked harts) content asked harts printed
      → AuditsHarts content asked harts printed
  chosen printed prints =
      subst (λ flag. AuditsBy (Writes asked.format flag asked harts) content asked harts printed) (sym is) prints

  -- What is printed by numbers, or by payloads alone, is what is asked for.
  pub chosen_printed : (ended : Result Status Fault) (old new : Option (List ℕ))
      → PrintsUnlessDenied (AuditsBy (Writes asked.format unnumbered asked harts) content asked harts)
      (CanAuditHarts content asked harts) ended old new
      → PrintsUnlessDenied (AuditsHarts content asked harts) (CanAuditHarts content asked harts) ended old new
  chosen_printed ended old new printed =
      leads_on (AuditsBy (Writes asked.format unnumbered asked harts) content asked harts)
      (AuditsHarts content asked harts)
      (CanAuditHarts content asked harts) (CanAuditHarts content asked harts) ended old new chosen (λ can. can) printed

  pub chosen_cut : (old new : Option (List ℕ))
      → IsCutOf (AuditsBy (Writes asked.format unnumbered asked harts) content asked harts) old new
      → IsCutOf (AuditsHarts content asked harts) old new
  chosen_cut old new cut =
      cut_leads (AuditsBy (Writes asked.format unnumbered asked harts) content asked harts)
      (AuditsHarts content asked harts) old new chosen cut

-- The first fault is that of the format or of the harts, where there is one.
pub early_is : (asked : Audit) (why : Fault) → format_or_only_fault asked.format (asked_harts asked.only) ≡ Some why
    → early_fault asked ≡ Some why
early_is asked why is = ap (λ first. fault_or first (live_at asked)) is

-- And where there is none, that of what does not go together.
live_early : (ended : Result Status Fault) (found : Result (Unit {0}) Fault) → IfErr found (λ why. ended ≡ Err why)
    → IfSome (fault_or None found) (λ why. ended ≡ Err why)
live_early ended (Ok done) early = tt
live_early ended (Err why) early = early

pub early_live : (asked : Audit) (ended : Result Status Fault)
    → format_or_only_fault {W = PathReason} asked.format (asked_harts asked.only) ≡ None
    → IfErr (live_at asked) (λ why. ended ≡ Err why) → IfSome (early_fault asked) (λ why. ended ≡ Err why)
early_live asked ended none early =
    subst (λ first. IfSome (fault_or first (live_at asked)) (λ why. ended ≡ Err why)) (sym none)
    (live_early ended (live_at asked) early)

-- What was found of what goes together says what the run ends at.
pub ends_live : (asked : Audit) (ended : Result Status Fault) (found : Result (Unit {0}) Fault) → IsLive asked found
    → IfErr found (λ why. ended ≡ Err why) → IfErr (live_at asked) (λ why. ended ≡ Err why)
ends_live asked ended found is early = subst (λ found. IfErr found (λ why. ended ≡ Err why)) is early

-- An output that is as it was keeps its bytes.
pub same_keeps : {O : Type 0} (contents : O → Option (List ℕ)) (old new : O) → new ≡ old
    → Keeps (contents old) (contents new)
same_keeps contents old new same =
    subst (λ new. Keeps (contents old) (contents new)) (sym same) (Keeps-refl (contents old))

-- Where allocation fails, nothing or a prefix was written, and a prefix only while messages come.
pub begun_live : (Prints : Printed → Type 0) (old new : Option (List ℕ)) (live is : Bool) → live ≡ is
    → (live ≡ false → Keeps old new) → IsCutOf Prints old new
    → Keeps old new ⊎ ((live ≡ true) × BeginsPrinted Prints old new)
begun_live Prints old new live false is kept cut = inl (kept is)
begun_live Prints old new live true is kept (inl same) = inl same
begun_live Prints old new live true is kept (inr begun) = inr (is, begun)

module _ (content : Content) (asked : Audit) (harts : HartRange) where
  -- What is asked for does not go together.
  pub live_refused : (why : Fault) (ended : Result Status Fault) (old : Option (List ℕ)) → IsLive asked (Err why)
      → ended ≡ Err why
      → PrintsUnlessDenied (AuditsAsked content asked harts) (CanAuditAsked content asked harts) ended old old
  live_refused why ended old found is =
      ends_silently (AuditsAsked content asked harts) (CanAuditAsked content asked harts) (IsLive asked (Err why)) why
      ended old is (inr found) (λ found. (Err why, found, refl))

  module _ (found : IsLive asked (Ok tt)) (live : Bool) (is : asked.live ≡ live) where
    as_asked : (printed : Printed) → AuditsAs live content asked harts printed → AuditsAsked content asked harts printed
    as_asked printed prints =
        (Ok tt, found, subst (λ live. AuditsAs live content asked harts printed) (sym is) prints)

    -- What is printed while messages come, or once both are read, is what is asked for.
    pub asked_printed : (ended : Result Status Fault) (old new : Option (List ℕ))
        → PrintsUnlessDenied (AuditsAs live content asked harts) (CanAuditAs live content asked harts) ended old new
        → PrintsUnlessDenied (AuditsAsked content asked harts) (CanAuditAsked content asked harts) ended old new
    asked_printed ended old new printed =
        leads_on (AuditsAs live content asked harts) (AuditsAsked content asked harts)
        (CanAuditAs live content asked harts) (CanAuditAsked content asked harts) ended old new as_asked
        (λ can. (tt, found, subst (λ live. CanAuditAs live content asked harts) (sym is) can)) printed

    pub asked_cut : (old new : Option (List ℕ)) → IsCutOf (AuditsAs live content asked harts) old new
        → IsCutOf (AuditsAsked content asked harts) old new
    asked_cut old new cut =
        cut_leads (AuditsAs live content asked harts) (AuditsAsked content asked harts) old new as_asked cut
