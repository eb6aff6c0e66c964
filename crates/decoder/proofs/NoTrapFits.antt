-- No trap and handler fit where the trap or the handler does not.
use Rattle.std.proofs.Common.{◌≡◌, ℕ, true, [], ◌∷◌, Option, Some, None, refl, sym, subst, ◌∙◌}
use Rattle.retire.specs.declared.event.Event.{Event}
use Rattle.retire.specs.declared.event.Event.TheVariants.{Trap}
use Rattle.rvclass.specs.Words.{Words}
use Rattle.legalpath.proofs.EventLemmas.{stand_together, keep_privilege}
use Rattle.legalpath.specs.Legal.{FollowOn}
use Rattle.decoder.specs.Fits.{FitsSync}
use Rattle.decoder.specs.steps.Stretches.{SuitsOne, SuitsNone}
use Rattle.decoder.specs.steps.Reporting.{FitsReported, IsHandled}
use Rattle.decoder.specs.declared.fault.DecodeFault.{DecodeFault}
use Rattle.decoder.specs.declared.reporting.Cause.{Cause}
use Rattle.decoder.specs.declared.reporting.Reported.{Reported}

-- Traps with one cause after one retirement that leads to one address are the same.
same_trap : (words : Words) (before : Option Event) (cause : Cause) (trap : Event) (epc from : ℕ) →
    IsHandled words before cause (trap ∷ []) → FollowOn words before (trap ∷ []) →
    FollowOn words before (Trap from cause.interrupt cause.cause epc cause.tval ∷ []) →
    Trap from cause.interrupt cause.cause epc cause.tval ≡ trap
same_trap words None cause trap epc from is follows other = absurd is.0
same_trap words (Some before) cause trap epc from (after, epc', from', is) follows other =
    let here = Trap from cause.interrupt cause.cause epc cause.tval in
    let there = Trap from' cause.interrupt cause.cause epc' cause.tval in
    let same : trap ≡ there = cc in
    let ran : FollowOn words (Some before) (there ∷ []) =
    subst (λ e. FollowOn words (Some before) (e ∷ [])) same follows in
    let at : epc ≡ epc' = stand_together words before here there after.0 after.1 other.1 ran.1 in
    let level : from ≡ from' = keep_privilege words before here after.0 after.1 other.1
    ∙ sym (keep_privilege words before there after.0 after.1 ran.1) in
    cc

module _ (words : Words) (before : Option Event) (reported : Reported) (cause : Cause) where
  pub no_trap : (fault : DecodeFault) → SuitsNone words before (IsHandled words before cause) fault →
      SuitsNone words before (FitsReported words before reported cause true) fault
  no_trap fault none = record {
    named = none.named;
    none = λ right events fits follows.
        let (after, epc, from, event, is, is_reported) = fits in
        let ran : FollowOn words before (Trap from cause.interrupt cause.cause epc cause.tval ∷ event ∷ []) =
        subst (FollowOn words before) is follows in
        none.none right (Trap from cause.interrupt cause.cause epc cause.tval ∷ []) (after, epc, from, refl)
        (ran.0, ran.1, tt);
  }

  pub no_handler : (trap : Event) (fault : DecodeFault) → SuitsOne words before (IsHandled words before cause)
      (trap ∷ []) → SuitsNone words (Some trap) (FitsSync reported.taken reported.privilege reported.addr) fault →
      SuitsNone words before (FitsReported words before reported cause true) fault
  no_handler trap fault one none = record {
    named = none.named;
    none = λ right events fits follows.
        let (after, epc, from, event, is, is_reported) = fits in
        let found = one right in
        let ran : FollowOn words before (Trap from cause.interrupt cause.cause epc cause.tval ∷ event ∷ []) =
        subst (FollowOn words before) is follows in
        let same = same_trap words before cause trap epc from found.0 found.1 (ran.0, ran.1, tt) in
        none.none found.1.0 (event ∷ []) (event, refl, is_reported)
        (subst (λ e. FollowOn words (Some e) (event ∷ [])) same ran.2);
  }
