-- What a collector has of messages that workers sent, with one message more.
use Rattle.std.proofs.Common.{◌≡◌, ◌⊎◌, ◌∙◌, inl, inr, ℕ, List, [], ◌∷◌, ◌++◌, Some, length, slice_get, sym, ap}
use Rattle.std.proofs.Common.{subst}
use Rattle.std.specs.Prelude.{Result}
use Rattle.std.proofs.lemmas.Bool.{cases_eq}
use Rattle.std.proofs.lemmas.List.{length_push}
use Rattle.legalpath.specs.ProgramLog.{ProgramLog}
use Rattle.message.proofs.OfHartLemmas.{of_hart-next, of_hart-other}
use Rattle.message.specs.OfHart.{of_hart}
use Rattle.message.specs.declared.message.Message.{Message}
use Rattle.bench.specs.Collected.{Collected}
use Rattle.bench.specs.declared.config.Config.{Config}
use Rattle.bench.specs.declared.collecting.CollectFault.{CollectFault}
use Rattle.bench.specs.steps.Gathering.{AreGathered, IsGathered}
use Rattle.bench.specs.steps.Taking.{IsCutOff, IsTakenOf}
use Rattle.bench.specs.TakesMessage.{TakesMessage}
use Rattle.bench.proofs.TakingIn.{cut_off_stays, other_cut_off, other_taken, own_taken}
use Rattle.bench.proofs.WorkLemmas.{carry_front, carry_last}

module _ (config : Config) (message : Message) (result : Result (Unit {0}) CollectFault)
    (old new : Collected) (takes : TakesMessage message result old new) (started : List ℕ) where
  -- Of the message's hart there is one more.
  own_more : (log : ProgramLog) (own : List Message) → message.number ≡ length own
      → IsGathered config log started own message.hart old
      → IsGathered config log started (own ++ message ∷ []) message.hart new
  own_more log own number (inl runs) = inl (
    runs.0,
    λ first. subst (λ n. IsTakenOf config.period config.mode log n message.hart new) (sym (length_push own message))
        (own_taken message result old new takes config.period config.mode (length own) log
        (record { number = number; payload = carry_last config.period config.mode log own message first })
        (runs.1 (carry_front config.period config.mode log own (message ∷ []) first))),
  )
  own_more log own number (inr cut) =
      inr (subst (λ n. IsCutOff config.period config.mode log n message.hart new) (sym (length_push own message))
      (cut_off_stays message result old new takes config.period config.mode (length own) log cut))

  -- Of another there are as many.
  other_more : (hart : ℕ) (log : ProgramLog) (own : List Message) → (hart ≡ message.hart → ⊥)
      → IsGathered config log started own hart old → IsGathered config log started own hart new
  other_more hart log own other (inl runs) = inl (
    runs.0,
    λ first.
        other_taken message result old new takes config.period config.mode hart (length own) log other (runs.1 first),
  )
  other_more hart log own other (inr cut) =
      inr (other_cut_off message result old new takes config.period config.mode hart (length own) log other cut)

  pub gathered_more : (logs : List ProgramLog) (taken : List Message)
      → AreGathered config logs started taken old → message.number ≡ length (of_hart message.hart taken)
      → AreGathered config logs started (taken ++ message ∷ []) new
  gathered_more logs taken came number = record {
    own = takes.logs.0 ∙ came.own;
    each = λ hart log at. by_hart hart log at (cases_eq hart message.hart);
  }
    where
      by_hart : (hart : ℕ) (log : ProgramLog) → slice_get logs hart ≡ Some log
          → (hart ≡ message.hart) ⊎ (hart ≡ message.hart → ⊥)
          → IsGathered config log started (of_hart hart (taken ++ message ∷ [])) hart new
      by_hart hart log at (inl same) =
          subst (λ h. IsGathered config log started (of_hart h (taken ++ message ∷ [])) h new) (sym same)
          (subst (λ own. IsGathered config log started own message.hart new) (sym (of_hart-next taken message))
          (own_more log (of_hart message.hart taken) number
          (came.each message.hart log (ap (slice_get logs) (sym same) ∙ at))))
      by_hart hart log at (inr other) =
          subst (λ own. IsGathered config log started own hart new)
          (sym (of_hart-other hart taken message (λ same. other (sym same))))
          (other_more hart log (of_hart hart taken) other (came.each hart log at))
