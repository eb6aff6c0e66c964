-- Senders that sent nothing, with one more.
use Rattle.std.proofs.Common.{◌≡◌, ◌+◌, ◌⊎◌, inl, inr, ℕ, List, [], ◌∷◌, ◌++◌, Some, length, slice_get, take, sym}
use Rattle.std.proofs.Common.{ap, subst, ◌∙◌}
use Rattle.std.proofs.lemmas.List.{length_push}
use Rattle.legalpath.specs.ProgramLog.{ProgramLog}
use Rattle.payload.specs.declared.mode.Mode.{Mode}
use Rattle.message.proofs.Elements.{slice_get-behind}
use Rattle.funnel.proofs.Places.{slice_get-front, slice_get-next}
use Rattle.bench.specs.declared.sender.Sender.{Sender}
use Rattle.bench.specs.steps.Sending.{AreNewSenders, sender_at}
use Rattle.bench.proofs.CollectedLemmas.{take-next}

module _ {B : Type 0} (period : ℕ) (mode : Mode) where
  -- With the sender of one log more.
  new_senders-push : (logs : List ProgramLog) (senders : List (Sender B)) (log : ProgramLog) (sender : Sender B)
      → AreNewSenders period mode logs senders → sender ≡ sender_at period mode log 0
      → AreNewSenders period mode (logs ++ log ∷ []) (senders ++ sender ∷ [])
  new_senders-push logs senders log sender are is = record {
    count = length_push senders sender ∙ ap (λ n. n + 1) are.count ∙ sym (length_push logs log);
    each = λ hart its at. by_place hart its (slice_get-next logs log hart its at);
  }
    where
      by_place : (hart : ℕ) (its : ProgramLog)
          → (slice_get logs hart ≡ Some its) ⊎ ((hart ≡ length logs) × (log ≡ its))
          → slice_get (senders ++ sender ∷ []) hart ≡ Some (sender_at period mode its 0)
      by_place hart its (inl before) =
          slice_get-front senders (sender ∷ []) hart (sender_at period mode its 0) (are.each hart its before)
      by_place hart its (inr here) =
          ap (slice_get (senders ++ sender ∷ [])) (here.0 ∙ sym are.count)
          ∙ slice_get-behind senders sender []
          ∙ ap Some is
          ∙ ap (λ (l : ProgramLog). Some (sender_at period mode l 0)) here.1

  pub new_senders-next : (logs : List ProgramLog) (senders : List (Sender B)) (place : ℕ) (log : ProgramLog)
      (sender : Sender B)
      → AreNewSenders period mode (take place logs) senders → slice_get logs place ≡ Some log
      → sender ≡ sender_at period mode log 0
      → AreNewSenders period mode (take (place + 1) logs) (senders ++ sender ∷ [])
  new_senders-next logs senders place log sender are at is =
      subst (λ some. AreNewSenders period mode some (senders ++ sender ∷ [])) (sym (take-next logs place log at))
      (new_senders-push (take place logs) senders log sender are is)
