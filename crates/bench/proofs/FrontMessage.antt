-- The front message of the funnel machine is the next of its hart.
use Rattle.std.proofs.Common.{◌≡◌, ℕ, List, [], ◌∷◌, ◌++◌, Some, length, map, slice_get, refl, ap, ◌∙◌}
use Rattle.legalpath.specs.ProgramLog.{ProgramLog}
use Rattle.payload.specs.declared.mode.Mode.{Mode}
use Rattle.encoder.specs.Payloads.{payloads}
use Rattle.message.proofs.Elements.{slice_get-behind}
use Rattle.message.proofs.OfHartLemmas.{of_hart-own}
use Rattle.message.specs.OfHart.{of_hart}
use Rattle.message.specs.declared.message.Message.{Message}
use Rattle.funnel.proofs.Kept.{Keeps}
use Rattle.funnel.specs.Machine.{Funnel, sent_by}
use Rattle.bench.specs.steps.Taking.{IsFrontNext, IsNext}
use Rattle.bench.proofs.OwnPayloads.{has_log}

module _ (period : ℕ) (mode : Mode) (capacity : ℕ) (logs : List ProgramLog) (state : Funnel)
    (keeps : Keeps capacity (map (payloads period mode) logs) state) where
  next_of : (message : Message) (rest : List Message) → state.queue ≡ message ∷ rest
      → IsNext period mode logs state.taken message
  next_of message rest waits =
      let hart = message.hart in
      let taken = of_hart hart state.taken in
      let sent : slice_get (sent_by hart state) (length taken) ≡ Some message =
      ap (λ sent. slice_get sent (length taken))
      (keeps.whole hart
      ∙ ap (λ queue. taken ++ of_hart hart queue) waits
      ∙ ap (λ more. taken ++ more) (of_hart-own message rest))
      ∙ slice_get-behind taken message (of_hart hart rest) in
      let nth = keeps.nth hart (length taken) message sent in
      let has = has_log period mode hart (length taken) logs message.payload nth.payload in
      record { log = has.log; known = has.known; own = record { number = nth.number; payload = has.own } }

  pub front_next : IsFrontNext period mode logs state.taken state.queue
  front_next = by_queue state.queue refl
    where
      by_queue : (queue : List Message) → state.queue ≡ queue → IsFrontNext period mode logs state.taken queue
      by_queue [] empty = tt
      by_queue (message ∷ rest) waits = next_of message rest waits
