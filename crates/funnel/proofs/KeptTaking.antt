-- Taking the front message keeps what every state of the funnel machine keeps.
use Rattle.std.proofs.Common.{◌≡◌, ℕ, List, [], ◌∷◌, ◌++◌, length, refl, sym, ap, ◌∙◌, arith}
use Rattle.std.proofs.lemmas.List.{append_assoc}
use Rattle.message.proofs.OfHartLemmas.{of_hart-append}
use Rattle.message.specs.OfHart.{of_hart}
use Rattle.message.specs.declared.message.Message.{Message}
use Rattle.funnel.specs.Machine.{Funnel, take_front, take_of}
use Rattle.funnel.proofs.Kept.{Keeps}

-- A hart's messages, whether the front one was taken or waits.
of_hart-moved : (hart : ℕ) (taken : List Message) (front : Message) (rest : List Message)
    → of_hart hart taken ++ of_hart hart (front ∷ rest) ≡ of_hart hart (taken ++ front ∷ []) ++ of_hart hart rest
of_hart-moved hart taken front rest =
    ap (λ waits. of_hart hart taken ++ waits) (of_hart-append hart (front ∷ []) rest)
    ∙ sym (append_assoc (of_hart hart taken) (of_hart hart (front ∷ [])) (of_hart hart rest))
    ∙ ap (λ more. more ++ of_hart hart rest) (sym (of_hart-append hart taken (front ∷ [])))

module _ (capacity : ℕ) (payloads : List (List (List ℕ))) (state : Funnel) (keeps : Keeps capacity payloads state) where
  pub take_front-keeps : Keeps capacity payloads (take_front state)
  take_front-keeps = by_queue state.queue refl
    where
      by_queue : (queue : List Message) → state.queue ≡ queue → Keeps capacity payloads (take_of queue state)
      by_queue [] empty = keeps
      by_queue (front ∷ rest) waits = record {
        places = keeps.places;
        room = let counted = ap length waits in omega (arith, counted, keeps.room);
        whole = λ hart.
            keeps.whole hart
            ∙ ap (λ queue. of_hart hart state.taken ++ of_hart hart queue) waits
            ∙ of_hart-moved hart state.taken front rest;
        nth = keeps.nth;
      }
