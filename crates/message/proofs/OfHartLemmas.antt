-- The messages of one hart, where more messages stand behind them.
use Rattle.std.proofs.Common.{◌≡◌, ◌≢◌, ℕ, List, [], ◌∷◌, ◌++◌, cond, eqb, refl, ap, ◌∙◌}
use Rattle.std.proofs.lemmas.Bool.{eq-eqb, ne_eqb}
use Rattle.std.proofs.lemmas.List.{append-nil}
use Rattle.std.proofs.lemmas.List.Elements.{filter-append}
use Rattle.message.specs.OfHart.{of_hart}
use Rattle.message.specs.declared.message.Message.{Message}

-- The messages of a hart among first ones and more behind them.
pub of_hart-append : (hart : ℕ) (front more : List Message)
    → of_hart hart (front ++ more) ≡ of_hart hart front ++ of_hart hart more
of_hart-append hart front more = filter-append (λ (message : Message). eqb message.hart hart) front more

-- A message of the hart before others is one of its messages.
pub of_hart-own : (message : Message) (later : List Message)
    → of_hart message.hart (message ∷ later) ≡ message ∷ of_hart message.hart later
of_hart-own message later =
    ap (λ same. cond same (message ∷ of_hart message.hart later) (of_hart message.hart later))
    (eq-eqb message.hart message.hart refl)

-- A message of another hart is none.
pub of_hart-others : (hart : ℕ) (message : Message) (later : List Message) → message.hart ≢ hart
    → of_hart hart (message ∷ later) ≡ of_hart hart later
of_hart-others hart message later other =
    ap (λ same. cond same (message ∷ of_hart hart later) (of_hart hart later)) (ne_eqb message.hart hart other)

-- With a message of the hart behind them there is one more.
pub of_hart-next : (messages : List Message) (message : Message)
    → of_hart message.hart (messages ++ message ∷ []) ≡ of_hart message.hart messages ++ message ∷ []
of_hart-next messages message =
    of_hart-append message.hart messages (message ∷ [])
    ∙ ap (λ one. of_hart message.hart messages ++ one) (of_hart-own message [])

-- With one of another hart they stay.
pub of_hart-other : (hart : ℕ) (messages : List Message) (message : Message) → message.hart ≢ hart
    → of_hart hart (messages ++ message ∷ []) ≡ of_hart hart messages
of_hart-other hart messages message other =
    of_hart-append hart messages (message ∷ [])
    ∙ ap (λ none. of_hart hart messages ++ none) (of_hart-others hart message [] other)
    ∙ append-nil (of_hart hart messages)
