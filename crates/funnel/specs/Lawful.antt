-- What holds of each state that the funnel machine reaches.
use Rattle.std.specs.Prelude.{◌≡◌, ◌++◌, ℕ, List, length, take}
use Rattle.message.specs.OfHart.{of_hart}
use Rattle.funnel.specs.Machine.{Funnel, sent_by}
use Rattle.funnel.specs.Order.{AreInOrder}
use Rattle.funnel.specs.Payloads.{payloads_in, payloads_of}

-- What each hart sent is in order, and is what was taken of the hart and then what waits of it.
pub record Lawful (state : Funnel) : Type 0 where
  pub whole : (hart : ℕ) → sent_by hart state ≡ of_hart hart state.taken ++ of_hart hart state.queue
  pub in_order : (hart : ℕ) → AreInOrder hart (sent_by hart state)

-- The messages of a hart that were taken carry the first of its payloads, in order.
abbrev pub HasFirstTaken : ℕ → List (List (List ℕ)) → Funnel → Type 0
HasFirstTaken hart payloads state =
    payloads_in (of_hart hart state.taken) ≡ take (length (of_hart hart state.taken)) (payloads_of hart payloads)
