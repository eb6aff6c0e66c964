-- How messages are distributed to the harts, and what is salvaged of each.
use Rattle.std.specs.Prelude.{ℕ, ◌≡◌, ◌++◌, List, [], ◌∷◌, Some, length, slice_get}
use Rattle.std.specs.declared.vec.Vec.{Vec}
use Rattle.rvclass.specs.Words.{Words}
use Rattle.payload.specs.declared.mode.Mode.{Mode}
use Rattle.message.specs.declared.message.Message.{Message}
use Rattle.salvaging.specs.Salvaged.{IsSalvagedHart}
use Rattle.salvaging.specs.Strangers.{own_messages}
use Rattle.salvaging.specs.steps.Arrivals.{arrivals_in, placed_from}
use Rattle.salvaging.specs.declared.received.ReceivedMessage.{ReceivedMessage}
use Rattle.salvaging.specs.declared.salvaged.SalvagedHart.{SalvagedHart}

-- The lists hold the messages of their harts, each with its place.
pub record Distributes {A : Type 0} (messages : List Message) (lists : List (Vec ReceivedMessage A)) : Type 0 where
  pub each : (hart : ℕ) (list : Vec ReceivedMessage A) → slice_get lists hart ≡ Some list
      → arrivals_in list.items ≡ placed_from 0 (own_messages hart messages)

-- A message was added to the list of its hart, if it belongs to one.
pub record AddsArrival {A : Type 0} (message : Message) (old new : List (Vec ReceivedMessage A)) : Type 0 where
  pub count : length new ≡ length old
  pub each : (hart : ℕ) (before after : Vec ReceivedMessage A) → slice_get old hart ≡ Some before
      → slice_get new hart ≡ Some after
      → arrivals_in after.items
      ≡ arrivals_in before.items ++ placed_from (length before.items) (own_messages hart (message ∷ []))

-- This is salvaged of harts with these lists of messages.
pub record AreSalvagedOf {A : Type 0} (words : Words) (mode : Mode) (lists : List (Vec ReceivedMessage A))
    (harts : List (SalvagedHart A)) : Type 0 where
  pub count : length harts ≡ length lists
  pub each : (hart : ℕ) (list : Vec ReceivedMessage A) (own : SalvagedHart A) (messages : List Message)
      → slice_get lists hart ≡ Some list → slice_get harts hart ≡ Some own
      → arrivals_in list.items ≡ placed_from 0 messages → IsSalvagedHart words mode messages own
