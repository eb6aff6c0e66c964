-- The rule of the channel. Of each hart, what was taken and then what the channel holds is in order, and a live port
-- knows just that list.
use Rattle.std.specs.Prelude.{◌≡◌, ◌+◌, ◌<◌, ◌≤◌, ℕ, false, true, List, [], ◌∷◌, ◌++◌, length, Option, Some, None}
use Rattle.std.specs.Prelude.{slice_get}
use mathlib.Core.Option.{some}
use lib.ListN.{get_elem?}
use Rattle.payload.specs.Closing.{is_closing}
use Rattle.message.specs.OfHart.{of_hart}
use Rattle.message.specs.declared.message.Message.{Message}
use Rattle.funnel.specs.Limits.{most_messages}
use Rattle.funnel.specs.Order.{AreInOrder}
use Rattle.funnel.specs.declared.rule.View.{View}
use Rattle.funnel.specs.declared.rule.View.TheVariants as V

-- The outlet's view of a new channel: no port was handed out, and nothing was taken.
abbrev pub newborn : View
newborn = V.Outlet 0 [] None []

-- The view of a pass that was taken in.
abbrev pub spent : View
spent = V.Spent

-- Handing out a port: the outlet counts one more.
abbrev pub handed_out : View → View
handed_out (V.Outlet made taken settled list) = V.Outlet (made + 1) taken settled list
handed_out (V.Port hart sent) = V.Port hart sent
handed_out V.Spent = V.Spent

-- The port that is handed out has the next number, and sent nothing.
abbrev pub next_port : View → View
next_port (V.Outlet made taken settled list) = V.Port made []
next_port (V.Port hart sent) = V.Spent
next_port V.Spent = V.Spent

-- Taking in a port: the outlet notes the port's hart and what it sent, and keeps all else that it knows. No other view
-- changes.
abbrev pub after_taking_in : View → View → View
after_taking_in (V.Outlet made taken settled list) (V.Port hart sent) = V.Outlet made taken (Some hart) sent
after_taking_in (V.Outlet made taken settled list) (V.Outlet _ _ _ _) = V.Outlet made taken settled list
after_taking_in (V.Outlet made taken settled list) V.Spent = V.Outlet made taken settled list
after_taking_in (V.Port hart sent) _ = V.Port hart sent
after_taking_in V.Spent _ = V.Spent

-- An ordinary send: the message goes last in what the port has sent, and its payload is not closing.
abbrev pub SendsOn : View → Message → View → Type 0
SendsOn (V.Port hart sent) message after =
    (after ≡ V.Port hart (sent ++ message ∷ [])) × (is_closing message.payload ≡ false)
SendsOn (V.Outlet _ _ _ _) message after = ⊥
SendsOn V.Spent message after = ⊥

-- The closing send: the message goes last, and its payload is closing.
abbrev pub SendsLast : View → Message → View → Type 0
SendsLast (V.Port hart sent) message after =
    (after ≡ V.Port hart (sent ++ message ∷ [])) × (is_closing message.payload ≡ true)
SendsLast (V.Outlet _ _ _ _) message after = ⊥
SendsLast V.Spent message after = ⊥

-- What the outlet took of each hart is in order.
abbrev pub TookInOrder : View → Type 0
TookInOrder (V.Outlet made taken settled list) = (hart : ℕ) → AreInOrder hart (of_hart hart taken)
TookInOrder (V.Port _ _) = Unit {0}
TookInOrder V.Spent = Unit {0}

-- A take: the message goes last in what the outlet took, which stays in order. It is the next of its hart, whose port
-- was handed out, and its number is below the most messages that a hart sends.
abbrev pub TakesOne : View → Message → View → Type 0
TakesOne (V.Outlet made taken settled list) message after =
    (after ≡ V.Outlet made (taken ++ message ∷ []) settled list)
    × (message.number ≡ length (of_hart message.hart taken))
    × (message.hart < made)
    × (message.number < most_messages)
    × TookInOrder after
TakesOne (V.Port _ _) message after = ⊥
TakesOne V.Spent message after = ⊥

-- What the outlet noted of the hart whose port it took in last is what was taken of this hart and then what the channel
-- holds of it. It is in order, and the port was handed out.
abbrev pub Compares : View → List Message → Type 0
Compares (V.Outlet made taken settled list) queue =
    (hart : ℕ) → settled ≡ Some hart
    → (list ≡ of_hart hart taken ++ of_hart hart queue) × AreInOrder hart list × (hart < made)
Compares (V.Port _ _) queue = Unit {0}
Compares V.Spent queue = Unit {0}

-- What a pass may know. The outlet's pass knows how many ports were handed out, what was taken, whose port was taken in
-- last, and what that port sent. The pass in a hart's seat knows all that the hart sent. Any other pass knows nothing.
abbrev pub MayKnow : ℕ → List ℕ → List Message → Option ℕ → List Message → List Message → ℕ → View → Type 0
MayKnow outlet seats taken settled list queue pass (V.Outlet m t u l) =
    (pass ≡ outlet) × (m ≡ length seats) × (t ≡ taken) × (u ≡ settled) × (l ≡ list)
MayKnow outlet seats taken settled list queue pass (V.Port h s) =
    (slice_get seats h ≡ Some pass) × (s ≡ of_hart h (taken ++ queue))
MayKnow outlet seats taken settled list queue pass V.Spent = Unit {0}

-- The channel holds the queue, and each pass may know its view. Place h of the seats is the pass of hart h. What was
-- taken and then what is held of a hart is in order, is at most the most messages, and is nothing where the hart has no
-- seat. The hart whose port was taken in last has a seat; its pass is spent, and the outlet noted all that the hart
-- sent.
pub record Kept (queue : List Message) (views : List View) : Type 0 where
  pub outlet : ℕ
  pub seats : List ℕ
  pub taken : List Message
  pub settled : Option ℕ
  pub list : List Message
  pub may_know : (pass : ℕ) (v : View) → get_elem? views pass ≡ some v
      → MayKnow outlet seats taken settled list queue pass v
  pub in_order : (hart : ℕ) → AreInOrder hart (of_hart hart (taken ++ queue))
  pub few : (hart : ℕ) → length (of_hart hart (taken ++ queue)) ≤ most_messages
  pub strangers : (hart : ℕ) → length seats ≤ hart → of_hart hart (taken ++ queue) ≡ []
  pub settled_spent : (hart pass : ℕ) → settled ≡ Some hart → slice_get seats hart ≡ Some pass
      → (get_elem? views pass ≡ some V.Spent) × (list ≡ of_hart hart (taken ++ queue))
  pub settled_made : (hart : ℕ) → settled ≡ Some hart → hart < length seats
