-- What contracts see of a funnel's ports, of its outlet and of its receipts.
use Rattle.std.specs.Prelude.{◌≡◌, ◌+◌, ◌<◌, ◌++◌, ◌∷◌, [], length, ℕ, List, Bool, true, ◌||◌, nat_le, Some}
use Rattle.std.specs.Prelude.{slice_get}
use Rattle.std.specs.List.{list_any}
use Rattle.atomic_table.specs.Seated.{TableId}
use Rattle.atomic_table.specs.declared.badge.Badge.{Badge}
use Rattle.crossbeam_channel.specs.declared.flavors.array.Key.{Key}
use Rattle.payload.specs.Closing.{is_closing}
use Rattle.message.specs.declared.message.Message.{Message}
use Rattle.funnel.specs.Limits.{most_messages}
use Rattle.funnel.specs.Order.{next_message}

-- Which funnel an end belongs to.
pub record FunnelId : Type 0 where
  pub table : TableId
  pub key : Badge (Key Message)

-- A port or a receipt: its funnel, its hart, and what was sent through it.
pub record PortView : Type 0 where
  pub funnel : FunnelId
  pub hart : ℕ
  pub sent : List Message

-- An outlet: its funnel, how many messages the channel holds at most, how many ports there are, and what was taken.
pub record OutletView : Type 0 where
  pub funnel : FunnelId
  pub room : ℕ
  pub made : ℕ
  pub taken : List Message

-- One of the messages has a closing payload.
abbrev pub has_closing : List Message → Bool
has_closing messages = list_any (λ message. is_closing message.payload) messages

-- Nothing more may be sent after these messages: one has a closing payload, or they are the most that a hart sends.
abbrev pub is_finished : List Message → Bool
is_finished sent = has_closing sent || nat_le most_messages (length sent)

-- The port after it sent the payload.
abbrev pub after_sending : PortView → List ℕ → PortView
after_sending port payload = record port { sent = port.sent ++ next_message port.hart port.sent payload ∷ [] }

-- The first list is a beginning of the second.
abbrev pub IsBeginning : List Message → List Message → Type 0
IsBeginning front whole = (rest : List Message) × (whole ≡ front ++ rest)

-- The last of the messages has a closing payload.
abbrev pub EndsClosing : List Message → Type 0
EndsClosing messages =
    (n : ℕ) × (last : Message) × (length messages ≡ n + 1) × (slice_get messages n ≡ Some last)
    × (is_closing last.payload ≡ true)

-- The port of a hart that sent nothing.
abbrev pub new_port : FunnelId → ℕ → PortView
new_port funnel hart = record { funnel = funnel; hart = hart; sent = [] }

-- A port of the funnel for each of this count of harts, at the hart's place, which sent nothing.
abbrev pub AreNewPorts : FunnelId → ℕ → List PortView → Type 0
AreNewPorts funnel harts ports =
    (length ports ≡ harts) × ((hart : ℕ) → hart < harts → slice_get ports hart ≡ Some (new_port funnel hart))
