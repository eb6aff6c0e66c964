-- The messages of a hart with their places, and the order in which they are put.
use Rattle.std.specs.Prelude.{ℕ, ◌≡◌, ◌⊎◌, ◌<◌, ◌≤◌, ◌+◌, All, List, [], ◌∷◌, map}
use Rattle.std.specs.Cmp.Lexicographic.{slice_cmp}
use Rattle.std.specs.Ordering.{nat_cmp, ordering_then}
use Rattle.std.specs.declared.cmp.Ordering.{Ordering}
use Rattle.std.specs.declared.cmp.Ordering.TheVariants.{Less}
use Rattle.message.specs.Harts.{end_of_numbers}
use Rattle.message.specs.declared.message.Message.{Message}
use Rattle.salvaging.specs.declared.received.ReceivedMessage.{ReceivedMessage}

-- A message, and its place among its hart's messages.
pub record Arrival : Type 0 where
  pub place : ℕ
  pub message : Message

-- The arrival that the code's value represents.
abbrev pub arrival_of : ReceivedMessage → Arrival
arrival_of came = record { place = came.place; message = came.message.now }

abbrev pub arrivals_in : List ReceivedMessage → List Arrival
arrivals_in came = map arrival_of came

-- Messages with their places, the first of which is this.
abbrev pub placed_from : ℕ → List Message → List Arrival
placed_from place [] = []
placed_from place (message ∷ messages) = record { place = place; message = message } ∷ placed_from (place + 1) messages

-- The order of two messages: by number, then by payload, then by place.
abbrev pub arrival_cmp : Arrival → Arrival → Ordering
arrival_cmp one other =
    ordering_then (nat_cmp one.message.number other.message.number)
    (ordering_then (slice_cmp nat_cmp one.message.payload other.message.payload) (nat_cmp one.place other.place))

-- The payload of the first comes before that of the other in the order of words in a dictionary; or they are the same,
-- and the first came earlier.
abbrev pub IsUpToByPayload : Arrival → Arrival → Type 0
IsUpToByPayload first other =
    (slice_cmp nat_cmp first.message.payload other.message.payload ≡ Less)
    ⊎ ((first.message.payload ≡ other.message.payload) × (first.place ≤ other.place))

-- The first has the lower number; or they have one number, and the payloads and the places decide.
abbrev pub IsUpTo : Arrival → Arrival → Type 0
IsUpTo first other =
    (first.message.number < other.message.number)
    ⊎ ((first.message.number ≡ other.message.number) × IsUpToByPayload first other)

-- Each comes before those after it by number, payload and place.
abbrev pub AreOrdered : List Arrival → Type 0
AreOrdered [] = Unit {0}
AreOrdered (first ∷ arrivals) = All (IsUpTo first) arrivals × AreOrdered arrivals

-- The numbers rise: each is below those after it.
abbrev pub Rise : List Arrival → Type 0
Rise [] = Unit {0}
Rise (first ∷ arrivals) =
    All (λ (other : Arrival). first.message.number < other.message.number) arrivals × Rise arrivals

-- They are a hart's messages with their places, in the order in which they came.
abbrev pub HavePlaces : List Arrival → Type 0
HavePlaces arrivals = (messages : List Message) × (arrivals ≡ placed_from 0 messages)

-- Their numbers are those that a hart may have.
abbrev pub HaveNumbers : List Arrival → Type 0
HaveNumbers arrivals = All (λ (one : Arrival). one.message.number < end_of_numbers) arrivals
