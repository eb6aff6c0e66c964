-- The messages of harts, mixed as a path sees them.
use Rattle.std.specs.Prelude.{◌≡◌, ◌≢◌, ℕ, zero, suc, ◌==◌, All, List, [], ◌∷◌, ◌++◌, get_or, length}
use Rattle.std.specs.Prelude.{if◌then◌else◌, map, set}
use Rattle.std.specs.List.{flat_map}
use Rattle.std.specs.declared.alloc.Global.{Global}
use Rattle.std.specs.declared.vec.Vec.{Vec}
use Rattle.message.specs.Capture.{capture, message_bytes}
use Rattle.message.specs.Cut.{IsMessage}
use Rattle.message.specs.declared.message.Message.{Message}
use Rattle.stimulus.specs.Order.{Drawn, drawn_of, first_drawn, leaves, next_turn}
use Rattle.stimulus.specs.declared.mixing.Mixing.{Mixing}

-- How far messages are mixed: how far the order is drawn, and which messages each hart has left, by its place.
pub record Mixed : Type 0 where
  pub drawn : Drawn
  pub left : List (List Message)

-- How many turns of one hart come one after another at most.
abbrev pub mixed_burst : ℕ
mixed_burst = 16

-- More turns than there are messages.
abbrev pub most_turns : ℕ
most_turns = 18446744073709551615

-- Messages of which none is sent.
abbrev pub unmixed : ℕ → List (List Message) → Mixed
unmixed seed left = record { drawn = first_drawn seed (length left) mixed_burst 1 0; left = left }

-- The hart at a place sends the first of these messages, which it has left. Without one it leaves the list.
abbrev pub sends : ℕ → Mixed → List Message → List Message × Mixed
sends place mixed [] = ([], record mixed { drawn = leaves place mixed.drawn })
sends place mixed (message ∷ rest) = (message ∷ [], record mixed { left = set mixed.left place rest })

-- What is sent at a turn, and how far the messages are mixed then.
unfoldable pub turn : Mixed → List Message × Mixed
turn mixed =
    let next = next_turn mixed.drawn in
    sends next.0.hart (record mixed { drawn = next.1 }) (get_or mixed.left next.0.hart [])

-- The messages that harts have left, hart after hart.
abbrev pub all_left : Mixed → List Message
all_left mixed = flat_map (λ own. own) mixed.left

-- The messages that are left, in the order of turns, at most so many: until no hart is in the list. What is left then
-- comes hart after hart. After as many turns as there are messages and harts that is nothing.
unfoldable pub mixed_from : ℕ → Mixed → List Message
mixed_from zero mixed = all_left mixed
mixed_from (suc count) mixed =
    if length mixed.drawn.listed == 0 then all_left mixed
    else (let next = turn mixed in next.0 ++ mixed_from count next.1)

-- The messages of harts, mixed by a seed.
unfoldable pub mixed_by : ℕ → List (List Message) → List Message
mixed_by seed left = mixed_from most_turns (unmixed seed left)

-- The bytes are those of these messages, and of what follows them no message is a prefix.
pub record AreInFront (own : List Message) (bytes : List ℕ) : Type 0 where
  pub ranges : All IsMessage own
  pub rest : List ℕ
  pub parted : bytes ≡ capture own ++ rest
  pub no_more : (message : Message) (later : List ℕ) → IsMessage message → rest ≢ message_bytes message ++ later

-- Each of the lists of bytes begins with the messages of its own list, and there are as many of one as of the other.
abbrev pub AllAreInFront : List (List Message) → List (List ℕ) → Type 0
AllAreInFront [] [] = Unit {0}
AllAreInFront [] (bytes ∷ others) = ⊥
AllAreInFront (own ∷ left) [] = ⊥
AllAreInFront (own ∷ left) (bytes ∷ others) = AreInFront own bytes × AllAreInFront left others

-- These are the messages of harts: those that each hart's bytes begin with.
abbrev pub AreMessages : List (List Message) → List (Vec ℕ Global) → Type 0
AreMessages left harts = AllAreInFront left (map (λ bytes. bytes.items) harts)

-- There are such messages.
pub record HaveMessages (harts : List (Vec ℕ Global)) : Type 0 where
  pub left : List (List Message)
  pub are : AreMessages left harts

-- Messages are mixed so far, and the bytes of what is left are there.
pub record IsMixing {A : Type 0} (mixed : Mixed) (mixing : Mixing A) : Type 0 where
  pub drawn : drawn_of mixing.order ≡ mixed.drawn
  pub left : AllAreInFront mixed.left mixing.left.items

-- No message is sent.
abbrev pub IsUnmixed : {A : Type 0} → ℕ → List (List Message) → Mixing A → Type 0
IsUnmixed seed left mixing = IsMixing (unmixed seed left) mixing
