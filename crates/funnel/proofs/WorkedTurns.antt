-- Turns that were worked by hand: what each hart sent, what waits, and what was taken.
use Rattle.std.proofs.Common.{◌≡◌, ℕ, List, [], ◌∷◌, refl}
use Rattle.message.specs.declared.message.Message.{Message}
use Rattle.funnel.specs.Machine.{Funnel, after_turns, opening}
use Rattle.funnel.specs.declared.turn.Turn.{Turn}
use Rattle.funnel.specs.declared.turn.Turn.TheVariants.{Hart, Collect}

-- Two harts, the first with two payloads, the second with one.
abbrev payloads : List (List (List ℕ))
payloads = ((0x1f ∷ []) ∷ (0x4f ∷ []) ∷ []) ∷ ((0x1f ∷ []) ∷ []) ∷ []

abbrev message : ℕ → ℕ → ℕ → Message
message hart number byte = record { hart = hart; number = number; payload = byte ∷ [] }

abbrev after : ℕ → List Turn → Funnel
after capacity turns = after_turns capacity payloads turns (opening payloads)

abbrev state : List (List Message) → List Message → List Message → Funnel
state sent queue taken = record { sent = sent; queue = queue; taken = taken }

no_turns : after 1 [] ≡ state ([] ∷ [] ∷ []) [] []
no_turns = refl

-- With one place the second and the third turn find it full.
full : after 1 (Hart 0 ∷ Hart 0 ∷ Hart 1 ∷ Collect ∷ [])
    ≡ state ((message 0 0 0x1f ∷ []) ∷ [] ∷ []) [] (message 0 0 0x1f ∷ [])
full = refl

-- Nothing is taken where nothing waits, and a strange hart sends nothing.
no_effect : after 1 (Collect ∷ Hart 2 ∷ Hart 64 ∷ []) ≡ after 1 []
no_effect = refl

-- A hart with no payload left sends nothing.
no_payload_left : after 9 (Hart 1 ∷ Hart 1 ∷ Hart 1 ∷ [])
    ≡ state ([] ∷ (message 1 0 0x1f ∷ []) ∷ []) (message 1 0 0x1f ∷ []) []
no_payload_left = refl

-- Messages are taken in the order in which they were sent.
in_turn : after 2 (Hart 0 ∷ Hart 1 ∷ Collect ∷ Hart 0 ∷ Collect ∷ []) ≡
    state ((message 0 0 0x1f ∷ message 0 1 0x4f ∷ []) ∷ (message 1 0 0x1f ∷ []) ∷ []) (message 0 1 0x4f ∷ [])
    (message 0 0 0x1f ∷ message 1 0 0x1f ∷ [])
in_turn = refl

-- A turn that finds the funnel full is lost; the hart sends the same message at its next one.
sent_later : after 1 (Hart 0 ∷ Hart 1 ∷ Collect ∷ Hart 1 ∷ Collect ∷ []) ≡
    state ((message 0 0 0x1f ∷ []) ∷ (message 1 0 0x1f ∷ []) ∷ []) [] (message 0 0 0x1f ∷ message 1 0 0x1f ∷ [])
sent_later = refl
