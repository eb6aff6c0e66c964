-- What messages hold of one hart, where more messages stand behind them.
use Rattle.std.proofs.Common.{◌≡◌, ◌≢◌, ℕ, List, [], ◌∷◌, ◌++◌, Option, Some, None, Ok, length, refl, sym, ap, ◌∙◌}
use Rattle.std.proofs.lemmas.List.{append_assoc, length_push}
use Rattle.std.specs.List.{last_or}
use Rattle.payload.specs.Closing.{is_closing_packet}
use Rattle.payload.specs.ClosedTrace.{closes, last_is_closing}
use Rattle.payload.specs.Reading.{reading}
use Rattle.payload.specs.declared.packet.Packet.{Packet}
use Rattle.message.proofs.OfHartLemmas.{of_hart-append, of_hart-next, of_hart-other}
use Rattle.message.specs.Accepting.{next_of}
use Rattle.message.specs.declared.message.Message.{Message}
use Rattle.message.specs.OfHart.{of_hart, packet_or_none, packets_in, packets_of}
use Rattle.message.specs.declared.hart.Hart.{Hart}

-- The packets of first messages and of more behind them.
pub packets_in-append : (front more : List Message) → packets_in (front ++ more) ≡ packets_in front ++ packets_in more
packets_in-append [] more = refl
packets_in-append (message ∷ front) more =
    let packet = packet_or_none (reading message.payload) in
    ap (λ rest. packet ++ rest) (packets_in-append front more)
    ∙ sym (append_assoc packet (packets_in front) (packets_in more))

-- The packet of one message before those of others.
pub packets_in-cons : (message : Message) (later : List Message) (packet : Packet) → reading message.payload ≡ Ok packet
    → packets_in (message ∷ later) ≡ packet ∷ packets_in later
packets_in-cons message later packet read = ap (λ r. packet_or_none r ++ packets_in later) read

-- The packets of a hart's messages among first ones and more behind them.
pub packets_of-append : (hart : ℕ) (front more : List Message)
    → packets_of hart (front ++ more) ≡ packets_of hart front ++ packets_of hart more
packets_of-append hart front more = ap packets_in (of_hart-append hart front more)
    ∙ packets_in-append (of_hart hart front) (of_hart hart more)

-- With a message of the hart behind them there is its packet more.
pub packets_of-next : (messages : List Message) (message : Message) (packet : Packet)
    → reading message.payload ≡ Ok packet
    → packets_of message.hart (messages ++ message ∷ []) ≡ packets_of message.hart messages ++ packet ∷ []
packets_of-next messages message packet read =
    ap packets_in (of_hart-next messages message)
    ∙ packets_in-append (of_hart message.hart messages) (message ∷ [])
    ∙ ap (λ one. packets_of message.hart messages ++ one) (packets_in-cons message [] packet read)

-- With one of another hart they stay.
pub packets_of-other : (hart : ℕ) (messages : List Message) (message : Message) → message.hart ≢ hart
    → packets_of hart (messages ++ message ∷ []) ≡ packets_of hart messages
packets_of-other hart messages message other = ap packets_in (of_hart-other hart messages message other)

-- With a packet behind them a trace has ended exactly where that packet closes it.
pub last_is_closing-next : (packets : List Packet) (packet : Packet)
    → last_is_closing (packets ++ packet ∷ []) ≡ is_closing_packet packet
last_is_closing-next packets packet = ends None packets
  where
    ends : (before : Option Packet) (packets : List Packet)
        → closes (last_or before (packets ++ packet ∷ [])) ≡ is_closing_packet packet
    ends before [] = refl
    ends before (first ∷ packets) = ends (Some first) packets

-- What is expected of a hart after messages of it that were all accepted.
abbrev pub expected_of : ℕ → List Message → Hart
expected_of hart messages =
    record { expected = length (of_hart hart messages); closed = last_is_closing (packets_of hart messages) }

-- What is expected of the message's hart after it.
pub expected_of-next : (messages : List Message) (message : Message) (packet : Packet)
    → reading message.payload ≡ Ok packet
    → expected_of message.hart (messages ++ message ∷ []) ≡ next_of (length (of_hart message.hart messages)) packet
expected_of-next messages message packet read =
    let hart = message.hart in
    let counted = ap length (of_hart-next messages message) ∙ length_push (of_hart hart messages) message in
    let ended = ap last_is_closing (packets_of-next messages message packet read)
    ∙ last_is_closing-next (packets_of hart messages) packet in
    cc

-- Of another hart the same is expected as before.
pub expected_of-other : (hart : ℕ) (messages : List Message) (message : Message) → message.hart ≢ hart
    → expected_of hart (messages ++ message ∷ []) ≡ expected_of hart messages
expected_of-other hart messages message other =
    let counted = ap length (of_hart-other hart messages message other) in
    let ended = ap last_is_closing (packets_of-other hart messages message other) in
    cc
