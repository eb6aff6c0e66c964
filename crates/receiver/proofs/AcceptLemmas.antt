-- What a receiver accepted, with one message more.
use Rattle.std.proofs.Common.{◌≡◌, ◌≢◌, ◌<◌, ℕ, Bool, List, [], ◌∷◌, ◌++◌, Option, Some, None, Result, Ok, Err, IfOk}
use Rattle.std.proofs.Common.{OnOk, length, slice_get, refl, sym, ap, subst, ◌∙◌, arith}
use Rattle.std.specs.Prelude.{IsFalse, IsSomeAnd, ◌↔◌, ◌⊎◌, ◌^◌, nat_lt, not, true, false}
use Rattle.std.proofs.lemmas.Bool.{or_parts}
use Rattle.std.proofs.lemmas.Option.{slice_get_within, same_Some}
use Rattle.retire.specs.declared.event.Event.{Event}
use Rattle.rvclass.specs.Words.{Words}
use Rattle.payload.specs.ClosedTrace.{last_is_closing}
use Rattle.payload.specs.Reading.{reading}
use Rattle.payload.specs.declared.mode.Mode.{Mode}
use Rattle.payload.specs.declared.packet.Packet.{Packet}
use Rattle.decoder.specs.Describes.{Describes}
use Rattle.decoder.specs.Order.{IsOpen}
use Rattle.decoder.specs.declared.decoding.Decoder.{Decoder}
use Rattle.decoder.specs.declared.fault.DecodeFault.{DecodeFault}
use Rattle.decoder.specs.declared.fault.DecodeFault.TheVariants.{NotOpened, AfterClose, Memory}
use Rattle.message.proofs.AcceptedLemmas.{AreAccepted-next, expected_after-next, accepted_counted}
use Rattle.message.proofs.Answering.{answer-unpacked}
use Rattle.message.proofs.HartMessages.{expected_of}
use Rattle.message.specs.Accepted.{AreAccepted, expected_after, newcomers}
use Rattle.message.specs.Accepting.{accepting, harts_after, harts_after_found, state_after}
use Rattle.message.specs.Harts.{Harts, is_over}
use Rattle.message.specs.OfHart.{packets_of}
use Rattle.message.specs.declared.fault.DemuxFault.{DemuxFault}
use Rattle.message.specs.declared.hart.Hart.{Hart}
use Rattle.message.specs.declared.message.Message.{Message}
use Rattle.receiver.specs.Agreeing.{Agrees, opens_another}
use Rattle.receiver.specs.Holds.{HasAccepted}
use Rattle.receiver.specs.Received.{IsSameHart, Received}
use Rattle.receiver.specs.NotReceived.{IsNotDecoded}
use Rattle.receiver.specs.declared.fault.ReceiveFault.{ReceiveFault}
use Rattle.receiver.specs.declared.fault.ReceiveFault.TheVariants as fault
use Rattle.receiver.proofs.HoldLemmas.{set-other}

-- The answer of a decoder that refuses.
abbrev refusal : DecodeFault → Result Unit DecodeFault
refusal why = Err why

-- After one that is accepted.
pub accepts_more : (harts : ℕ) (messages : List Message) (message : Message) (old new : Harts) (decoders : List Decoder)
    (lists : List (List Event)) (closed : List Bool) (answer : Result Packet DemuxFault)
    → HasAccepted harts messages (record { expected = old; decoders = decoders; lists = lists; closed = closed })
    → answer ≡ accepting old message → new ≡ harts_after old message
    → OnOk answer (HasAccepted harts (messages ++ message ∷ []) (record {
      expected = new;
      decoders = decoders;
      lists = lists;
      closed = closed;
    }))
accepts_more harts messages message old new decoders lists closed (Err why) has is moves = tt
accepts_more harts messages message old new decoders lists closed (Ok packet) has is moves = record {
  accepted = AreAccepted-next (newcomers harts) messages message packet has.accepted
      (ap (λ e. accepting e message) (sym has.expected) ∙ sym is);
  expected = moves ∙ ap (λ e. harts_after e message) has.expected
      ∙ sym (expected_after-next (newcomers harts) messages message);
}

-- What is expected of the other harts stays.
pub expected_others : (expected : Harts) (message : Message) (other : ℕ) → other ≢ message.hart
    → slice_get (harts_after expected message) other ≡ slice_get expected other
expected_others expected message other apart = by_hart (slice_get expected message.hart)
  where
    by_hart : (found : Option Hart)
        → slice_get (harts_after_found expected message found) other ≡ slice_get expected other
    by_hart None = refl
    by_hart (Some h) = set-other expected message.hart (state_after h message) other apart

-- Of the others nothing changes.
pub accepts_others : (old new : Received) (message : Message) (other : ℕ) → other ≢ message.hart
    → new ≡ record old { expected = harts_after old.expected message } → IsSameHart other old new
accepts_others old new message other apart state = subst (IsSameHart other old) (sym state) (record {
  expected = expected_others old.expected message other apart;
  decoder = refl;
  list = refl;
  closed = refl;
})

-- The packet that is answered is the one that the payload unpacks to.
pub packet_read : (expected : Harts) (message : Message) (answer : Result Packet DemuxFault)
    → answer ≡ accepting expected message
    → IfOk answer (λ packet. reading message.payload ≡ Ok packet)
packet_read expected message (Err why) is = tt
packet_read expected message (Ok packet) is =
    ((answer-unpacked (slice_get expected message.hart) message (Ok packet)).0 (sym is)).1

-- What was accepted is what is expected, whatever else changes.
pub accepts_kept : (harts : ℕ) (messages : List Message) (old new : Received) → HasAccepted harts messages old
    → new.expected ≡ old.expected
    → HasAccepted harts messages new
accepts_kept harts messages old new has same = record { accepted = has.accepted; expected = same ∙ has.expected }

-- A message is answered by what the messages before lead to.
pub accepted_answer : (harts : ℕ) (messages : List Message) (received : Received) (message : Message) (packet : Packet)
    → HasAccepted harts messages received → accepting received.expected message ≡ Ok packet
    → accepting (expected_after (newcomers harts) messages) message ≡ Ok packet
accepted_answer harts messages received message packet has answer =
    ap (λ e. accepting e message) (sym has.expected) ∙ answer

-- The packets of a hart whose message is accepted have not ended.
pub going : (harts : ℕ) (messages : List Message) (message : Message) (packet : Packet)
    → AreAccepted (newcomers harts) messages
    → accepting (expected_after (newcomers harts) messages) message ≡ Ok packet
    → last_is_closing (packets_of message.hart messages) ≡ false
going harts messages message packet all answer =
    open_at (slice_get expected message.hart) refl
    ((answer-unpacked (slice_get expected message.hart) message (Ok packet)).0 answer).0
  where
    expected : Harts
    expected = expected_after (newcomers harts) messages

    open_at : (o : Option Hart) → slice_get expected message.hart ≡ o
        → IsSomeAnd o (λ h. IsFalse (is_over h) × (h.expected ≡ message.number))
        → last_is_closing (packets_of message.hart messages) ≡ false
    open_at None is never = absurd never
    open_at (Some h) is next =
        let counted = accepted_counted harts messages all in
        let within : message.hart < harts = omega (arith, slice_get_within expected message.hart h is, counted.count) in
        let same : h ≡ expected_of message.hart messages =
        same_Some h (expected_of message.hart messages) (sym is ∙ counted.each message.hart within) in
        let closed : h.closed ≡ last_is_closing (packets_of message.hart messages) = ap (λ (h : Hart). h.closed) same in
        sym closed ∙ (or_parts h.closed (not (nat_lt h.expected (2 ^ 63))) next.0).0

-- Why a packet is not decoded, by what the decoder answers.
pub not_decoded : (words : Words) (packets : List Packet) (packet : Packet) (why : DecodeFault)
    → (refusal why ≡ Err NotOpened) ↔ ((packets ≡ []) × ¬ IsOpen packet)
    → (refusal why ≡ Err AfterClose) ↔ (last_is_closing packets ≡ true)
    → (why ≡ Memory) ⊎ ((log : List Event) → ¬ Describes words (packets ++ packet ∷ []) log)
    → (refusal why ≡ Err Memory → (list log : List Event) × Describes words packets list
    × Describes words (packets ++ packet ∷ []) log × (length list < length log))
    → IsNotDecoded words packets packet why
not_decoded words packets packet why not_opened after_close either described = record {
  not_opened = (λ same. not_opened.0 (ap refusal same), λ first. let refused = not_opened.1 first in cc);
  after_close = (λ same. after_close.0 (ap refusal same), λ over. let refused = after_close.1 over in cc);
  memory = λ memory. described (ap refusal memory);
  reason = either;
}

-- One answer is one packet, and one fault.
pub same_packet : (a b : Packet) → ◌≡◌ {A = Result Packet DemuxFault} (Ok a) (Ok b) → a ≡ b
same_packet a b is = cc

pub same_fault : (a b : DecodeFault) → ◌≡◌ {A = Result Unit ReceiveFault} (Err (fault.Decode a)) (Err (fault.Decode b))
    → a ≡ b
same_fault a b is = cc

-- A message agrees with the mode that was announced where the packet of its payload does.
pub agrees_by : (announced : Option Mode) (message : Message) (packet : Packet) → reading message.payload ≡ Ok packet
    → opens_another announced packet ≡ false → Agrees announced message
agrees_by announced message packet read same other is =
    let one : packet ≡ other = cc in
    subst (λ p. opens_another announced p ≡ false) one same
