-- What is known of a message that is one of a log's.
use Rattle.std.proofs.Common.{◌≡◌, inl, inr, ℕ, suc, ◌+◌, ◌<◌, ◌^◌, List, [], ◌∷◌, drop, map, refl}
use Rattle.std.proofs.Common.{sym, ap, ◌∙◌, arith}
use Rattle.salvaging.proofs.Members.{IsIn}
use Rattle.std.specs.Prelude.{Ok}
use Rattle.rvclass.specs.Fetch.{words_of}
use Rattle.legalpath.specs.ProgramLog.{ProgramLog, IsLegalLog}
use Rattle.payload.specs.Reading.{reading}
use Rattle.payload.specs.Spelling.{payload_of}
use Rattle.payload.specs.declared.mode.Mode.{Mode}
use Rattle.payload.specs.declared.packet.Packet.{Packet}
use Rattle.encoder.specs.Packets.{packets}
use Rattle.encoder.specs.Payloads.{payloads}
use Rattle.message.specs.Numbered.{messages_from}
use Rattle.message.specs.declared.message.Message.{Message}
use Rattle.losses.proofs.NextMessage.{packet_of_log}

-- A message is one of those that were sent: its hart, its number, and its packet.
pub record IsSent (hart next : ℕ) (ps : List Packet) (message : Message) : Type 0 where
  pub place : ℕ
  pub packet : Packet
  pub later : List Packet
  pub own : message.hart ≡ hart
  pub number : message.number ≡ next + place
  pub here : drop place ps ≡ packet ∷ later
  pub payload : message.payload ≡ payload_of packet

pub sent_of_one : (hart next : ℕ) (ps : List Packet) (message : Message)
    → IsIn message (messages_from hart next (map payload_of ps)) → IsSent hart next ps message
sent_of_one hart next [] message one = absurd one
sent_of_one hart next (p ∷ ps) message (inl is) =
    let number = ap (λ (m : Message). m.number) is in
    record {
      place = 0;
      packet = p;
      later = ps;
      own = ap (λ (m : Message). m.hart) is;
      number = omega (arith, number);
      here = refl;
      payload = ap (λ (m : Message). m.payload) is;
    }
sent_of_one hart next (p ∷ ps) message (inr one) =
    let s = sent_of_one hart (next + 1) ps message one in
    let number = s.number in
    record {
      place = suc s.place;
      packet = s.packet;
      later = s.later;
      own = s.own;
      number = omega (arith, number);
      here = s.here;
      payload = s.payload;
    }

-- A message of a log has the packet of its number.
pub record IsOfLog (hart : ℕ) (ps : List Packet) (message : Message) : Type 0 where
  pub packet : Packet
  pub later : List Packet
  pub own : message.hart ≡ hart
  pub here : drop message.number ps ≡ packet ∷ later
  pub payload : message.payload ≡ payload_of packet
  pub read : reading message.payload ≡ Ok packet
  pub number : message.number < 2 ^ 63

pub of_log : (hart period : ℕ) (mode : Mode) (log : ProgramLog) → IsLegalLog log → (message : Message)
    → IsIn message (messages_from hart 0 (payloads period mode log))
    → IsOfLog hart (packets (words_of log.program) period mode log.events) message
of_log hart period mode log legal message one =
    let ps = packets (words_of log.program) period mode log.events in
    let s = sent_of_one hart 0 ps message one in
    let number = s.number in
    let at : message.number ≡ s.place = omega (arith, number) in
    let here = ap (λ n. drop n ps) at ∙ s.here in
    let facts = packet_of_log period mode log legal message.number s.packet s.later here in
    record {
      packet = s.packet;
      later = s.later;
      own = s.own;
      here = here;
      payload = s.payload;
      read = ap reading s.payload ∙ facts.0;
      number = facts.1;
    }

abbrev message_of : ℕ → ℕ → List ℕ → Message
message_of hart number payload = record { hart = hart; number = number; payload = payload }

message_same : (one other : Message) → one.hart ≡ other.hart → one.number ≡ other.number
    → one.payload ≡ other.payload → one ≡ other
message_same one other harts numbers bytes =
    let whole : one ≡ message_of one.hart one.number one.payload = refl in
    let again : message_of other.hart other.number other.payload ≡ other = refl in
    whole ∙ ap (λ h. message_of h one.number one.payload) harts
    ∙ ap (λ n. message_of other.hart n one.payload) numbers
    ∙ ap (message_of other.hart other.number) bytes ∙ again

-- Two messages of a log with one number are the same.
pub same_number : (hart : ℕ) (ps : List Packet) (one other : Message) → IsOfLog hart ps one → IsOfLog hart ps other
    → one.number ≡ other.number → one ≡ other
same_number hart ps one other i j is =
    let both : i.packet ∷ i.later ≡ j.packet ∷ j.later = sym i.here ∙ ap (λ n. drop n ps) is ∙ j.here in
    let packet : i.packet ≡ j.packet = cc in
    message_same one other (i.own ∙ sym j.own) is (i.payload ∙ ap payload_of packet ∙ sym j.payload)
