-- What messages unpack to, by what their payloads are known by.
use Rattle.std.proofs.Common.{◌≡◌, ℕ, ◌++◌, All, List, [], ◌∷◌, length, refl, sym, ap, ◌∙◌}
use Rattle.std.proofs.lemmas.List.Elements.{All-filter, All-head, All-tail}
use Rattle.std.specs.Prelude.{◌==◌, if◌then◌else◌, nat_lt, Err}
use Rattle.payload.proofs.SameLemmas.{reading-known}
use Rattle.payload.specs.declared.by.By.{By}
use Rattle.payload.specs.ClosedTrace.{last_is_closing}
use Rattle.payload.specs.Reading.{reading}
use Rattle.message.proofs.HartMessages.{expected_of}
use Rattle.message.specs.Accepting.{answer, packet_or_fault}
use Rattle.message.specs.Cut.{IsMessage}
use Rattle.message.specs.Harts.{is_over}
use Rattle.message.specs.OfHart.{of_hart, packet_or_none, packets_in}
use Rattle.message.specs.declared.fault.DemuxFault.TheVariants as fault
use Rattle.message.specs.declared.hart.Hart.{Hart}
use Rattle.message.specs.declared.message.Message.{Message}
use Rattle.auditing.proofs.KnownLemmas.{known-count}
use Rattle.auditing.proofs.PushLemmas.{cons_parts}
use Rattle.auditing.specs.Known.{known_all, known_one}

-- They unpack to the same packets.
pub packets_in-known : (how : By) (messages : List Message) → All IsMessage messages
    → packets_in (known_all how messages) ≡ packets_in messages
packets_in-known how [] all = refl
packets_in-known how (message ∷ messages) all =
    let is = All-head IsMessage message messages all in
    let rest = packets_in-known how messages (All-tail IsMessage message messages all) in
    (λ i. packet_or_none (reading-known how message.payload is.bytes i) ++ rest i)

-- Messages that are known alike unpack to the same packets.
pub packets_alike : (how : By) (ones others : List Message) → All IsMessage ones → All IsMessage others
    → known_all how ones ≡ known_all how others → packets_in ones ≡ packets_in others
packets_alike how ones others all all_others same =
    sym (packets_in-known how ones all) ∙ ap packets_in same ∙ packets_in-known how others all_others

-- The messages of a hart are messages.
pub of_hart-messages : (hart : ℕ) (messages : List Message) → All IsMessage messages
    → All IsMessage (of_hart hart messages)
of_hart-messages hart messages all = All-filter (λ (message : Message). message.hart == hart) IsMessage messages all

-- Messages that are known alike are answered alike.
pub reading_alike : (how : By) (one other : Message) → IsMessage one → IsMessage other
    → known_one how one ≡ known_one how other → reading one.payload ≡ reading other.payload
reading_alike how one other is is_other same =
    sym (reading-known how one.payload is.bytes) ∙ ap (λ (m : Message). reading m.payload) same
    ∙ reading-known how other.payload is_other.bytes

pub answer_alike : (how : By) (h : Hart) (one other : Message) → IsMessage one → IsMessage other
    → known_one how one ≡ known_one how other → answer h one ≡ answer h other
answer_alike how h one other is is_other same =
    let read = reading_alike how one other is is_other same in
    let number : one.number ≡ other.number = ap (λ (m : Message). m.number) same in
    (λ i. if is_over h then Err fault.AfterClose else
    if nat_lt (number i) h.expected then Err fault.Repeat else
    if nat_lt h.expected (number i) then Err (fault.Gap h.expected) else
    packet_or_fault (read i))

-- What is expected of a hart after messages that are known alike is the same.
pub expected_alike : (how : By) (hart : ℕ) (ones others : List Message) → All IsMessage (of_hart hart ones)
    → All IsMessage (of_hart hart others)
    → known_all how (of_hart hart ones) ≡ known_all how (of_hart hart others)
    → expected_of hart ones ≡ expected_of hart others
expected_alike how hart ones others all all_others same =
    let packets = packets_alike how (of_hart hart ones) (of_hart hart others) all all_others same in
    let count : length (of_hart hart ones) ≡ length (of_hart hart others) =
    sym (known-count how (of_hart hart ones)) ∙ ap length same ∙ known-count how (of_hart hart others) in
    (λ i. record { expected = count i; closed = last_is_closing (packets i) })

-- What is known as the messages of two lists with a message between has two such lists and a message.
pub record Parted (how : By) (all before after : List Message) (message : Message) : Type 0 where
  pub front : List Message
  pub its : Message
  pub back : List Message
  pub whole : all ≡ front ++ its ∷ back
  pub front_is : known_all how front ≡ before
  pub its_is : known_one how its ≡ message

pub parted : (how : By) (all before after : List Message) (message : Message)
    → known_all how all ≡ before ++ message ∷ after → Parted how all before after message
parted how [] [] after message same = cc
parted how [] (first ∷ before) after message same = cc
parted how (one ∷ all) [] after message same =
    record { front = []; its = one; back = all; whole = refl; front_is = refl; its_is = (cons_parts _ _ _ _ same).0 }
parted how (one ∷ all) (first ∷ before) after message same =
    let split = cons_parts _ _ _ _ same in
    let rest = parted how all before after message split.1 in
    record {
      front = one ∷ rest.front;
      its = rest.its;
      back = rest.back;
      whole = ap (λ l. one ∷ l) rest.whole;
      front_is = (λ i. split.0 i ∷ rest.front_is i);
      its_is = rest.its_is;
    }
