-- Payloads that are known by the same bytes.
use Rattle.std.proofs.Common.{◌≡◌, ◌↔◌, ◌⊎◌, ℕ, Bool, true, false, List, Result, Ok, Err, IsTrue, refl, sym, ap, subst, ◌∙◌}
use Rattle.std.proofs.Common.{inl, inr}
use Rattle.std.proofs.lemmas.Slice.Eq.{bytes_eq-Decides}
use Rattle.std.specs.Str.{bytes_eq}
use Rattle.payload.specs.Bytes.{IsBytes}
use Rattle.payload.specs.Profile.{InProfile}
use Rattle.payload.specs.Reading.{reading}
use Rattle.payload.specs.Spelling.{payload_of}
use Rattle.payload.specs.declared.fault.PackFault.{PackFault}
use Rattle.payload.specs.declared.packet.Packet.{Packet}
use Rattle.payload.proofs.ReadingLaws.{reading-found, reading-payload_of}
use Rattle.payload.specs.Same.{known_by, same, shortest_or}
use Rattle.payload.specs.steps.Unpacking.{UnpackAlike}
use Rattle.payload.specs.declared.by.By.{By}
use Rattle.payload.specs.declared.by.By.TheVariants as by

-- Payloads that unpack to one packet are known by the same bytes.
alike_known : (how : By) (sent came : List ℕ) → UnpackAlike how sent came → known_by how came ≡ known_by how sent
alike_known by.Bytes sent came none = absurd none
alike_known by.Packets sent came (packet, is, other) = ap (shortest_or came) other ∙ sym (ap (shortest_or sent) is)

-- Payloads that are known by the same bytes unpack to one packet, or are equal.
known_alike : (how : By) (sent came : List ℕ) → IsBytes sent → IsBytes came → known_by how came ≡ known_by how sent
    → UnpackAlike how sent came ⊎ (came ≡ sent)
known_alike by.Bytes sent came sent_are came_are are = inr are
known_alike by.Packets sent came sent_are came_are are = go (reading sent) refl (reading came) refl are
  where
    go : (r : Result Packet PackFault) → reading sent ≡ r → (q : Result Packet PackFault) → reading came ≡ q
        → shortest_or came q ≡ shortest_or sent r → UnpackAlike by.Packets sent came ⊎ (came ≡ sent)
    go (Ok p) is (Ok q) other same =
        let one = reading-payload_of p (reading-found sent p sent_are is).0 in
        let two = reading-payload_of q (reading-found came q came_are other).0 in
        inl (p, is, other ∙ sym two ∙ ap reading same ∙ one)
    go (Ok p) is (Err why) other same =
        inl (p, is, ap reading same ∙ reading-payload_of p (reading-found sent p sent_are is).0)
    go (Err why) is (Ok q) other same =
        inl (q, ap reading (sym same) ∙ reading-payload_of q (reading-found came q came_are other).0, other)
    go (Err why) is (Err other_why) other same = inr same

one_value : (a b : Bool) → (a ≡ true → b ≡ true) → (b ≡ true → a ≡ true) → a ≡ b
one_value true b there back = sym (there refl)
one_value false true there back = back refl
one_value false false there back = refl

-- Where the bytes differ, payloads are the same if and only if they unpack to one packet.
pub otherwise : (how : By) (sent came : List ℕ) (answer : Bool) → IsBytes sent → IsBytes came
    → IsTrue answer ↔ UnpackAlike how sent came → (came ≡ sent → ⊥) → answer ≡ same how sent came
otherwise how sent came answer sent_are came_are is differ =
    let decides = bytes_eq-Decides (known_by how came) (known_by how sent) in
    one_value answer (same how sent came) (λ yes. decides.1 (alike_known how sent came (is.0 yes)))
    (λ yes. elim (known_alike how sent came sent_are came_are (decides.0 yes)) [
      | inl alike ↦ is.1 alike
      | inr equal ↦ absurd (differ equal)
    ])

-- By packets, what came unpacks to the packet that was sent.
pub by_packet : (how : By) (sent came : List ℕ) (packet : Packet) → how ≡ by.Packets → reading sent ≡ Ok packet
    → UnpackAlike how sent came ↔ (reading came ≡ Ok packet)
by_packet how sent came packet is sent_is = (
  λ alike. there (subst (λ h. UnpackAlike h sent came) is alike),
  λ came_is. subst (λ h. UnpackAlike h sent came) (sym is) (packet, sent_is, came_is),
)
  where
    there : UnpackAlike by.Packets sent came → reading came ≡ Ok packet
    there (p, is, other) = other ∙ sym is ∙ sent_is

-- What does not unpack unpacks to no packet.
pub by_no_packet : (how : By) (sent came : List ℕ) (why : PackFault) → how ≡ by.Packets → reading sent ≡ Err why
    → UnpackAlike how sent came → ⊥
by_no_packet how sent came why is sent_is alike = none (subst (λ h. UnpackAlike h sent came) is alike)
  where
    never : (p : Packet) (r : Result Packet PackFault) → r ≡ Ok p → r ≡ Err why → ⊥
    never p r one other = cc

    none : UnpackAlike by.Packets sent came → ⊥
    none (p, is, other) = never p (reading sent) is sent_is

-- Whether two answers of unpacking are one packet.
pub alike_by : (how : By) (sent came : List ℕ) (p q : Packet) (answer : Bool) → how ≡ by.Packets → reading sent ≡ Ok p
    → reading came ≡ Ok q → (answer ≡ true → p ≡ q) → (p ≡ q → answer ≡ true)
    → IsTrue answer ↔ UnpackAlike how sent came
alike_by how sent came p q answer is sent_is came_is there back = (
  λ yes. subst (λ h. UnpackAlike h sent came) (sym is) (p, sent_is, came_is ∙ ap Ok (sym (there yes))),
  λ alike. back (one_packet (subst (λ h. UnpackAlike h sent came) is alike)),
)
  where
    same_ok : (a b : Packet) (r : Result Packet PackFault) → r ≡ Ok a → r ≡ Ok b → a ≡ b
    same_ok a b r one other = cc

    one_packet : UnpackAlike by.Packets sent came → p ≡ q
    one_packet (x, one, other) =
        same_ok p x (reading sent) sent_is one ∙ same_ok x q (reading came) other came_is

-- By packets, a payload that unpacks is known by the shortest one of its packet.
pub known_shortest : (how : By) (payload : List ℕ) (packet : Packet) → how ≡ by.Packets → reading payload ≡ Ok packet
    → payload_of packet ≡ known_by how payload
known_shortest how payload packet is read = sym (ap (λ h. known_by h payload) is ∙ ap (shortest_or payload) read)

-- It unpacks to what the bytes that it is known by unpack to.
pub reading-known : (how : By) (payload : List ℕ) → IsBytes payload → reading (known_by how payload) ≡ reading payload
reading-known by.Bytes payload are = refl
reading-known by.Packets payload are = go (reading payload) refl
  where
    go : (r : Result Packet PackFault) → reading payload ≡ r → reading (shortest_or payload r) ≡ reading payload
    go (Ok packet) read = reading-payload_of packet (reading-found payload packet are read).0 ∙ sym read
    go (Err why) read = refl

-- Packets with the same shortest payload are one packet.
pub one_packet : (p q : Packet) (p_bytes q_bytes : List ℕ) (answer : Bool) → InProfile p → InProfile q
    → p_bytes ≡ payload_of p → q_bytes ≡ payload_of q → answer ≡ bytes_eq p_bytes q_bytes → IsTrue answer ↔ (p ≡ q)
one_packet p q p_bytes q_bytes answer p_in q_in p_is q_is is =
    let decides = bytes_eq-Decides p_bytes q_bytes in (
      λ yes. same_ok (reading (payload_of p)) (reading-payload_of p p_in)
          (ap reading (sym p_is ∙ decides.0 (sym is ∙ yes) ∙ q_is) ∙ reading-payload_of q q_in),
      λ same. is ∙ decides.1 (p_is ∙ ap payload_of same ∙ sym q_is),
    )
  where
    same_ok : (r : Result Packet PackFault) → r ≡ Ok p → r ≡ Ok q → p ≡ q
    same_ok r one other = cc
