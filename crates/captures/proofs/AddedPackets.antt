-- Packets whose messages are written, one after another.
use Rattle.std.proofs.Common.{◌≡◌, refl, ℕ, suc, ◌+◌, ◌<◌, All, List, [], ◌∷◌, ◌++◌, length, take, get_or, sym, ap}
use Rattle.std.proofs.Common.{◌∙◌, subst, arith, append_assoc}
use Rattle.std.proofs.lemmas.List.{append-nil, length-append, take_more}
use Rattle.std.proofs.lemmas.List.Elements.{All-get_or}
use Rattle.message.specs.declared.message.Message.{Message}
use Rattle.payload.specs.Profile.{InProfile}
use Rattle.payload.specs.Spelling.{payload_of}
use Rattle.payload.specs.declared.packet.Packet.{Packet}
use Rattle.captures.specs.HasEncoded.{packets_text}
use Rattle.captures.specs.declared.messages.Messages.{Messages}
use Rattle.captures.specs.steps.Adds.{Adds}

module _ (text : Message → List ℕ) where
  -- The messages of packets come after those of the packets in front.
  pub packets_text-append : (hart number : ℕ) (front back : List Packet)
      → packets_text text hart number (front ++ back)
      ≡ packets_text text hart number front ++ packets_text text hart (number + length front) back
  packets_text-append hart number [] back = ap (λ n. packets_text text hart n back) (omega arith)
  packets_text-append hart number (packet ∷ front) back =
      let first = text (record { hart = hart; number = number; payload = payload_of packet }) in
      let next : number + 1 + length front ≡ number + suc (length front) = omega arith in
      let later = packets_text text hart (number + 1) front in
      ap (λ l. first ++ l) (packets_text-append hart (number + 1) front back)
      ∙ sym (append_assoc first later (packets_text text hart (number + 1 + length front) back))
      ∙ ap (λ n. (first ++ later) ++ packets_text text hart n back) next

  -- No packet adds nothing.
  pub adds_none : (messages : Messages) → Adds text [] messages messages
  adds_none messages = record { hart = refl; number = omega arith; bytes = sym (append-nil messages.bytes.items) }

  -- Packets after others.
  pub adds_both : (front back : List Packet) (old mid new : Messages) → Adds text front old mid → Adds text back mid new
      → Adds text (front ++ back) old new
  adds_both front back old mid new first then = record {
    hart = then.hart ∙ first.hart;
    number = omega (arith, then.number, first.number, length-append front back);
    bytes = then.bytes
        ∙ ap (λ h. mid.bytes.items ++ packets_text text h mid.number back) first.hart
        ∙ ap (λ n. mid.bytes.items ++ packets_text text old.hart n back) first.number
        ∙ ap (λ bytes. bytes ++ packets_text text old.hart (old.number + length front) back) first.bytes
        ∙ append_assoc old.bytes.items (packets_text text old.hart old.number front)
        (packets_text text old.hart (old.number + length front) back)
        ∙ ap (λ l. old.bytes.items ++ l) (sym (packets_text-append old.hart old.number front back));
  }

  -- One packet more, if all are of the profile.
  pub adds_more : (packets : List Packet) (i : ℕ) (packet : Packet) (old mid new : Messages) → i < length packets
      → packet ≡ get_or packets i packet → (All InProfile packets → Adds text (take i packets) old mid)
      → (InProfile packet → Adds text (packet ∷ []) mid new) → All InProfile packets
      → Adds text (take (i + 1) packets) old new
  adds_more packets i packet old mid new within is first then all =
      let more : take (i + 1) packets ≡ take i packets ++ packet ∷ [] =
      take_more packets i packet within ∙ ap (λ p. take i packets ++ p ∷ []) (sym is) in
      let one : InProfile packet = subst InProfile (sym is) (All-get_or InProfile packets i packet within all) in
      subst (λ ps. Adds text ps old new) (sym more)
      (adds_both (take i packets) (packet ∷ []) old mid new (first all) (then one))
