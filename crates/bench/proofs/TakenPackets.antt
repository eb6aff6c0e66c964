-- The packets of messages that carry the first payloads of a log, and whether they have ended.
use Rattle.std.proofs.Common.{◌≡◌, ◌≤◌, ◌==◌, ◌⊎◌, inl, inr, ℕ, zero, suc, Bool, true, false, All, List, [], ◌∷◌, ◌++◌}
use Rattle.std.proofs.Common.{Option, Some, None, length, map, take, slice_get, get_or, refl, sym, ap, ◌∙◌, arith}
use Rattle.std.specs.List.{last_or}
use Rattle.std.proofs.lemmas.Bool.{eq-eqb, ne_eqb, cases_eq}
use Rattle.std.proofs.lemmas.List.{take_all}
use Rattle.std.proofs.lemmas.List.Elements.{All-head, All-tail}
use Rattle.std.proofs.lemmas.Option.{slice_get-get_or}
use Rattle.retire.specs.declared.event.Event.{Event}
use Rattle.rvclass.specs.Words.{Words}
use Rattle.payload.proofs.ReadingLaws.{reading-payload_of}
use Rattle.payload.specs.Closing.{is_closing_packet}
use Rattle.payload.specs.ClosedTrace.{closes, last_is_closing}
use Rattle.payload.specs.Profile.{InProfile}
use Rattle.payload.specs.Reading.{reading}
use Rattle.payload.specs.Spelling.{payload_of}
use Rattle.payload.specs.declared.mode.Mode.{Mode}
use Rattle.payload.specs.declared.packet.Packet.{Packet}
use Rattle.payload.specs.declared.packet.Packet.TheVariants as packet
use Rattle.payload.specs.declared.packet.Support.TheVariants.{Open}
use Rattle.encoder.proofs.ClosingPacket.{packets_end}
use Rattle.encoder.specs.Packets.{packets}
use Rattle.message.specs.OfHart.{packet_or_none, packets_in}
use Rattle.message.specs.declared.message.Message.{Message}
use Rattle.funnel.specs.Payloads.{payloads_in}
use Rattle.bench.proofs.ClosingLast.{packets_close_last}

-- Messages that carry the first payloads of packets have no more than them, and are theirs.
pub record AreFirst (messages : List Message) (ps : List Packet) : Type 0 where
  pub few : length messages ≤ length ps
  pub packets : packets_in messages ≡ take (length messages) ps

pub first_packets : (messages : List Message) (ps : List Packet) → All InProfile ps
    → payloads_in messages ≡ take (length messages) (map payload_of ps) → AreFirst messages ps
first_packets [] ps profile carried = record { few = omega arith; packets = refl }
first_packets (message ∷ messages) [] profile carried = cc
first_packets (message ∷ messages) (one ∷ ps) profile carried =
    let head : message.payload ≡ payload_of one = cc in
    let rest : payloads_in messages ≡ take (length messages) (map payload_of ps) = cc in
    let behind = first_packets messages ps (All-tail InProfile one ps profile) rest in
    let read = ap reading head ∙ reading-payload_of one (All-head InProfile one ps profile) in
    record {
      few = omega (arith, behind.few);
      packets = ap (λ r. packet_or_none r ++ packets_in messages) read ∙ ap (λ later. one ∷ later) behind.packets;
    }

-- The last of the first elements is the one at the last of their places.
last_or-take : {X : Type 0} (b : Option X) (xs : List X) (n : ℕ) (x : X) → slice_get xs n ≡ Some x
    → last_or b (take (suc n) xs) ≡ Some x
last_or-take b [] n x is = cc
last_or-take b (a ∷ xs) zero x is = is
last_or-take b (a ∷ xs) (suc n) x is = last_or-take (Some a) xs n x is

module _ (words : Words) (period : ℕ) (mode : Mode) (log : List Event) where
  -- The first packets of a log have ended exactly where they are all.
  pub first_ended : (count : ℕ) → count ≤ length (packets words period mode log)
      → last_is_closing (take count (packets words period mode log)) ≡ (count == length (packets words period mode log))
  first_ended zero few = sym (ne_eqb zero (length (packets words period mode log)) (λ same. omega (arith, same)))
  first_ended (suc n) few = by_count (cases_eq (suc n) (length all))
    where
      all : List Packet
      all = packets words period mode log

      last : Packet
      last = get_or all n (packet.Support (Open mode))

      at : slice_get all n ≡ Some last
      at = slice_get-get_or all n (packet.Support (Open mode)) (omega (arith, few))

      ended : last_is_closing (take (suc n) all) ≡ is_closing_packet last
      ended = ap closes (last_or-take None all n last at)

      going : (suc n ≡ length all → ⊥) → (flag : Bool) → is_closing_packet last ≡ flag → flag ≡ false
      going other true ends = absurd (other (sym (packets_close_last words period mode log n last at ends)))
      going other false ends = refl

      by_count : (suc n ≡ length all) ⊎ (suc n ≡ length all → ⊥)
          → last_is_closing (take (suc n) all) ≡ (suc n == length all)
      by_count (inl whole) =
          ap last_is_closing (take_all (suc n) all (omega (arith, whole)))
          ∙ packets_end words period mode log
          ∙ sym (eq-eqb (suc n) (length all) whole)
      by_count (inr other) = ended ∙ going other (is_closing_packet last) refl ∙ sym (ne_eqb (suc n) (length all) other)
