-- The rows of a hart so far, and with one packet more.
use Rattle.std.proofs.Common.{◌≡◌, ◌+◌, ◌≤◌, ◌<◌, ℕ, List, [], ◌∷◌, ◌++◌, Option, None, Ok, Err, Result, get_or, length, take}
use Rattle.std.proofs.Common.{OnOk, Some, arith, append_assoc, append-nil, ap, subst, sym, ◌∙◌}
use Rattle.std.proofs.lemmas.List.{append_cancel_left, take_all}
use Rattle.std.proofs.lemmas.Option.{same_Some}
use Rattle.output.specs.Begun.{AppendsBeginning}
use Rattle.retire.specs.declared.event.Event.{Event}
use Rattle.retire.specs.declared.fault.WriteFault.{WriteFault}
use Rattle.rvclass.specs.Words.{Words}
use Rattle.payload.specs.Reading.{reading}
use Rattle.payload.specs.declared.packet.Packet.{Packet}
use Rattle.decoder.proofs.ExtendingLemmas.{IsBeginning, front_describes}
use Rattle.decoder.specs.Describes.{Describes}
use Rattle.decoder.specs.DecoderStands.{DecoderStands}
use Rattle.decoder.specs.declared.decoding.Decoder.{Decoder}
use Rattle.message.proofs.HartMessages.{packets_in-append, packets_in-cons}
use Rattle.message.specs.OfHart.{packets_in}
use Rattle.message.specs.declared.message.Message.{Message}
use Rattle.parallel_decode.proofs.PlaceLemmas.{Placed, place-at, places-length}
use Rattle.parallel_decode.proofs.SplitLemmas.{more_begun, rows, rows_in_front, split_more, split_none}
use Rattle.retire.specs.Split.{Split}
use Rattle.parallel_decode.specs.Places.{IsAt}
use Rattle.parallel_decode.specs.Parts.{IsPart}
use Rattle.parallel_decode.specs.steps.Rows.{AddsRows, IsNextPacket}

module _ (words : Words) (bytes places : List ℕ) (first : Decoder) (part : List Event)
    (is : IsPart words bytes places first part) where
  -- The packets of the first messages of the part, after those before it.
  abbrev pub first_packets : ℕ → List Packet
  first_packets count = is.packets ++ packets_in (take count is.messages)

  -- A decoder has the packets of the first messages of the part, which describe these events alone. Their rows are
  -- written, or held.
  pub record Reached (count : ℕ) (decoder : Decoder) (start room : List ℕ) (old new : Option (List ℕ)) : Type 0 where
    pub done : List Event
    pub stands : DecoderStands words (first_packets count) (is.before ++ done) decoder
    pub only : (other : List Event) → Describes words (first_packets count) other → other ≡ is.before ++ done
    pub text : Split old new room (start ++ rows done)

  module _ (start : List ℕ) (old : Option (List ℕ)) where
    -- At first no packet of the part is decoded.
    pub reached_none : Reached 0 first start start old old
    reached_none = record {
      done = [];
      stands = subst (λ ps. DecoderStands words ps (is.before ++ []) first) (sym (append-nil is.packets))
          (subst (λ l. DecoderStands words is.packets l first) (sym (append-nil is.before)) is.stands);
      only = λ other described.
          is.only other (subst (λ ps. Describes words ps other) (append-nil is.packets) described)
          ∙ sym (append-nil is.before);
      text = split_none old start;
    }

    module _ (count : ℕ) (decoder : Decoder) (room : List ℕ) (mid : Option (List ℕ))
        (r : Reached count decoder start room old mid) where
      -- Of events that come after those before the part, the first are a beginning.
      within : (done : List Event) → IsBeginning (is.before ++ done) (is.before ++ part) → IsBeginning done part
      within done front = record {
        rest = front.rest;
        is = append_cancel_left is.before part (done ++ front.rest)
            (front.is ∙ append_assoc is.before done front.rest);
      }

      -- At last all rows are written, or held.
      pub reached_all : length places ≤ count → Split old mid room (start ++ rows part)
      reached_all over =
          let same = places-length (IsAt bytes) places is.messages is.placed in
          let all = take_all count is.messages (omega (arith, over, same)) in
          let log = r.only (is.before ++ part)
          (subst (λ ms. Describes words (is.packets ++ packets_in ms) (is.before ++ part)) (sym all) is.described) in
          subst (λ l. Split old mid room (start ++ rows l)) (sym (append_cancel_left is.before part r.done log)) r.text

      module _ (any : ℕ) (inside : count < length places) where
        -- The place of the next message.
        abbrev pub place : ℕ
        place = get_or places count any

        -- The next message, and its packet.
        pub next : Placed (IsAt bytes) is.messages count place
        next = place-at (IsAt bytes) places is.messages count any is.placed inside

        abbrev pub packet : Packet
        packet = next.is_at.read.packet

        one_more : first_packets (count + 1) ≡ first_packets count ++ packet ∷ []
        one_more =
            ap (λ l. is.packets ++ l)
            (ap packets_in next.next ∙ packets_in-append (take count is.messages) (next.message ∷ [])
            ∙ ap (λ l. packets_in (take count is.messages) ++ l)
            (packets_in-cons next.message [] packet next.is_at.read.read))
            ∙ sym (append_assoc is.packets (packets_in (take count is.messages)) (packet ∷ []))

        all_packets : is.packets ++ packets_in is.messages
            ≡ (first_packets count ++ packet ∷ []) ++ packets_in next.later
        all_packets =
            ap (λ l. is.packets ++ l)
            (ap packets_in next.whole ∙ packets_in-append (take count is.messages) (next.message ∷ next.later)
            ∙ ap (λ l. packets_in (take count is.messages) ++ l)
            (packets_in-cons next.message next.later packet next.is_at.read.read))
            ∙ sym (append_assoc is.packets (packets_in (take count is.messages)) (packet ∷ packets_in next.later))
            ∙ sym (append_assoc (first_packets count) (packet ∷ []) (packets_in next.later))

        -- With it a beginning of the log is described too.
        described : (log : List Event) × Describes words (first_packets count ++ packet ∷ []) log
            × IsBeginning log (is.before ++ part)
        described =
            let first = front_describes words (first_packets count ++ packet ∷ []) (packets_in next.later)
            (is.before ++ part) (subst (λ ps. Describes words ps (is.before ++ part)) all_packets is.described) in
            (_, first.0, first.1)

        -- The packet that is found there is this one, and one is found.
        pub is_found : (answer : Option Packet) (found : Packet)
            → ((message : Message) (packet : Packet) → IsAt bytes place message → reading message.payload ≡ Ok packet
            → answer ≡ Some packet) → answer ≡ Some found → found ≡ packet
        is_found answer found finds is =
            same_Some found packet (sym is ∙ finds next.message packet next.is_at next.is_at.read.read)

        pub never_none : (answer : Option Packet)
            → ((message : Message) (packet : Packet) → IsAt bytes place message → reading message.payload ≡ Ok packet
            → answer ≡ Some packet) → answer ≡ None → ⊥
        never_none answer finds is =
            let some = finds next.message packet next.is_at next.is_at.read.read in
            let none = is in
            absurd cc

        module _ (found : Packet) (same : found ≡ packet) where
          -- So it can be decoded next.
          pub can_follow : IsNextPacket words found decoder
          can_follow = record {
            packets = first_packets count;
            before = is.before ++ r.done;
            stands = r.stands;
            log = described.0;
            described = subst (λ p. Describes words (first_packets count ++ p ∷ []) described.0) (sym same) described.1;
          }

          module _ (decoder' : Decoder) (ended : Result Unit WriteFault) (room' : List ℕ) (new : Option (List ℕ))
              (got : AddsRows words (first_packets count) (is.before ++ r.done) found decoder' ended room room' mid new) where
            adds : AddsRows words (first_packets count) (is.before ++ r.done) packet decoder' ended room room' mid new
            adds = subst (λ p. AddsRows words (first_packets count) (is.before ++ r.done) p decoder' ended room room' mid new)
                same got

            behind : (is.before ++ r.done) ++ adds.added ≡ is.before ++ (r.done ++ adds.added)
            behind = append_assoc is.before r.done adds.added

            -- Its rows come behind those before.
            pub reached_more : OnOk ended (Reached (count + 1) decoder' start room' old new)
            reached_more = go ended adds.rows
              where
                go : (ended : Result Unit WriteFault) → OnOk ended (Split mid new room' (room ++ rows adds.added))
                    → OnOk ended (Reached (count + 1) decoder' start room' old new)
                go (Ok _) written = record {
                  done = r.done ++ adds.added;
                  stands = subst (λ l. DecoderStands words (first_packets (count + 1)) l decoder') behind
                      (subst (λ ps. DecoderStands words ps ((is.before ++ r.done) ++ adds.added) decoder')
                      (sym one_more) adds.stands);
                  only = λ other is_other.
                      adds.only other (subst (λ ps. Describes words ps other) one_more is_other) ∙ behind;
                  text = split_more old mid new start room room' r.done adds.added r.text written;
                }
                go (Err _) written = tt

            -- Or a beginning of them.
            pub next_begun : AppendsBeginning (start ++ rows part) old new
            next_begun =
                let log = adds.only described.0 described.1 ∙ behind in
                let begins = within (r.done ++ adds.added)
                (subst (λ l. IsBeginning l (is.before ++ part)) log described.2) in
                rows_in_front old new start (r.done ++ adds.added) begins.rest part begins.is
                (more_begun old mid new start room r.done adds.added r.text adds.begun)
