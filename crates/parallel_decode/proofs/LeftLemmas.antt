-- What is left of a hart's events, and what is handed out of it.
use Rattle.std.proofs.Common.{◌≡◌, ◌+◌, ◌-◌, ◌≤◌, ◌<◌, ℕ, List, [], ◌∷◌, ◌++◌, Option, None, Some, Ok, drop, get_or, length, take}
use Rattle.std.proofs.Common.{arith, append_assoc, append-nil, ap, false, inl, inr, subst, sym, take-append-drop, true≢false, ◌∙◌, ◌⊎◌, ◌==◌}
use Rattle.std.proofs.Math.Seq.{drop-append_seam, take-append_seam}
use Rattle.std.proofs.lemmas.List.{append_cancel_left, length-append, take_all}
use Rattle.std.proofs.lemmas.Option.{same_Some}
use Rattle.retire.specs.declared.event.Event.{Event}
use Rattle.rvclass.specs.Fetch.{words_of}
use Rattle.rvclass.specs.Words.{Words}
use Rattle.legalpath.specs.Join.{join}
use Rattle.payload.specs.Reading.{reading}
use Rattle.payload.specs.declared.packet.Packet.{Packet}
use Rattle.decoder.proofs.ExtendingLemmas.{IsBeginning, front_describes}
use Rattle.decoder.specs.Describes.{Describes}
use Rattle.decoder.specs.DecoderStands.{DecoderStands}
use Rattle.decoder.specs.ModeOf.{mode_of}
use Rattle.decoder.specs.Pieces.{Pieces}
use Rattle.decoder.specs.declared.decoding.Decoder.{Decoder}
use Rattle.message.proofs.HartMessages.{packets_in-append, packets_in-cons}
use Rattle.message.specs.OfHart.{packets_in}
use Rattle.message.specs.declared.message.Message.{Message}
use Rattle.parallel_decode.proofs.PlaceLemmas.{Placed, place-at, places-length}
use Rattle.parallel_decode.specs.Places.{IsAt}
use Rattle.parallel_decode.specs.Left.{HasDecoded, HasLeft, left_of}
use Rattle.parallel_decode.specs.declared.events.HartEvents.{HartEvents}
use Rattle.parallel_decode.specs.steps.Handing.{Hands}

-- No packets describe no events.
no_events : (words : Words) (log : List Event) → Describes words [] log → log ≡ []
no_events words log described = go described.pieces described.each described.whole
  where
    go : (pieces : List (List Event)) → Pieces words (mode_of []) None 0 [] None pieces → log ≡ join pieces → log ≡ []
    go [] each whole = whole
    go (piece ∷ pieces) each whole = absurd each

-- At first a decoder has no packet.
pub none_decoded : (words : Words) (messages : List Message) (decoder : Decoder) → DecoderStands words [] [] decoder
    → HasDecoded words messages 0 [] decoder
none_decoded words messages decoder stands = record {
  stands = stands;
  only = λ other described. no_events words other described;
}

-- What the first of some messages describe begins what all describe.
begins : (words : Words) (messages : List Message) (count : ℕ) (log front : List Event)
    → Describes words (packets_in messages) log
    → ((other : List Event) → Describes words (packets_in (take count messages)) other → other ≡ front)
    → IsBeginning front log
begins words messages count log front described only =
    let packets : packets_in messages ≡ packets_in (take count messages) ++ packets_in (drop count messages) =
    ap packets_in (sym (take-append-drop count messages))
    ∙ packets_in-append (take count messages) (drop count messages) in
    let first = front_describes words (packets_in (take count messages)) (packets_in (drop count messages)) log
    (subst (λ ps. Describes words ps log) packets described) in
    subst (λ l. IsBeginning l log) (only _ first.0) first.1

module _ (rest : List Event) (events : HartEvents) (has : HasLeft rest events) where
  abbrev pub words : Words
  words = words_of events.program.now

  abbrev pub messages : List Message
  messages = has.is.messages

  -- What is left begins with the events of the last message that are not handed out.
  pub later : (later : List Event) × (rest ≡ left_of events.left ++ later)
  later =
      let front = begins words messages events.taken has.log has.front has.is.described has.decoded.only in (
        front.rest,
        append_cancel_left has.handed rest (left_of events.left ++ front.rest)
            (sym has.whole ∙ front.is ∙ ap (λ l. l ++ front.rest) has.front_is
            ∙ append_assoc has.handed (left_of events.left) front.rest),
      )

  -- Some of these are handed out.
  pub handed_out : (some : List Event) (left : Option (List Event)) (before after : List Event)
      → left_of events.left ≡ some ++ left_of left → after ≡ before ++ some
      → Hands rest before after (record events { left = left })
  handed_out some left before after split appended =
      let whole : rest ≡ some ++ (left_of left ++ later.0) =
      later.1 ∙ ap (λ l. l ++ later.0) split ∙ append_assoc some (left_of left) later.0 in record {
        handed = some;
        left = left_of left ++ later.0;
        whole = whole;
        appended = appended;
        has = record {
          log = has.log;
          is = has.is;
          front = has.front;
          decoded = has.decoded;
          handed = has.handed ++ some;
          front_is = has.front_is ∙ ap (λ l. has.handed ++ l) split ∙ sym (append_assoc has.handed some (left_of left));
          whole = has.whole ∙ ap (λ l. has.handed ++ l) whole ∙ sym (append_assoc has.handed some (left_of left ++ later.0));
        };
      }

  -- After the last message no others are left.
  pub none_after : length events.places.now ≤ events.taken → rest ≡ left_of events.left
  none_after over =
      let same = places-length (IsAt events.bytes.now) events.places.now messages has.is.placed in
      let all = take_all events.taken messages (omega (arith, over, same)) in
      let log = has.decoded.only has.log (subst (λ ms. Describes words (packets_in ms) has.log) (sym all) has.is.described) in
      append_cancel_left has.handed rest (left_of events.left) (sym has.whole ∙ log ∙ has.front_is)

  module _ (any : ℕ) (inside : events.taken < length events.places.now) where
    -- The place of the next message.
    abbrev pub place : ℕ
    place = get_or events.places.now events.taken any

    -- The next message, and its packet.
    pub next : Placed (IsAt events.bytes.now) messages events.taken place
    next = place-at (IsAt events.bytes.now) events.places.now messages events.taken any has.is.placed inside

    abbrev pub packet : Packet
    packet = next.is_at.read.packet

    abbrev pub packets : List Packet
    packets = packets_in (take events.taken messages)

    one_more : packets_in (take (events.taken + 1) messages) ≡ packets ++ packet ∷ []
    one_more =
        ap packets_in next.next ∙ packets_in-append (take events.taken messages) (next.message ∷ [])
        ∙ ap (λ l. packets ++ l) (packets_in-cons next.message [] packet next.is_at.read.read)

    all_packets : packets_in messages ≡ (packets ++ packet ∷ []) ++ packets_in next.later
    all_packets =
        ap packets_in next.whole ∙ packets_in-append (take events.taken messages) (next.message ∷ next.later)
        ∙ ap (λ l. packets ++ l) (packets_in-cons next.message next.later packet next.is_at.read.read)
        ∙ sym (append_assoc packets (packet ∷ []) (packets_in next.later))

    -- With it a beginning of the log is described too.
    pub described : (log : List Event) × Describes words (packets ++ packet ∷ []) log × IsBeginning log has.log
    described =
        let first = front_describes words (packets ++ packet ∷ []) (packets_in next.later) has.log
        (subst (λ ps. Describes words ps has.log) all_packets has.is.described) in
        (_, first.0, first.1)

    -- The packet that is found there is this one, and one is found.
    pub is_found : (answer : Option Packet) (found : Packet)
        → ((message : Message) (packet : Packet) → IsAt events.bytes.now place message
        → reading message.payload ≡ Ok packet → answer ≡ Some packet) → answer ≡ Some found → found ≡ packet
    is_found answer found finds is =
        same_Some found packet (sym is ∙ finds next.message packet next.is_at next.is_at.read.read)

    pub never_none : (answer : Option Packet)
        → ((message : Message) (packet : Packet) → IsAt events.bytes.now place message
        → reading message.payload ≡ Ok packet → answer ≡ Some packet) → answer ≡ None → ⊥
    never_none answer finds is =
        let some = finds next.message packet next.is_at next.is_at.read.read in
        let none = is in
        absurd cc

    -- It is decoded, and some of its events are appended to the piece.
    pub decoded_more : (found : Packet) → found ≡ packet → (some left before after : List Event) (decoder : Decoder)
        → left_of events.left ≡ [] → after ≡ before ++ some
        → DecoderStands words (packets ++ found ∷ []) (has.front ++ (some ++ left)) decoder
        → ((other : List Event) → Describes words (packets ++ found ∷ []) other → other ≡ has.front ++ (some ++ left))
        → Hands rest before after (record events { taken = events.taken + 1; decoder = decoder; left = Some left })
    decoded_more found same some left before after decoder empty appended stands_found only_found =
        let stands = subst (λ p. DecoderStands words (packets ++ p ∷ []) (has.front ++ (some ++ left)) decoder) same
        stands_found in
        let only = subst (λ p. (other : List Event) → Describes words (packets ++ p ∷ []) other
        → other ≡ has.front ++ (some ++ left)) same only_found in
        let front : has.front ≡ has.handed = has.front_is ∙ ap (λ l. has.handed ++ l) empty ∙ append-nil has.handed in
        let begun = subst (λ l. IsBeginning l has.log) (only described.0 described.1) described.2 in
        let log : has.log ≡ has.handed ++ (some ++ (left ++ begun.rest)) =
        begun.is ∙ ap (λ l. (l ++ (some ++ left)) ++ begun.rest) front
        ∙ append_assoc has.handed (some ++ left) begun.rest
        ∙ ap (λ l. has.handed ++ l) (append_assoc some left begun.rest) in
        let whole : rest ≡ some ++ (left ++ begun.rest) =
        append_cancel_left has.handed rest (some ++ (left ++ begun.rest)) (sym has.whole ∙ log) in record {
          handed = some;
          left = left ++ begun.rest;
          whole = whole;
          appended = appended;
          has = record {
            log = has.log;
            is = has.is;
            front = has.front ++ (some ++ left);
            decoded = record {
              stands = subst (λ ps. DecoderStands words ps (has.front ++ (some ++ left)) decoder) (sym one_more) stands;
              only = λ other is. only other (subst (λ ps. Describes words ps other) one_more is);
            };
            handed = has.handed ++ some;
            front_is = ap (λ l. l ++ (some ++ left)) front ∙ sym (append_assoc has.handed some left);
            whole = log ∙ sym (append_assoc has.handed some (left ++ begun.rest));
          };
        }

-- More is handed out of what is left.
pub hands_more : (rest before middle after : List Event) (events later : HartEvents)
    → (first : Hands rest before middle events) → Hands first.left middle after later → Hands rest before after later
hands_more rest before middle after events later first second = record {
  handed = first.handed ++ second.handed;
  left = second.left;
  whole =
      first.whole ∙ ap (λ l. first.handed ++ l) second.whole
      ∙ sym (append_assoc first.handed second.handed second.left);
  appended =
      second.appended ∙ ap (λ l. l ++ second.handed) first.appended
      ∙ append_assoc before first.handed second.handed;
  has = second.has;
}

-- So many events were handed out, and those after them are left.
pub record HasHanded (rest before after : List Event) (count : ℕ) (events : HartEvents) : Type 0 where
  pub appended : after ≡ before ++ take count rest
  pub left : HasLeft (drop count rest) events

module _ (rest before after : List Event) (count : ℕ) (events : HartEvents) (hands : Hands rest before after events) where
  long : length after ≡ length before + length hands.handed
  long = ap length hands.appended ∙ length-append before hands.handed

  -- The piece is full.
  pub handed_full : length after ≡ length before + count → HasHanded rest before after count events
  handed_full full =
      let same : length hands.handed ≡ count = omega (arith, long, full) in
      let first : take count rest ≡ hands.handed =
      ap (λ n. take n rest) (sym same) ∙ ap (take (length hands.handed)) hands.whole
      ∙ take-append_seam hands.handed hands.left in
      let others : drop count rest ≡ hands.left =
      ap (λ n. drop n rest) (sym same) ∙ ap (drop (length hands.handed)) hands.whole
      ∙ drop-append_seam hands.handed hands.left in record {
        appended = hands.appended ∙ ap (λ l. before ++ l) (sym first);
        left = subst (λ l. HasLeft l events) (sym others) hands.has;
      }

  -- No events are left.
  pub handed_all : hands.left ≡ [] → length after ≤ length before + count → HasHanded rest before after count events
  handed_all none few =
      let whole : rest ≡ hands.handed =
      hands.whole ∙ ap (λ l. hands.handed ++ l) none ∙ append-nil hands.handed in
      let count_rest = ap length whole in
      let first : take count rest ≡ rest = take_all count rest (omega (arith, long, few, count_rest)) in
      let others : drop count rest ≡ hands.left =
      append_cancel_left (take count rest) (drop count rest) hands.left
      (take-append-drop count rest ∙ hands.whole ∙ ap (λ l. l ++ hands.left) (sym whole ∙ sym first)) in record {
        appended = hands.appended ∙ ap (λ l. before ++ l) (sym whole ∙ sym first);
        left = subst (λ l. HasLeft l events) (sym others) hands.has;
      }

  -- So many were handed out as there was room for.
  pub full : (room : ℕ) → count ≡ room - length before → length after ≡ room → HasHanded rest before after count events
  full room is same = handed_full (omega (arith, long, is, same))

  -- Or all, after the last message.
  pub ended : (room : ℕ) → count ≡ room - length before → length events.places.now ≤ events.taken
      → (left_of events.left ≡ []) ⊎ (length after ≡ room) → length after ≤ room → HasHanded rest before after count events
  ended room is over (inl empty) few =
      handed_all (none_after hands.left events hands.has over ∙ empty) (omega (arith, long, is, few))
  ended room is over (inr same) few = full room is same

-- Some of the events that were left are handed out, and so many messages are decoded.
pub record Going (rest before after : List Event) (taken : ℕ) (events : HartEvents) : Type 0 where
  pub hands : Hands rest before after events
  pub taken_is : events.taken ≡ taken

-- Where decoded events are left, the piece is full.
pub piece_full : (left : List Event) (len room : ℕ) → (left ≡ []) ⊎ (len ≡ room) → (length left == 0) ≡ false
    → len ≡ room
piece_full left len room (inl none) some =
    absurd (true≢false (ap (λ (l : List Event). length l == 0) (sym none) ∙ some))
piece_full left len room (inr is) some = is
