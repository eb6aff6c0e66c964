-- What a receiver holds at first, and with one message more.
use Rattle.std.proofs.Common.{◌≡◌, ◌≢◌, ◌⊎◌, inl, inr, ⊎_elim, ◌<◌, ◌≤◌, ℕ, zero, suc, Bool, false, List, [], ◌∷◌, ◌++◌}
use Rattle.std.proofs.Common.{Some, None, Ok, length, set, replicate, get_or, slice_get, sym, ap, subst, ◌∙◌, arith}
use Rattle.std.proofs.Common.{refl}
use Rattle.std.specs.Option.{option_map}
use Rattle.std.specs.Vec.{vec_capacity}
use Rattle.std.specs.declared.vec.Vec.{Vec}
use Rattle.std.proofs.lemmas.Bool.{cases_eq}
use Rattle.std.proofs.lemmas.List.{length-set, map-set, length-map, length-replicate, get_or-replicate, set-get_or}
use Rattle.std.proofs.lemmas.Option.{slice_get-map, slice_get_cases, slice_get_within, slice_get-get_or, slice_get_read}
use Rattle.std.proofs.lemmas.Option.{same_Some}
use Rattle.retire.specs.declared.event.Event.{Event}
use Rattle.rvclass.specs.Words.{Words}
use Rattle.payload.specs.Closing.{is_closing_packet}
use Rattle.payload.specs.Reading.{reading}
use Rattle.payload.specs.declared.packet.Packet.{Packet}
use Rattle.decoder.specs.Describes.{Describes}
use Rattle.decoder.specs.DecoderStands.{DecoderStands}
use Rattle.decoder.specs.declared.decoding.Decoder.{Decoder}
use Rattle.message.proofs.AcceptedLemmas.{slice_get-set}
use Rattle.message.proofs.HartMessages.{packets_of-next, packets_of-other, last_is_closing-next}
use Rattle.message.specs.Accepted.{newcomers}
use Rattle.message.specs.Harts.{Harts}
use Rattle.message.specs.OfHart.{packets_of}
use Rattle.message.specs.declared.message.Message.{Message}
use Rattle.receiver.specs.Holds.{AreDecoded, HasReceived, Holds, HoldsHart}
use Rattle.receiver.specs.Received.{IsReceived, IsSameHart, Received, events_in}

-- The list at a place.
pub events_in-at : {A : Type 0} (lists : List (Vec Event A)) (i : ℕ) (list : Vec Event A)
    → slice_get lists i ≡ Some list
    → slice_get (events_in lists) i ≡ Some list.items
events_in-at lists i list is = slice_get-map (λ list. list.items) lists i ∙ ap (option_map (λ list. list.items)) is

-- Each element of a list of one value repeated is that value.
replicate-at : {X : Type 0} (count : ℕ) (y : X) (i : ℕ) (x : X) → slice_get (replicate count y) i ≡ Some x → x ≡ y
replicate-at count y i x is =
    let inside = slice_get_within (replicate count y) i x is in
    let within : i < count = omega (arith, inside, length-replicate count y) in
    same_Some x y
    (sym is ∙ slice_get-get_or (replicate count y) i y inside ∙ ap Some (get_or-replicate count i y y within))

-- A receiver that accepted nothing.
pub received_none : (programs : ℕ → Words) (harts : ℕ) (decoder : Decoder)
    → ((words : Words) → DecoderStands words [] [] decoder)
    → HasReceived programs harts [] (record {
      expected = newcomers harts;
      decoders = replicate harts decoder;
      lists = replicate harts [];
      closed = replicate harts false;
    })
received_none programs harts decoder stands = record {
  accepts = record { accepted = tt; expected = refl };
  holds = record {
    decoders_count = length-replicate harts decoder;
    lists_count = length-replicate harts [];
    closed_count = length-replicate harts false;
    each = λ hart. record {
      stands = λ d l is_d is_l.
          subst (λ d. DecoderStands (programs hart) [] l d) (sym (replicate-at harts decoder hart d is_d))
          (subst (λ l. DecoderStands (programs hart) [] l decoder) (sym (replicate-at harts [] hart l is_l))
          (stands (programs hart)));
      closed = λ flag is. replicate-at harts false hart flag is;
    };
  };
}

-- As many decoders, lists and flags.
pub record HasSameCounts (old new : Received) : Type 0 where
  pub decoders : length new.decoders ≡ length old.decoders
  pub lists : length new.lists ≡ length old.lists
  pub closed : length new.closed ≡ length old.closed

-- What was written at a place, and what stands at the others.
set-here : {X : Type 0} (xs : List X) (at : ℕ) (y : X) (i : ℕ) (x : X) → at ≡ i → slice_get (set xs at y) i ≡ Some x
    → x ≡ y
set-here xs at y i x here is = ⊎_elim (λ it. it.1) (λ apart. absurd (apart.0 here)) (slice_get-set xs at y i x is)

pub set-other : {X : Type 0} (xs : List X) (i : ℕ) (y : X) (j : ℕ) → j ≢ i → slice_get (set xs i y) j ≡ slice_get xs j
set-other [] i y j apart = refl
set-other (a ∷ xs) zero y zero apart = absurd (apart refl)
set-other (a ∷ xs) zero y (suc j) apart = refl
set-other (a ∷ xs) (suc i) y zero apart = refl
set-other (a ∷ xs) (suc i) y (suc j) apart = set-other xs i y j (λ same. apart (ap suc same))

-- What is held of a hart of which nothing changed.
pub holds_same : (words : Words) (hart : ℕ) (packets : List Packet) (old new : Received) → IsSameHart hart old new
    → HoldsHart words hart packets old → HoldsHart words hart packets new
holds_same words hart packets old new same holds = record {
  stands = λ decoder list is_decoder is_list.
      holds.stands decoder list (sym same.decoder ∙ is_decoder) (sym same.list ∙ is_list);
  closed = λ flag is. holds.closed flag (sym same.closed ∙ is);
}

-- Nothing changed of a hart where nothing changed at all.
pub same_hart : (hart : ℕ) (old new : Received) → new ≡ old → IsSameHart hart old new
same_hart hart old new same = record {
  expected = ap (λ (r : Received). slice_get r.expected hart) same;
  decoder = ap (λ (r : Received). slice_get r.decoders hart) same;
  list = ap (λ (r : Received). slice_get r.lists hart) same;
  closed = ap (λ (r : Received). slice_get r.closed hart) same;
}

-- Nor where each of two steps changed nothing of it.
pub same_hart_twice : (hart : ℕ) (old between new : Received) → IsSameHart hart old between
    → IsSameHart hart between new
    → IsSameHart hart old new
same_hart_twice hart old between new one two = record {
  expected = two.expected ∙ one.expected;
  decoder = two.decoder ∙ one.decoder;
  list = two.list ∙ one.list;
  closed = two.closed ∙ one.closed;
}

module _ {A : Type 0} (expected : Harts) (decoders : List Decoder) (lists : List (Vec Event A)) (closed : List Bool)
    (hart at : ℕ) (here : at ≡ hart) where
  -- What stands at the places of all harts, and what does where those of a hart were written.
  abbrev before : Received
  before = record { expected = expected; decoders = decoders; lists = events_in lists; closed = closed }

  abbrev after : Decoder → Vec Event A → Bool → Received
  after decoder list flag =
      record {
        expected = expected;
        decoders = set decoders at decoder;
        lists = events_in (set lists at list);
        closed = set closed at flag;
      }

  -- The list at the hart's place.
  list_here : (list : Vec Event A) (events : List Event) → hart < length (events_in lists) → list ≡ get_or lists at list
      → slice_get (events_in lists) hart ≡ Some events → events ≡ list.items
  list_here list events known is_list is =
      let within : at < length lists =
      omega (arith, known, here, length-map lists (λ (list : Vec Event A). list.items)) in
      let found = events_in-at lists at list (slice_get_read lists (length lists) at list refl within is_list) in
      same_Some events list.items
      (sym is ∙ subst (λ hart. slice_get (events_in lists) hart ≡ Some list.items) here found)

  -- Its room is no less than its length.
  pub longer_here : (list : Vec Event A) (events log : List Event) (received : Received) → before ≡ received
      → hart < length received.lists → list ≡ get_or lists at list → slice_get received.lists hart ≡ Some events
      → vec_capacity list < length log → length events < length log
  longer_here list events log received view known is_list is room =
      let inside = subst (λ (r : Received). hart < length r.lists) (sym view) known in
      let found = subst (λ (r : Received). slice_get r.lists hart ≡ Some events) (sym view) is in
      let same = ap length (list_here list events inside is_list found) in
      omega (arith, same, room, list.ok.0, list.ok.1)

  -- The decoder and the list there stand for what is held of the hart.
  pub stands_here : (words : Words) (packets : List Packet) (decoder : Decoder) (list : Vec Event A)
      (received : Received) → before ≡ received
      → IsReceived before → HoldsHart words hart packets received → hart < length received.lists
      → decoder ≡ get_or decoders at decoder → list ≡ get_or lists at list
      → DecoderStands words packets list.items decoder
  stands_here words packets decoder list received view all given inside is_decoder is_list =
      let holds = subst (HoldsHart words hart packets) (sym view) given in
      let known : hart < length (events_in lists) = subst (λ (r : Received). hart < length r.lists) (sym view) inside in
      let of_decoders : at < length decoders = omega (arith, known, here, all.decoders, all.lists) in
      let of_lists : at < length lists =
      omega (arith, known, here, length-map lists (λ (list : Vec Event A). list.items)) in
      let one = slice_get_read decoders (length decoders) at decoder refl of_decoders is_decoder in
      let two = events_in-at lists at list (slice_get_read lists (length lists) at list refl of_lists is_list) in
      holds.stands decoder list.items (subst (λ hart. slice_get decoders hart ≡ Some decoder) here one)
      (subst (λ hart. slice_get (events_in lists) hart ≡ Some list.items) here two)

  -- The lists where the hart's was written.
  lists_after : (list : Vec Event A) → events_in (set lists at list) ≡ set (events_in lists) at list.items
  lists_after list = map-set (λ (list : Vec Event A). list.items) lists at list

  -- What is held of the hart then.
  pub holds_after : (words : Words) (packets : List Packet) (packet : Packet) (decoder : Decoder) (list : Vec Event A)
      (flag : Bool)
      → flag ≡ is_closing_packet packet → DecoderStands words (packets ++ packet ∷ []) list.items decoder
      → HoldsHart words hart (packets ++ packet ∷ []) (after decoder list flag)
  holds_after words packets packet decoder list flag ends fed = record {
    stands = λ d l is_d is_l.
        let same_d = set-here decoders at decoder hart d here is_d in
        let same_l = set-here (events_in lists) at list.items hart l here
        (sym (ap (λ ls. slice_get ls hart) (lists_after list)) ∙ is_l) in
        subst (λ d. DecoderStands words (packets ++ packet ∷ []) l d) (sym same_d)
        (subst (λ l. DecoderStands words (packets ++ packet ∷ []) l decoder) (sym same_l) fed);
    closed = λ f is. set-here closed at flag hart f here is ∙ ends ∙ sym (last_is_closing-next packets packet);
  }

  -- Of the others nothing changed.
  pub others_after : (decoder : Decoder) (list : Vec Event A) (flag : Bool) (received : Received) → before ≡ received
      → (other : ℕ) → other ≢ hart → IsSameHart other received (after decoder list flag)
  others_after decoder list flag received view other apart =
      let apart_at : other ≢ at = λ same. apart (same ∙ here) in
      subst (λ old. IsSameHart other old (after decoder list flag)) view (record {
        expected = refl;
        decoder = set-other decoders at decoder other apart_at;
        list = ap (λ ls. slice_get ls other) (lists_after list)
            ∙ set-other (events_in lists) at list.items other apart_at;
        closed = set-other closed at flag other apart_at;
      })

  -- There are as many of them.
  pub count_after : (decoder : Decoder) (list : Vec Event A) (flag : Bool)
      → HasSameCounts before (after decoder list flag)
  count_after decoder list flag = record {
    decoders = length-set decoders at decoder;
    lists = ap length (lists_after list) ∙ length-set (events_in lists) at list.items;
    closed = length-set closed at flag;
  }

-- A decoder and a list that were written as they were.
pub written_same : {A : Type 0} (lists : List (Vec Event A)) (hart : ℕ) (before list : Vec Event A)
    → before ≡ get_or lists hart before → list.items ≡ before.items → events_in (set lists hart list) ≡ events_in lists
written_same {A} lists hart before list is_before same =
    let items : Vec Event A → List Event = λ list. list.items in
    let kept : events_in (set lists hart before) ≡ events_in lists =
    ap (λ v. events_in (set lists hart v)) is_before ∙ ap events_in (set-get_or lists hart before) in
    map-set items lists hart list ∙ ap (set (events_in lists) hart) same ∙ sym (map-set items lists hart before) ∙ kept

-- What is held with one message more, by what is held of its hart.
pub holds_more : (programs : ℕ → Words) (harts : ℕ) (messages : List Message) (message : Message) (packet : Packet)
    (old new : Received)
    → Holds programs harts messages old → reading message.payload ≡ Ok packet → HasSameCounts old new
    → HoldsHart (programs message.hart) message.hart (packets_of message.hart messages ++ packet ∷ []) new
    → ((other : ℕ) → other ≢ message.hart → IsSameHart other old new)
    → Holds programs harts (messages ++ message ∷ []) new
holds_more programs harts messages message packet old new holds read counts more others = record {
  decoders_count = counts.decoders ∙ holds.decoders_count;
  lists_count = counts.lists ∙ holds.lists_count;
  closed_count = counts.closed ∙ holds.closed_count;
  each = λ hart. each hart (cases_eq hart message.hart);
}
  where
    all : List Message
    all = messages ++ message ∷ []

    own : HoldsHart (programs message.hart) message.hart (packets_of message.hart all) new
    own =
        subst (λ packets. HoldsHart (programs message.hart) message.hart packets new)
        (sym (packets_of-next messages message packet read)) more

    each : (hart : ℕ) → (hart ≡ message.hart) ⊎ (hart ≢ message.hart)
        → HoldsHart (programs hart) hart (packets_of hart all) new
    each hart (inl here) = subst (λ hart. HoldsHart (programs hart) hart (packets_of hart all) new) (sym here) own
    each hart (inr apart) =
        subst (λ packets. HoldsHart (programs hart) hart packets new)
        (sym (packets_of-other hart messages message (λ same. apart (sym same))))
        (holds_same (programs hart) hart (packets_of hart messages) old new (others hart apart) (holds.each hart))

-- The same where the program is called by another name, and the hart.
pub decoded_more : (programs : ℕ → Words) (harts : ℕ) (messages : List Message) (message : Message) (packet : Packet)
    (words : Words) (hart : ℕ) (old new : Received)
    → programs hart ≡ words → message.hart ≡ hart → reading message.payload ≡ Ok packet
    → Holds programs harts messages old → HasSameCounts old new
    → (HoldsHart words hart (packets_of hart messages) old
    → HoldsHart words hart (packets_of hart messages ++ packet ∷ []) new)
    → ((other : ℕ) → other ≢ hart → IsSameHart other old new)
    → Holds programs harts (messages ++ message ∷ []) new
decoded_more programs harts messages message packet words hart old new program own read holds counts more others =
    holds_more programs harts messages message packet old new holds read counts
    (subst (λ hart. HoldsHart (programs hart) hart (packets_of hart messages ++ packet ∷ []) new) (sym own)
    (subst (λ words. HoldsHart words hart (packets_of hart messages ++ packet ∷ []) new) (sym program)
    (more (subst (λ words. HoldsHart words hart (packets_of hart messages) old) program (holds.each hart)))))
    (λ other apart. others other (λ same. apart (same ∙ sym own)))

-- What is expected has no part in what is held.
pub holds_kept : (programs : ℕ → Words) (harts : ℕ) (messages : List Message) (old new : Received) (expected : Harts)
    → Holds programs harts messages old
    → new ≡ record old { expected = expected } → Holds programs harts messages new
holds_kept programs harts messages old new expected holds same =
    subst (Holds programs harts messages) (sym same) (record {
      decoders_count = holds.decoders_count;
      lists_count = holds.lists_count;
      closed_count = holds.closed_count;
      each = λ hart. record { stands = (holds.each hart).stands; closed = (holds.each hart).closed };
    })

-- The list of a hart that is known, which its packets describe.
pub list_of : (programs : ℕ → Words) (harts : ℕ) (messages : List Message) (hart : ℕ) (received : Received)
    → Holds programs harts messages received
    → hart < length received.lists
    → (list : List Event) × (slice_get received.lists hart ≡ Some list)
    × Describes (programs hart) (packets_of hart messages) list
list_of programs harts messages hart received holds known =
    let list = element received.lists hart known in
    let decoder = element received.decoders hart (omega (arith, known, holds.lists_count, holds.decoders_count)) in
    (list.0, list.1, ((holds.each hart).stands decoder.0 list.0 decoder.1 list.1).described)
  where
    element : {X : Type 0} (xs : List X) (i : ℕ) → i < length xs → (x : X) × (slice_get xs i ≡ Some x)
    element xs i within =
        ⊎_elim (λ found. (found.0, found.2))
        (λ past. absurd (let beyond = past.0 in omega (arith, within, beyond))) (slice_get_cases xs i).1

-- What a receiver holds is what its messages decode to.
pub holds_decoded : (programs : ℕ → Words) (harts : ℕ) (messages : List Message) (received : Received)
    → Holds programs harts messages received
    → AreDecoded programs harts messages received.lists received.closed
holds_decoded programs harts messages received holds = record {
  lists_count = holds.lists_count;
  closed_count = holds.closed_count;
  described = λ hart list is. described hart list is (slice_get_cases received.decoders hart).1;
  are_closed = λ hart. (holds.each hart).closed;
}
  where
    described : (hart : ℕ) (list : List Event) → slice_get received.lists hart ≡ Some list
        → ((decoder : Decoder) × (hart < length received.decoders)
        × (slice_get received.decoders hart ≡ Some decoder) × (get_or received.decoders hart decoder ≡ decoder))
        ⊎ ((length received.decoders ≤ hart) × (slice_get received.decoders hart ≡ None))
        → Describes (programs hart) (packets_of hart messages) list
    described hart list is (inl at) = ((holds.each hart).stands at.0 list at.2 is).described
    described hart list is (inr past) =
        let within = slice_get_within received.lists hart list is in
        let never : ⊥ = omega (arith, within, past.0, holds.lists_count, holds.decoders_count) in
        absurd never
