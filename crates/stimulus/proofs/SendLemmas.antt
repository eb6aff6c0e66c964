-- What harts have sent, with more messages of one of them.
use Rattle.std.proofs.Common.{◌≡◌, ◌≢◌, ◌⊎◌, inl, inr, ◌<◌, ◌≤◌, ◌+◌, ◌∙◌, ℕ, zero, suc, List, [], ◌∷◌, ◌++◌, Option}
use Rattle.std.proofs.Common.{Some, arith, length, map, take, drop, set, slice_get, get_or, append_assoc, ap, refl}
use Rattle.std.proofs.Common.{replicate, subst, sym, true, drop_at}
use Rattle.std.proofs.KnownBytes.{Appends-nil, Appends-trans}
use Rattle.std.proofs.lemmas.List.{append-nil, length-append, length-map, length-replicate, length-set, length_push}
use Rattle.std.proofs.lemmas.List.{map-append, take-append-drop, take_all, take_more, set_past, drop_more}
use Rattle.std.proofs.lemmas.Bool.{cases_lt}
use Rattle.std.proofs.lemmas.List.Elements.{All-get_or}
use Rattle.std.proofs.lemmas.Option.{same_Some, slice_get-get_or, slice_get_past}
use Rattle.std.specs.Prelude.{All, OnOk, Result, Ok, Err}
use Rattle.std.specs.Io.KnownBytes.{Appends}
use Rattle.output.specs.Begun.{AppendsBeginning}
use Rattle.output.proofs.Beginnings.{begun_behind, begun_in_front, whole_begun}
use Rattle.captures.proofs.Passes.{joined}
use Rattle.retire.specs.Log.{most_long_rows}
use Rattle.retire.specs.declared.event.Event.{Event}
use Rattle.rvclass.specs.Fetch.{words_of}
use Rattle.rvclass.specs.Image.{Image, IsImage}
use Rattle.rvclass.specs.Words.{Words}
use Rattle.legalpath.specs.LegalUpTo.{IsLegalUpTo}
use Rattle.encoder.specs.Packets.{closing_packet, packets}
use Rattle.payload.specs.Profile.{InProfile}
use Rattle.payload.specs.Spelling.{payload_of}
use Rattle.payload.specs.declared.packet.Packet.{Packet}
use Rattle.message.proofs.AcceptedLemmas.{slice_get-set}
use Rattle.message.proofs.OfHartLemmas.{of_hart-append, of_hart-others, of_hart-own}
use Rattle.message.specs.Capture.{capture, message_bytes}
use Rattle.message.specs.Numbered.{messages_from}
use Rattle.message.specs.OfHart.{of_hart}
use Rattle.message.specs.declared.message.Message.{Message}
use Rattle.stimulus.specs.Mixed.{Plan, Sent, SendsLog, Stand, closes, given, goes, has_turn, known_packets}
use Rattle.stimulus.specs.Mixed.{messages_of, none_sent, plan_of, sent_between, sent_by, unsent}
use Rattle.stimulus.specs.declared.capturing.Capture.{Capture}
use Rattle.stimulus.specs.declared.sender.Numbers.{Numbers}
use Rattle.stimulus.specs.declared.sender.Phase.{Phase}
use Rattle.stimulus.specs.declared.sender.Phase.TheVariants as phase
use Rattle.stimulus.specs.declared.sender.Sender.{Sender}
use Rattle.stimulus.specs.declared.sender.Tracer.{Tracer}
use Rattle.stimulus.specs.declared.walk.Walk.{Walk}
use Rattle.stimulus.specs.steps.Sending.{AllBegun, AllSend, AreFewest, AreSent, Gives, Grows, HasGiven, HasSent, IsClosed}
use Rattle.stimulus.specs.steps.Sending.{IsIn, Numbered, Sends}
use Rattle.stimulus.proofs.TraceLemmas.{closed_first, closed_given, closed_second, fewest_none, first_given}
use Rattle.stimulus.proofs.TraceLemmas.{known_first, so_far, unsent_given}

-- The messages of payloads, one list after another.
pub messages_from-append : (hart number : ℕ) (front back : List (List ℕ))
    → messages_from hart number (front ++ back)
    ≡ messages_from hart number front ++ messages_from hart (number + length front) back
messages_from-append hart number [] back = ap (λ n. messages_from hart n back) (omega arith)
messages_from-append hart number (first ∷ front) back =
    let next : number + 1 + length front ≡ number + suc (length front) = omega arith in
    ap (λ l. record { hart = hart; number = number; payload = first } ∷ l)
    (messages_from-append hart (number + 1) front back
    ∙ ap (λ n. messages_from hart (number + 1) front ++ messages_from hart n back) next)

-- The messages of a hart's payloads are its own.
of_hart-same : (hart number : ℕ) (ps : List (List ℕ))
    → of_hart hart (messages_from hart number ps) ≡ messages_from hart number ps
of_hart-same hart number [] = refl
of_hart-same hart number (payload ∷ ps) =
    let message : Message = record { hart = hart; number = number; payload = payload } in
    of_hart-own message (messages_from hart (number + 1) ps)
    ∙ ap (λ later. message ∷ later) (of_hart-same hart (number + 1) ps)

of_hart-none : (other hart number : ℕ) (ps : List (List ℕ)) → other ≢ hart
    → of_hart other (messages_from hart number ps) ≡ []
of_hart-none other hart number [] apart = refl
of_hart-none other hart number (payload ∷ ps) apart =
    of_hart-others other (record { hart = hart; number = number; payload = payload })
    (messages_from hart (number + 1) ps) (λ same. apart (sym same))
    ∙ of_hart-none other hart (number + 1) ps apart

-- Items of a list.
replicated : {X : Type 0} (n : ℕ) (x : X) (i : ℕ) (its : X) → slice_get (replicate n x) i ≡ Some its → its ≡ x
replicated zero x i its at = cc
replicated (suc n) x zero its at = sym (same_Some x its at)
replicated (suc n) x (suc i) its at = replicated n x i its at

-- As many messages as payloads.
messages_from-length : (hart number : ℕ) (ps : List (List ℕ)) → length (messages_from hart number ps) ≡ length ps
messages_from-length hart number [] = refl
messages_from-length hart number (payload ∷ ps) = ap suc (messages_from-length hart (number + 1) ps)

messages_of-length : (hart : ℕ) (ps : List Packet) → length (messages_of hart ps) ≡ length ps
messages_of-length hart ps = messages_from-length hart 0 (map payload_of ps) ∙ length-map ps payload_of

-- What is left from an item on.
drop_item : {X : Type 0} (i : ℕ) (xs : List X) (x : X) → i < length xs → x ≡ get_or xs i x
    → drop i xs ≡ x ∷ drop (i + 1) xs
drop_item i xs x within is = drop_more xs i x within ∙ ap (λ y. y ∷ drop (i + 1) xs) (sym is)

-- No packet is numbered.
pub numbered_none : (numbers : Numbers) (old : Option (List ℕ)) → Numbered [] numbers numbers old old
numbered_none numbers old = record { hart = refl; number = omega arith; text = Appends-nil old }

-- One packet is numbered.
pub numbered_one : (before : Numbers) (next : ℕ) (packet : Packet) (payload : List ℕ) (old new : Option (List ℕ))
    → next ≡ before.number + 1 → payload ≡ payload_of packet
    → Appends old new (message_bytes (record { hart = before.hart; number = before.number; payload = payload }))
    → Numbered (packet ∷ []) before (record { hart = before.hart; number = next }) old new
numbered_one before next packet payload old new is same written =
    let bytes : List ℕ → List ℕ =
    λ (p : List ℕ). message_bytes (record { hart = before.hart; number = before.number; payload = p }) in record {
      hart = refl;
      number = is;
      text = subst (Appends old new) (ap bytes same ∙ sym (append-nil (bytes (payload_of packet)))) written;
    }

-- Packets are numbered after others.
numbered_both : (front back : List Packet) (before mid after : Numbers) (old between new : Option (List ℕ))
    → Numbered front before mid old between → Numbered back mid after between new
    → Numbered (front ++ back) before after old new
numbered_both front back before mid after old between new one two =
    let first = messages_from before.hart before.number (map payload_of front) in
    let count = length-map front payload_of in
    let number : mid.number ≡ before.number + length (map payload_of front) = omega (arith, one.number, count) in
    let then : messages_from mid.hart mid.number (map payload_of back)
    ≡ messages_from before.hart (before.number + length (map payload_of front)) (map payload_of back) =
    ap (λ h. messages_from h mid.number (map payload_of back)) one.hart
    ∙ ap (λ n. messages_from before.hart n (map payload_of back)) number in
    let all : messages_from before.hart before.number (map payload_of (front ++ back))
    ≡ first ++ messages_from mid.hart mid.number (map payload_of back) =
    ap (messages_from before.hart before.number) (map-append payload_of front back)
    ∙ messages_from-append before.hart before.number (map payload_of front) (map payload_of back)
    ∙ ap (λ l. first ++ l) (sym then) in record {
      hart = two.hart ∙ one.hart;
      number = omega (arith, one.number, two.number, length-append front back);
      text =
          subst (Appends old new)
          (sym (ap capture all ∙ joined first (messages_from mid.hart mid.number (map payload_of back))))
          (Appends-trans old between new (capture first) (capture (messages_from mid.hart mid.number (map payload_of
          back)))
          one.text two.text);
    }

-- One packet more is numbered, if all are of the profile.
pub numbered_more : (packets : List Packet) (i : ℕ) (packet : Packet) (before mid after : Numbers)
    (old between new : Option (List ℕ)) → i < length packets → packet ≡ get_or packets i packet
    → (All InProfile packets → Numbered (take i packets) before mid old between)
    → (InProfile packet → Numbered (packet ∷ []) mid after between new) → All InProfile packets
    → Numbered (take (i + 1) packets) before after old new
numbered_more packets i packet before mid after old between new within is first then all =
    let more : take (i + 1) packets ≡ take i packets ++ packet ∷ [] =
    take_more packets i packet within ∙ ap (λ p. take i packets ++ p ∷ []) (sym is) in
    let one : InProfile packet = subst InProfile (sym is) (All-get_or InProfile packets i packet within all) in
    subst (λ ps. Numbered ps before after old new) (sym more)
    (numbered_both (take i packets) (packet ∷ []) before mid after old between new (first all) (then one))

-- All packets are numbered: the whole of their messages is begun.
pub numbered_whole : (packets : List Packet) (i : ℕ) (before after : Numbers) (old new : Option (List ℕ))
    → length packets ≤ i → (All InProfile packets → Numbered (take i packets) before after old new)
    → All InProfile packets
    → AppendsBeginning (capture (messages_from before.hart before.number (map payload_of packets))) old new
numbered_whole packets i before after old new past has all =
    whole_begun (capture (messages_from before.hart before.number (map payload_of packets))) old new
    (subst (λ ps. Appends old new (capture (messages_from before.hart before.number (map payload_of ps))))
    (take_all i packets past) (has all).text)

-- A beginning of the next message is written.
pub numbered_begun : (packets : List Packet) (i : ℕ) (packet : Packet) (before mid : Numbers)
    (old between new : Option (List ℕ)) → i < length packets → packet ≡ get_or packets i packet
    → (All InProfile packets → Numbered (take i packets) before mid old between)
    → (InProfile packet → AppendsBeginning
    (message_bytes (record { hart = mid.hart; number = mid.number; payload = payload_of packet })) between new)
    → All InProfile packets
    → AppendsBeginning (capture (messages_from before.hart before.number (map payload_of packets))) old new
numbered_begun packets i packet before mid old between new within is has begins all =
    let one : InProfile packet = subst InProfile (sym is) (All-get_or InProfile packets i packet within all) in
    let n = has all in
    let front = take i packets in
    let rest = drop (i + 1) packets in
    let cut : packets ≡ front ++ packet ∷ rest =
    sym (take-append-drop i packets) ∙ ap (λ l. front ++ l) (drop_item i packets packet within is) in
    let first = messages_from before.hart before.number (map payload_of front) in
    let count = length-map front payload_of in
    let number : mid.number ≡ before.number + length (map payload_of front) = omega (arith, n.number, count) in
    let then : messages_from mid.hart mid.number (map payload_of (packet ∷ rest))
    ≡ messages_from before.hart (before.number + length (map payload_of front)) (map payload_of (packet ∷ rest)) =
    ap (λ h. messages_from h mid.number (map payload_of (packet ∷ rest))) n.hart
    ∙ ap (λ k. messages_from before.hart k (map payload_of (packet ∷ rest))) number in
    let whole : messages_from before.hart before.number (map payload_of packets)
    ≡ first ++ messages_from mid.hart mid.number (map payload_of (packet ∷ rest)) =
    ap (λ ps. messages_from before.hart before.number (map payload_of ps)) cut
    ∙ ap (messages_from before.hart before.number) (map-append payload_of front (packet ∷ rest))
    ∙ messages_from-append before.hart before.number (map payload_of front) (map payload_of (packet ∷ rest))
    ∙ ap (λ l. first ++ l) (sym then) in
    let message : Message = record { hart = mid.hart; number = mid.number; payload = payload_of packet } in
    let later = messages_from mid.hart (mid.number + 1) (map payload_of rest) in
    subst (λ text. AppendsBeginning text old new)
    (sym (ap capture whole ∙ joined first (message ∷ later)))
    (begun_behind (capture first) (message_bytes message ++ capture later) old between new n.text
    (begun_in_front (message_bytes message) (capture later) between new (begins one)))

-- Nothing was written.
pub begun_none : (text : List ℕ) (old : Option (List ℕ)) → AppendsBeginning text old old
begun_none text old = record { text = []; rest = text; parted = refl; appended = Appends-nil old }

-- Messages that grow, and grow more.
abbrev pub grows_both : (one two three : List Message) → Grows one two → Grows two three → Grows one three
grows_both one two three first then = record {
  more = first.more ++ then.more;
  parted = then.parted ∙ ap (λ l. l ++ then.more) first.parted ∙ append_assoc one first.more then.more;
}

-- What one hart sends.
module _ (words : Words) (plan : Plan) (hart : ℕ) where
  -- The messages of packets, one list after another.
  messages_of-append : (xs ps : List Packet)
      → messages_of hart (xs ++ ps) ≡ messages_of hart xs ++ messages_from hart (length xs) (map payload_of ps)
  messages_of-append xs ps =
      let number : 0 + length (map payload_of xs) ≡ length xs = omega (arith, length-map xs payload_of) in
      ap (messages_from hart 0) (map-append payload_of xs ps)
      ∙ messages_from-append hart 0 (map payload_of xs) (map payload_of ps)
      ∙ ap (λ n. messages_of hart xs ++ messages_from hart n (map payload_of ps)) number

  module _ (stand next : Stand) (ps : List Packet)
      (longer : given words plan hart next ≡ given words plan hart stand ++ ps) where
    abbrev before : List Packet
    before = given words plan hart stand

    -- The messages that are sent are those of the packets that are given.
    between_is : sent_between words plan hart stand next ≡ messages_from hart (length before) (map payload_of ps)
    between_is =
        ap (λ l. drop (length before) (messages_of hart l)) longer
        ∙ ap (λ l. drop (length before) l) (messages_of-append before ps)
        ∙ ap (λ n. drop n (messages_of hart before ++ messages_from hart (length before) (map payload_of ps)))
        (sym (messages_of-length hart before))
        ∙ drop_at (messages_of hart before) (messages_from hart (length before) (map payload_of ps))
        (length (messages_of hart before)) refl

    -- With those before they are all.
    all_between : messages_of hart (given words plan hart next)
        ≡ messages_of hart before ++ sent_between words plan hart stand next
    all_between =
        ap (messages_of hart) longer ∙ messages_of-append before ps
        ∙ ap (λ l. messages_of hart before ++ l) (sym between_is)

  -- A hart goes on twice.
  between_both : (stand mid next : Stand) (one two : List Packet)
      → given words plan hart mid ≡ given words plan hart stand ++ one
      → given words plan hart next ≡ given words plan hart mid ++ two
      → sent_between words plan hart stand next
      ≡ sent_between words plan hart stand mid ++ sent_between words plan hart mid next
  between_both stand mid next one two first then =
      let before = given words plan hart stand in
      let all = then ∙ ap (λ l. l ++ two) first ∙ append_assoc before one two in
      let number : length before + length (map payload_of one) ≡ length (given words plan hart mid) =
      omega (arith, length-map one payload_of, ap length first ∙ length-append before one) in
      between_is stand next (one ++ two) all
      ∙ ap (messages_from hart (length before)) (map-append payload_of one two)
      ∙ messages_from-append hart (length before) (map payload_of one) (map payload_of two)
      ∙ ap (λ n. messages_from hart (length before) (map payload_of one) ++ messages_from hart n (map payload_of two))
      number
      ∙ ap (λ l. l ++ messages_from hart (length (given words plan hart mid)) (map payload_of two))
      (sym (between_is stand mid one first))
      ∙ ap (λ l. sent_between words plan hart stand mid ++ l) (sym (between_is mid next two then))

  -- A hart that closes its trace before its first turn opens it first.
  pub between_first : sent_between words plan hart unsent (closes unsent)
      ≡ sent_between words plan hart unsent (has_turn unsent)
      ++ sent_between words plan hart (has_turn unsent) (closes (has_turn unsent))
  between_first =
      let last = closing_packet words plan.period [] ∷ [] in
      let opens : given words plan hart (has_turn unsent) ≡ given words plan hart unsent ++ so_far words plan hart [] =
      first_given words plan hart
      ∙ sym (ap (λ l. l ++ so_far words plan hart []) (unsent_given words plan hart)) in
      let ends : given words plan hart (closes unsent) ≡ given words plan hart (has_turn unsent) ++ last =
      closed_first words plan hart ∙ ap (λ l. l ++ last) (sym (first_given words plan hart)) in
      between_both unsent (has_turn unsent) (closes unsent) (so_far words plan hart []) last opens ends
      ∙ ap (λ l. sent_between words plan hart unsent (has_turn unsent)
      ++ drop (length (given words plan hart (has_turn unsent))) (messages_of hart l)) (sym (closed_second words plan hart))

  -- A hart that has sent nothing.
  pub sent_none : (tracer : Tracer) (numbers : Numbers) → HasGiven words plan hart unsent tracer
      → numbers.hart ≡ hart → numbers.number ≡ 0
      → HasSent words plan hart unsent (record { tracer = tracer; numbers = numbers })
  sent_none tracer numbers given here number = record {
    tracer = given;
    hart_is = here;
    number = number ∙ sym (ap length (unsent_given words plan hart));
  }

  module _ (stand next : Stand) (before : Sender) (tracer' : Tracer) (numbers' : Numbers) (burst : List Packet)
      (old new : Option (List ℕ)) (has : HasSent words plan hart stand before)
      (gives : Gives words plan hart stand next tracer' burst) where
    same_messages : messages_from before.numbers.hart before.numbers.number (map payload_of burst)
        ≡ sent_between words plan hart stand next
    same_messages =
        ap (λ h. messages_from h before.numbers.number (map payload_of burst)) has.hart_is
        ∙ ap (λ n. messages_from hart n (map payload_of burst)) has.number
        ∙ sym (between_is stand next burst gives.longer)

    -- A hart sends the messages of the packets that it gives.
    sends : Numbered burst before.numbers numbers' old new
        → Sends words plan hart stand next (record { tracer = tracer'; numbers = numbers' }) old new
    sends adds = record {
      has = record {
        tracer = gives.has;
        hart_is = adds.hart ∙ has.hart_is;
        number = omega (
          arith,
          adds.number,
          has.number,
          ap length gives.longer ∙ length-append (given words plan hart stand) burst,
        );
      };
      packets = burst;
      longer = gives.longer;
      text = subst (λ ms. Appends old new (capture ms)) same_messages adds.text;
    }

    -- The same where writing may have failed.
    pub sends_on : {E : Type 0} (written : List Packet) (r : Result Unit E) → written ≡ burst → All InProfile burst
        → (All InProfile written → OnOk r (Numbered written before.numbers numbers' old new))
        → OnOk r (Sends words plan hart stand next (record { tracer = tracer'; numbers = numbers' }) old new)
    sends_on written (Ok x) same profile adds =
        sends (subst (λ ps. Numbered ps before.numbers numbers' old new) same
        (adds (subst (All InProfile) (sym same) profile)))
    sends_on written (Err e) same profile adds = tt

    -- A beginning of them is written.
    pub sends_begun : (written : List Packet) → written ≡ burst → All InProfile burst
        → (All InProfile written → AppendsBeginning
        (capture (messages_from before.numbers.hart before.numbers.number (map payload_of written))) old new)
        → AppendsBeginning (capture (sent_between words plan hart stand next)) old new
    sends_begun written same profile begun =
        subst (λ ms. AppendsBeginning (capture ms) old new)
        (ap (λ ps. messages_from before.numbers.hart before.numbers.number (map payload_of ps)) same ∙ same_messages)
        (begun (subst (All InProfile) (sym same) profile))

  -- A hart whose trace is closed sends nothing more.
  pub sends_none : (stand : Stand) (sender : Sender) (old : Option (List ℕ)) → HasSent words plan hart stand sender
      → sender.tracer.phase ≡ phase.Closed → Sends words plan hart stand (closes stand) sender old old
  sends_none stand sender old has is_closed =
      let closed : stand.is_closed ≡ true =
      subst (λ p. IsIn words plan hart p sender.tracer.hart.given stand) is_closed has.tracer.is_in in
      let same : stand ≡ closes stand = ap (λ b. record stand { is_closed = b }) closed in
      let ps = given words plan hart stand in
      let none : ps ≡ ps ++ [] = sym (append-nil ps) in
      subst (λ next. Sends words plan hart stand next sender old old) same (record {
        has = has;
        packets = [];
        longer = none;
        text = subst (λ ms. Appends old old (capture ms)) (sym (between_is stand stand [] none)) (Appends-nil old);
      })

  -- A hart that closes its trace before its first turn opens it and then closes it.
  module _ (stand : Stand) (fresh : stand ≡ unsent) (mid after : Sender) (old between new : Option (List ℕ)) where
    abbrev first : Stand → List ℕ
    first stand = capture (sent_between words plan hart stand (has_turn stand))

    abbrev second : Stand → List ℕ
    second stand = capture (sent_between words plan hart (has_turn stand) (closes (has_turn stand)))

    both : capture (sent_between words plan hart stand (closes stand)) ≡ first stand ++ second stand
    both =
        subst (λ s. capture (sent_between words plan hart s (closes s)) ≡ first s ++ second s) (sym fresh)
        (ap capture between_first
        ∙ joined (sent_between words plan hart unsent (has_turn unsent))
        (sent_between words plan hart (has_turn unsent) (closes (has_turn unsent))))

    -- It ran no event.
    ran_none : AreFewest words plan hart 1 after.tracer.hart.given → after.tracer.hart.given ≡ 0
    ran_none fewest = go (cases_lt 0 after.tracer.hart.given)
      where
        go : (0 < after.tracer.hart.given) ⊎ (after.tracer.hart.given ≤ 0) → after.tracer.hart.given ≡ 0
        go (inl some) =
            let one : length (known_packets words plan hart 0) ≡ 1 = ap length (known_first words plan hart) in
            let none = fewest.fewer 0 some in
            let never : ⊥ = omega (arith, one, none) in
            absurd never
        go (inr none) = omega (arith, none)

    closed_too : HasSent words plan hart (closes (has_turn unsent)) after → HasSent words plan hart (closes unsent) after
    closed_too has = record {
      tracer = record {
        seen = has.tracer.seen;
        walked = has.tracer.walked;
        stands = has.tracer.stands;
        fewest = fewest_none words plan hart 0 after.tracer.hart.given (ran_none has.tracer.fewest) (omega arith);
        is_in = in_phase after.tracer.phase has.tracer.is_in;
      };
      hart_is = has.hart_is;
      number = has.number ∙ ap length (closed_second words plan hart);
    }
      where
        in_phase : (p : Phase) → IsIn words plan hart p after.tracer.hart.given (closes (has_turn unsent))
            → IsIn words plan hart p after.tracer.hart.given (closes unsent)
        in_phase phase.Fresh is = absurd (not_unsent is.1)
          where
            not_unsent : closes (has_turn unsent) ≡ unsent → ⊥
            not_unsent e = let turns : 1 ≡ 0 = ap (λ (s : Stand). s.turns) e in omega (arith, turns)
        in_phase phase.Open is = cc (is.0)
        in_phase phase.Closed is = refl

    pub sends_both : {E : Type 0} (r : Result Unit E)
        → Appends old between (first stand)
        → OnOk r (Sends words plan hart (has_turn stand) (closes (has_turn stand)) after between new)
        → OnOk r (Sends words plan hart stand (closes stand) after old new)
    sends_both (Ok x) one two = record {
      has = subst (λ s. HasSent words plan hart (closes s) after) (sym fresh)
          (closed_too (subst (λ s. HasSent words plan hart (closes (has_turn s)) after) fresh two.has));
      packets = given words plan hart (closes stand);
      longer = sym (ap (λ l. l ++ given words plan hart (closes stand))
          (ap (given words plan hart) fresh ∙ unsent_given words plan hart));
      text = subst (Appends old new) (sym both)
          (Appends-trans old between new (first stand) (second stand) one two.text);
    }
    sends_both (Err e) one two = tt

    -- A beginning of both is written.
    pub first_begun : AppendsBeginning (first stand) old between
        → AppendsBeginning (capture (sent_between words plan hart stand (closes stand))) old between
    first_begun begun =
        subst (λ text. AppendsBeginning text old between) (sym both)
        (begun_in_front (first stand) (second stand) old between begun)

    pub second_begun : Appends old between (first stand) → AppendsBeginning (second stand) between new
        → AppendsBeginning (capture (sent_between words plan hart stand (closes stand))) old new
    second_begun one begun =
        subst (λ text. AppendsBeginning text old new) (sym both)
        (begun_behind (first stand) (second stand) old between new one begun)

module _ (words : Words) (plan : Plan) where
  -- One of the harts goes on.
  module _ (on : Stand → Stand) (sent : Sent) (senders : List Sender) (hart : ℕ) (before after : Sender)
      (old new : Option (List ℕ)) (are : AreSent words plan sent senders) (within : hart < length senders)
      (at : slice_get senders hart ≡ Some before) where
    abbrev stand : Stand
    stand = get_or sent.stands hart unsent

    there : hart < length sent.stands
    there = omega (arith, within, are.count)

    stand_at : slice_get sent.stands hart ≡ Some stand
    stand_at = slice_get-get_or sent.stands hart unsent there

    has : HasSent words plan hart stand before
    has = are.each hart before stand at stand_at

    more_is : sent_by words plan on hart (slice_get sent.stands hart) ≡ sent_between words plan hart stand (on stand)
    more_is = ap (sent_by words plan on hart) stand_at

    -- A beginning of what it sends is written.
    pub one_begun : ((stand : Stand) → HasSent words plan hart stand before
        → AppendsBeginning (capture (sent_between words plan hart stand (on stand))) old new)
        → AllBegun sent (goes words plan on hart sent) old new
    one_begun begun = record {
      grows = record { more = sent_by words plan on hart (slice_get sent.stands hart); parted = refl };
      begun = subst (λ ms. AppendsBeginning (capture ms) old new) (sym more_is) (begun stand has);
    }

    module _ (s : Sends words plan hart stand (on stand) after old new) where
      abbrev more : List Message
      more = sent_by words plan on hart (slice_get sent.stands hart)

      from_hart : more ≡ messages_from hart (length (given words plan hart stand)) (map payload_of s.packets)
      from_hart = more_is ∙ between_is words plan hart stand (on stand) s.packets s.longer

      own_here : of_hart hart (sent.messages ++ more) ≡ messages_of hart (given words plan hart (on stand))
      own_here =
          of_hart-append hart sent.messages more
          ∙ ap (λ l. l ++ of_hart hart more) (are.own hart stand stand_at)
          ∙ ap (λ l. messages_of hart (given words plan hart stand) ++ l)
          (ap (of_hart hart) from_hart
          ∙ of_hart-same hart (length (given words plan hart stand)) (map payload_of s.packets)
          ∙ sym from_hart ∙ more_is)
          ∙ sym (all_between words plan hart stand (on stand) s.packets s.longer)

      own_there : (other : ℕ) → hart ≢ other → of_hart other (sent.messages ++ more) ≡ of_hart other sent.messages
      own_there other apart =
          of_hart-append other sent.messages more
          ∙ ap (λ l. of_hart other sent.messages ++ l)
          (ap (of_hart other) from_hart
          ∙ of_hart-none other hart (length (given words plan hart stand)) (map payload_of s.packets)
          (λ same. apart (sym same)))
          ∙ append-nil (of_hart other sent.messages)

      each : (other : ℕ) (sender : Sender) (its : Stand)
          → ((hart ≡ other) × (sender ≡ after)) ⊎ ((hart ≢ other) × (slice_get senders other ≡ Some sender))
          → ((hart ≡ other) × (its ≡ on stand)) ⊎ ((hart ≢ other) × (slice_get sent.stands other ≡ Some its))
          → HasSent words plan other its sender
      each other sender its (inl here) (inl stands) =
          subst (λ h. HasSent words plan h its sender) here.0
          (subst (λ x. HasSent words plan hart x sender) (sym stands.1)
          (subst (HasSent words plan hart (on stand)) (sym here.1) s.has))
      each other sender its (inl here) (inr stands) = absurd (stands.0 here.0)
      each other sender its (inr away) (inl stands) = absurd (away.0 stands.0)
      each other sender its (inr away) (inr stands) = are.each other sender its away.1 stands.1

      own : (other : ℕ) (its : Stand)
          → ((hart ≡ other) × (its ≡ on stand)) ⊎ ((hart ≢ other) × (slice_get sent.stands other ≡ Some its))
          → of_hart other (sent.messages ++ more) ≡ messages_of other (given words plan other its)
      own other its (inl here) =
          subst (λ h. of_hart h (sent.messages ++ more) ≡ messages_of h (given words plan h its)) here.0
          (own_here ∙ ap (λ x. messages_of hart (given words plan hart x)) (sym here.1))
      own other its (inr away) = own_there other away.0 ∙ are.own other its away.1

      one_goes : AllSend words plan sent (goes words plan on hart sent) (set senders hart after) old new
      one_goes = record {
        sent = record {
          count = length-set senders hart after ∙ are.count ∙ sym (length-set sent.stands hart (on stand));
          each = λ other sender its is stands.
              each other sender its (slice_get-set senders hart after other sender is)
              (slice_get-set sent.stands hart (on stand) other its stands);
          own = λ other its is. own other its (slice_get-set sent.stands hart (on stand) other its is);
          none = λ other past.
              let long = length-set sent.stands hart (on stand) in
              let apart : hart ≢ other = λ same. omega (arith, same, past, long, there) in
              own_there other apart ∙ are.none other (omega (arith, past, long));
        };
        count = length-set sent.stands hart (on stand);
        grows = record { more = more; parted = refl };
        text = subst (λ ms. Appends old new (capture ms)) (sym more_is) s.text;
      }

    -- The same where writing may have failed.
    pub one_goes_on : {E : Type 0} (r : Result Unit E) → ((stand : Stand) → HasSent words plan hart stand before
        → OnOk r (Sends words plan hart stand (on stand) after old new))
        → OnOk r (AllSend words plan sent (goes words plan on hart sent) (set senders hart after) old new)
    one_goes_on (Ok x) s = one_goes (s stand has)
    one_goes_on (Err e) s = tt

  -- Past all harts none goes on.
  pub goes_past : (on : Stand → Stand) (sent : Sent) (senders : List Sender) (hart : ℕ) (old : Option (List ℕ))
      → AreSent words plan sent senders → length senders ≤ hart
      → AllSend words plan sent (goes words plan on hart sent) senders old old
  goes_past on sent senders hart old are past =
      let out : length sent.stands ≤ hart = omega (arith, past, are.count) in
      let nothing : sent_by words plan on hart (slice_get sent.stands hart) ≡ [] =
      ap (sent_by words plan on hart) (slice_get_past sent.stands hart out) in
      let stands : set sent.stands hart (on (get_or sent.stands hart unsent)) ≡ sent.stands =
      set_past sent.stands hart (on (get_or sent.stands hart unsent)) out in
      let messages : sent.messages ++ sent_by words plan on hart (slice_get sent.stands hart) ≡ sent.messages =
      ap (λ l. sent.messages ++ l) nothing ∙ append-nil sent.messages in
      let same : goes words plan on hart sent ≡ sent =
      ap (λ l. record { messages = l; stands = set sent.stands hart (on (get_or sent.stands hart unsent)) }) messages
      ∙ ap (λ l. record { messages = sent.messages; stands = l }) stands in record {
        sent = subst (λ s. AreSent words plan s senders) (sym same) are;
        count = ap length stands;
        grows = record { more = []; parted = ap (λ l. sent.messages ++ l) nothing };
        text = Appends-nil old;
      }

  -- Harts that are as far as they were.
  pub all_stay : (sent : Sent) (senders : List Sender) (old : Option (List ℕ)) → AreSent words plan sent senders
      → AllSend words plan sent sent senders old old
  all_stay sent senders old are = record {
    sent = are;
    count = refl;
    grows = record { more = []; parted = sym (append-nil sent.messages) };
    text = Appends-nil old;
  }

  -- Harts go on twice.
  pub all_both : (first mid last : Sent) (between senders : List Sender) (old then new : Option (List ℕ))
      → AllSend words plan first mid between old then → AllSend words plan mid last senders then new
      → AllSend words plan first last senders old new
  all_both first mid last between senders old then new one two = record {
    sent = two.sent;
    count = two.count ∙ one.count;
    grows = grows_both first.messages mid.messages last.messages one.grows two.grows;
    text = subst (Appends old new) (sym (joined one.grows.more two.grows.more))
        (Appends-trans old then new (capture one.grows.more) (capture two.grows.more) one.text two.text);
  }

  -- The second time a beginning is written.
  pub all_then_begun : (first mid last : Sent) (between : List Sender) (old then new : Option (List ℕ))
      → AllSend words plan first mid between old then → AllBegun mid last then new → AllBegun first last old new
  all_then_begun first mid last between old then new one two = record {
    grows = grows_both first.messages mid.messages last.messages one.grows two.grows;
    begun = subst (λ text. AppendsBeginning text old new) (sym (joined one.grows.more two.grows.more))
        (begun_behind (capture one.grows.more) (capture two.grows.more) old then new one.text two.begun);
  }

  -- What was written is a beginning too.
  pub all_begun : (first last : Sent) (senders : List Sender) (old new : Option (List ℕ))
      → AllSend words plan first last senders old new → AllBegun first last old new
  all_begun first last senders old new one =
      record { grows = one.grows; begun = whole_begun (capture one.grows.more) old new one.text }

-- More messages come after what was begun.
pub begun_longer : (first mid last : Sent) (old new : Option (List ℕ)) → AllBegun first mid old new
    → Grows mid.messages last.messages → AllBegun first last old new
begun_longer first mid last old new one grows = record {
  grows = grows_both first.messages mid.messages last.messages one.grows grows;
  begun = subst (λ text. AppendsBeginning text old new) (sym (joined one.grows.more grows.more))
      (begun_in_front (capture one.grows.more) (capture grows.more) old new one.begun);
}

-- What is at a place of a list with one item more.
at-snoc : {X : Type 0} (xs : List X) (y : X) (i : ℕ) (x : X) → slice_get (xs ++ y ∷ []) i ≡ Some x
    → (slice_get xs i ≡ Some x) ⊎ ((i ≡ length xs) × (x ≡ y))
at-snoc [] y zero x is = inr (refl, sym (same_Some y x is))
at-snoc [] y (suc i) x is = cc
at-snoc (a ∷ xs) y zero x is = inl is
at-snoc (a ∷ xs) y (suc i) x is = behind (at-snoc xs y i x is)
  where
    behind : (slice_get xs i ≡ Some x) ⊎ ((i ≡ length xs) × (x ≡ y))
        → (slice_get xs i ≡ Some x) ⊎ ((suc i ≡ suc (length xs)) × (x ≡ y))
    behind (inl found) = inl found
    behind (inr last) = inr (ap suc last.0, last.1)

-- So many harts have sent nothing.
pub record HaveSentNone (words : Words) (plan : Plan) (harts : ℕ) (senders : List Sender) : Type 0 where
  pub count : length senders ≡ harts
  pub each : (hart : ℕ) (sender : Sender) → slice_get senders hart ≡ Some sender
      → HasSent words plan hart unsent sender

module _ (words : Words) (plan : Plan) where
  -- No hart has sent a message, since there is none.
  pub none_yet : (senders : List Sender) → senders ≡ [] → HaveSentNone words plan 0 senders
  none_yet senders is = record {
    count = ap length is;
    each = λ hart sender at. cc (ap (λ l. slice_get l hart) (sym is) ∙ at);
  }

  -- Nor has one more.
  pub none_yet_more : (harts : ℕ) (senders after : List Sender) (sender : Sender) → after ≡ senders ++ sender ∷ []
      → HaveSentNone words plan harts senders → HasSent words plan harts unsent sender
      → HaveSentNone words plan (harts + 1) after
  none_yet_more harts senders after sender is sent own = record {
    count = ap length is ∙ length_push senders sender ∙ omega (arith, sent.count);
    each = λ hart found at. each hart found (at-snoc senders sender hart found (ap (λ l. slice_get l hart) (sym is)
        ∙ at));
  }
    where
      each : (hart : ℕ) (found : Sender)
          → (slice_get senders hart ≡ Some found) ⊎ ((hart ≡ length senders) × (found ≡ sender))
          → HasSent words plan hart unsent found
      each hart found (inl at) = sent.each hart found at
      each hart found (inr last) =
          let here : harts ≡ hart = omega (arith, last.0, sent.count) in
          subst (λ h. HasSent words plan h unsent found) here
          (subst (HasSent words plan harts unsent) (sym last.1) own)

  pub all_none : (harts : ℕ) (senders : List Sender) → HaveSentNone words plan harts senders
      → AreSent words plan (none_sent harts) senders
  all_none harts senders sent = record {
    count = sent.count ∙ sym (length-replicate harts unsent);
    each = λ hart sender stand at is.
        subst (λ s. HasSent words plan hart s sender) (sym (replicated harts unsent hart stand is))
        (sent.each hart sender at);
    own = λ hart stand is.
        sym (ap (messages_of hart)
        (ap (given words plan hart) (replicated harts unsent hart stand is) ∙ unsent_given words plan hart));
    none = λ hart past. refl;
  }

-- One of the harts has closed its trace.
pub closed_here : (senders : List Sender) (hart : ℕ) (after : Sender) → after.tracer.phase ≡ phase.Closed
    → IsClosed hart (set senders hart after)
closed_here senders hart after closed sender is = go (slice_get-set senders hart after hart sender is)
  where
    go : ((hart ≡ hart) × (sender ≡ after)) ⊎ ((hart ≢ hart) × (slice_get senders hart ≡ Some sender))
        → sender.tracer.phase ≡ phase.Closed
    go (inl here) = ap (λ (s : Sender). s.tracer.phase) here.1 ∙ closed
    go (inr there) = absurd (there.0 refl)

-- Those that had stay so.
pub closed_there : (senders : List Sender) (hart : ℕ) (after : Sender) (other : ℕ)
    → after.tracer.phase ≡ phase.Closed → IsClosed other senders → IsClosed other (set senders hart after)
closed_there senders hart after other closed are sender is = go (slice_get-set senders hart after other sender is)
  where
    go : ((hart ≡ other) × (sender ≡ after)) ⊎ ((hart ≢ other) × (slice_get senders other ≡ Some sender))
        → sender.tracer.phase ≡ phase.Closed
    go (inl here) = ap (λ (s : Sender). s.tracer.phase) here.1 ∙ closed
    go (inr there) = are sender there.1

-- The same where writing may have failed.
pub closed_here_on : {E : Type 0} (senders : List Sender) (hart : ℕ) (after : Sender) (r : Result Unit E)
    → OnOk r (after.tracer.phase ≡ phase.Closed) → OnOk r (IsClosed hart (set senders hart after))
closed_here_on senders hart after (Ok x) closed = closed_here senders hart after closed
closed_here_on senders hart after (Err e) closed = tt

pub closed_there_on : {E : Type 0} (senders : List Sender) (hart : ℕ) (after : Sender) (r : Result Unit E) (other : ℕ)
    → OnOk r (after.tracer.phase ≡ phase.Closed) → IsClosed other senders
    → OnOk r (IsClosed other (set senders hart after))
closed_there_on senders hart after (Ok x) other closed are = closed_there senders hart after other closed are
closed_there_on senders hart after (Err e) other closed are = tt

-- One more has closed its trace.
pub closed_more : (senders after : List Sender) (place : ℕ) → ((hart : ℕ) → hart < place → IsClosed hart senders)
    → ((other : ℕ) → IsClosed other senders → IsClosed other after) → IsClosed place after
    → (hart : ℕ) → hart < place + 1 → IsClosed hart after
closed_more senders after place before others here hart below = go (cases_lt hart place)
  where
    go : (hart < place) ⊎ (place ≤ hart) → IsClosed hart after
    go (inl under) = others hart (before hart under)
    go (inr over) =
        let same : place ≡ hart = omega (arith, over, below) in subst (λ h. IsClosed h after) same here

-- A hart that has closed its trace has sent a log.
pub log_sent : (program : Image) → IsImage program → (asked : Capture) (hart count : ℕ) (messages : List Message)
    (stand : Stand) (sender : Sender) → HasSent (words_of program) (plan_of program asked) hart stand sender
    → sender.tracer.phase ≡ phase.Closed
    → of_hart hart messages ≡ messages_of hart (given (words_of program) (plan_of program asked) hart stand)
    → count ≡ sender.tracer.hart.given → SendsLog program asked hart count messages
log_sent program image asked hart count messages stand sender has is_closed own is =
    let words = words_of program in
    let plan = plan_of program asked in
    let walked = has.tracer.walked in
    let few = walked.short in
    let counted = walked.counted in
    let closed : stand.is_closed ≡ true =
    subst (λ p. IsIn words plan hart p sender.tracer.hart.given stand) is_closed has.tracer.is_in in
    let seen = ap (λ (w : List Event × Walk). w.0) walked.walked in
    subst (λ n. SendsLog program asked hart n messages) (sym is) (record {
      legal = subst (IsLegalUpTo most_long_rows program) seen (record {
        legal = walked.legal;
        short = few;
        numbers = walked.numbers;
        image = image;
      });
      own = own ∙ ap (messages_of hart) (closed_given words plan hart stand sender.tracer.hart.given
          (omega (arith, few, counted)) has.tracer.fewest closed);
    })
