-- A capture with the same messages of each hart decodes to the same logs.
use Rattle.std.proofs.Common.{◌≡◌, ◌⊎◌, inl, inr, ℕ, suc, ◌<◌, All, Bool, List, [], ◌∷◌, ◌++◌, Option, Some, None, Ok}
use Rattle.std.proofs.Common.{length, slice_get, refl, sym, ap, ap₂, subst, ◌∙◌, arith, append-nil}
use Rattle.std.specs.Prelude.{IsOk}
use Rattle.std.proofs.lemmas.Bool.{true≢false}
use Rattle.std.proofs.lemmas.List.{append_assoc, append_cancel_left, map-append}
use Rattle.std.proofs.lemmas.List.Elements.{All-take}
use lib.Seq.{take-append_seam}
use Rattle.std.proofs.lemmas.Option.{slice_get_within}
use Rattle.retire.specs.declared.event.Event.{Event}
use Rattle.rvclass.specs.Words.{Words, IsProgram}
use Rattle.payload.specs.Reading.{reading}
use Rattle.payload.specs.ClosedTrace.{last_is_closing}
use Rattle.payload.specs.declared.mode.Mode.{Mode}
use Rattle.payload.specs.declared.packet.Packet.{Packet}
use Rattle.decoder.proofs.ExtendingLemmas.{front_describes}
use Rattle.decoder.proofs.UniqueLemmas.{one_log}
use Rattle.decoder.specs.Describes.{Describes}
use Rattle.decoder.specs.declared.fault.DecodeFault.TheVariants.{Memory}
use Rattle.message.proofs.AcceptedLemmas.{accepted_counted, answered}
use Rattle.message.proofs.Answering.{answer-unpacked}
use Rattle.message.proofs.Elements.{slice_get-some}
use Rattle.message.proofs.HartMessages.{expected_of, packets_in-cons, packets_of-append}
use Rattle.message.proofs.OfHartLemmas.{of_hart-append, of_hart-own}
use Rattle.message.proofs.Selecting.{all_selected}
use Rattle.message.proofs.StartsRead.{header_only}
use Rattle.message.specs.Accepted.{AreAccepted, expected_after, newcomers}
use Rattle.message.specs.Accepting.{accepting, answer, answer_of, harts_after}
use Rattle.message.specs.Capture.{capture}
use Rattle.message.specs.Cut.{IsMessage}
use Rattle.message.specs.Harts.{Harts}
use Rattle.message.specs.Header.{header_bytes, setting_bytes}
use Rattle.message.specs.OfHart.{of_hart, packets_in, packets_of}
use Rattle.message.specs.Range.{every_hart, selected}
use Rattle.message.specs.declared.fault.MessageFault.{MessageFault}
use Rattle.message.specs.declared.fault.MessageFault.TheVariants as message_fault
use Rattle.message.specs.declared.hart.Hart.{Hart}
use Rattle.message.specs.declared.header.Header.{Header}
use Rattle.message.specs.declared.message.Message.{Message}
use Rattle.receiver.specs.Agreeing.{Agrees}
use Rattle.receiver.specs.Holds.{AreDecoded}
use Rattle.receiver.specs.NotReceived.{IsNotReceived}
use Rattle.receiver.specs.declared.fault.ReceiveFault.{ReceiveFault}
use Rattle.receiver.specs.declared.fault.ReceiveFault.TheVariants as receiving
use Rattle.captures.proofs.CapturesSplit.{capture_first, capture_none, capture_not_bad, capture_not_cut}
use Rattle.captures.proofs.CapturesSplit.{capture_split}
use Rattle.captures.proofs.Elements.{All-behind, All-middle}
use Rattle.captures.proofs.HeaderFaults.{has_header, marked_by}
use Rattle.captures.specs.Decoded.{AreHartsDecoded, BeginsRefused, IsDecoded, NoHeader, StopsDecodingOf, StopsOf}
use Rattle.captures.specs.Decoded.{Version1, Version2}
use Rattle.captures.specs.NoMessage.{BeginsNone}
use Rattle.captures.specs.Returned.{IsMemory}
use Rattle.captures.specs.Whole.{IsWhole}
use Rattle.captures.specs.declared.outcome.CaptureFault.{CaptureFault}
use Rattle.captures.specs.declared.outcome.CaptureFault.TheVariants as fault
use Rattle.payload.specs.declared.by.By.{By}
use Rattle.auditing.proofs.HartPlaces.{place_of}
use Rattle.auditing.proofs.KnownPackets.{answer_alike, expected_alike, of_hart-messages, packets_alike, parted, reading_alike}
use Rattle.auditing.specs.DecodedAgain.{AreDecodedAgain}
use Rattle.auditing.specs.Known.{known_all, known_one}

-- What holds of each of a list holds of each of its first ones.
All-first : {X : Type 0} (P : X → Type 0) (front rest : List X) → All P (front ++ rest) → All P front
All-first P front rest all =
    subst (All P) (take-append_seam front rest) (All-take P (length front) (front ++ rest) all)

-- Of messages that are accepted each in its turn, each is accepted behind those before it.
accepted_at : (expected : Harts) (front : List Message) (message : Message) (back : List Message)
    → AreAccepted expected (front ++ message ∷ back)
    → AreAccepted expected front × IsOk (accepting (expected_after expected front) message)
accepted_at expected [] message back all = (tt, all.0)
accepted_at expected (first ∷ front) message back all =
    let rest = accepted_at (harts_after expected first) front message back all.1 in
    ((all.0, rest.0), rest.1)

-- What is answered to a message depends on the messages of its own hart before it.
answer_by_hart : (harts : ℕ) (front : List Message) (message : Message) → AreAccepted (newcomers harts) front
    → message.hart < harts
    → accepting (expected_after (newcomers harts) front) message ≡ answer (expected_of message.hart front) message
answer_by_hart harts front message all known =
    ap (λ o. answer_of o message) ((accepted_counted harts front all).each message.hart known)

-- The hart of a message that is accepted is known.
known_hart : (harts : ℕ) (front : List Message) (message : Message) (packet : Packet)
    → AreAccepted (newcomers harts) front
    → accepting (expected_after (newcomers harts) front) message ≡ Ok packet → message.hart < harts
known_hart harts front message packet all is = go (slice_get (expected_after (newcomers harts) front) message.hart) refl
  where
    counted : length (expected_after (newcomers harts) front) ≡ harts
    counted = (accepted_counted harts front all).count

    go : (o : Option Hart) → slice_get (expected_after (newcomers harts) front) message.hart ≡ o → message.hart < harts
    go None none = cc (sym (ap (λ o. answer_of o message) none) ∙ is)
    go (Some h) some =
        let within = slice_get_within (expected_after (newcomers harts) front) message.hart h some in
        omega (arith, within, counted)

module _ (words : Words) (program : IsProgram words) (harts : ℕ) (announced : Option Mode)
    (how : By) (sent received : List Message) (are : All IsMessage sent) (come : All IsMessage received)
    (same : (hart : ℕ) → known_all how (of_hart hart received) ≡ known_all how (of_hart hart sent))
    (accepted : AreAccepted (newcomers harts) sent) (agree : All (Agrees announced) sent)
    (lists : List (List Event)) (closed : List Bool)
    (decoded : AreDecoded (λ hart. words) harts sent lists closed) where
  -- The packets of each hart are the same.
  same_packets : (hart : ℕ) → packets_of hart received ≡ packets_of hart sent
  same_packets hart =
      packets_alike how (of_hart hart received) (of_hart hart sent) (of_hart-messages hart received come)
      (of_hart-messages hart sent are) (same hart)

  -- Each message of RECEIVED is accepted, agrees with the header, and its hart's packets describe a log.
  record Goes (front : List Message) (message : Message) : Type 0 where
    packet : Packet
    taken : AreAccepted (newcomers harts) front
        → accepting (expected_after (newcomers harts) front) message ≡ Ok packet
    agrees : Agrees announced message
    log : List Event
    described : Describes words (packets_of message.hart front ++ packet ∷ []) log

  -- A message of RECEIVED is known as one of SENT, after messages of its hart that are known as those before it.
  record Sent (front : List Message) (message : Message) : Type 0 where
    before : List Message
    its : Message
    later : List Message
    whole : sent ≡ before ++ its ∷ later
    own_is : known_all how (of_hart message.hart before) ≡ known_all how (of_hart message.hart front)
    its_is : known_one how its ≡ known_one how message

  sent_of : (front back : List Message) (message : Message) → received ≡ front ++ message ∷ back → Sent front message
  sent_of front back message whole =
      let hart = message.hart in
      let own : known_all how (of_hart hart sent)
      ≡ known_all how (of_hart hart front) ++ known_one how message ∷ known_all how (of_hart hart back) =
      sym (same hart) ∙ ap (λ l. known_all how (of_hart hart l)) whole
      ∙ ap (known_all how) (of_hart-append hart front (message ∷ back)
      ∙ ap (λ l. of_hart hart front ++ l) (of_hart-own message back))
      ∙ map-append (known_one how) (of_hart hart front) (message ∷ of_hart hart back) in
      let split = parted how (of_hart hart sent) (known_all how (of_hart hart front)) (known_all how (of_hart hart back))
      (known_one how message) own in
      let at = place_of sent hart split.front split.back split.its split.whole in
      record {
        before = at.front;
        its = split.its;
        later = at.back;
        whole = at.whole;
        own_is = ap (known_all how) at.own ∙ split.front_is;
        its_is = split.its_is;
      }

  module _ (front back : List Message) (message : Message) (whole : received ≡ front ++ message ∷ back) where
    abbrev hart : ℕ
    hart = message.hart

    at : Sent front message
    at = sent_of front back message whole

    hart_is : at.its.hart ≡ hart
    hart_is = ap (λ (m : Message). m.hart) at.its_is

    its_good : IsMessage at.its
    its_good = All-middle IsMessage at.before at.its at.later (subst (All IsMessage) at.whole are)

    came_good : IsMessage message
    came_good = All-middle IsMessage front message back (subst (All IsMessage) whole come)

    before_good : All IsMessage (of_hart hart at.before)
    before_good = of_hart-messages hart at.before (All-first IsMessage at.before (at.its ∷ at.later) (subst (All IsMessage) at.whole are))

    front_good : All IsMessage (of_hart hart front)
    front_good = of_hart-messages hart front (All-first IsMessage front (message ∷ back) (subst (All IsMessage) whole come))

    all_before : AreAccepted (newcomers harts) at.before
    all_before = (accepted_at (newcomers harts) at.before at.its at.later
        (subst (AreAccepted (newcomers harts)) at.whole accepted)).0

    answer_to : (packet : Packet) × (accepting (expected_after (newcomers harts) at.before) at.its ≡ Ok packet)
    answer_to = answered (accepting (expected_after (newcomers harts) at.before) at.its)
        (accepted_at (newcomers harts) at.before at.its at.later
        (subst (AreAccepted (newcomers harts)) at.whole accepted)).1

    its_known : at.its.hart < harts
    its_known = known_hart harts at.before at.its answer_to.0 all_before answer_to.1

    known : hart < harts
    known = subst (λ h. h < harts) hart_is its_known

    answer_is : answer (expected_of hart front) message ≡ Ok answer_to.0
    answer_is =
        sym (answer_alike how (expected_of hart front) at.its message its_good came_good at.its_is)
        ∙ ap (λ h. answer h at.its)
        (sym (expected_alike how hart at.before front before_good front_good at.own_is)
        ∙ ap (λ h. expected_of h at.before) (sym hart_is))
        ∙ sym (answer_by_hart harts at.before at.its all_before its_known) ∙ answer_to.1

    read : reading message.payload ≡ Ok answer_to.0
    read = ((answer-unpacked (Some (expected_of hart front)) message (Ok answer_to.0)).0 answer_is).1

    its_read : reading at.its.payload ≡ Ok answer_to.0
    its_read = reading_alike how at.its message its_good came_good at.its_is ∙ read

    packets : packets_of hart sent ≡ (packets_of hart front ++ answer_to.0 ∷ []) ++ packets_of hart at.later
    packets =
        ap (packets_of hart) at.whole
        ∙ packets_of-append hart at.before (at.its ∷ at.later)
        ∙ ap₂ (λ l m. l ++ m)
        (packets_alike how (of_hart hart at.before) (of_hart hart front) before_good front_good at.own_is)
        (ap (λ h. packets_of h (at.its ∷ at.later)) (sym hart_is)
        ∙ ap packets_in (of_hart-own at.its at.later)
        ∙ packets_in-cons at.its (of_hart at.its.hart at.later) answer_to.0 its_read
        ∙ ap (λ h. answer_to.0 ∷ packets_of h at.later) hart_is)
        ∙ sym (append_assoc (packets_of hart front) (answer_to.0 ∷ []) (packets_of hart at.later))

    goes : Goes front message
    goes =
        let known_list = slice_get-some lists hart (let count = decoded.lists_count in omega (arith, known, count)) in
        let described = decoded.described hart known_list.0 known_list.1 in
        let all : Describes words ((packets_of hart front ++ answer_to.0 ∷ []) ++ packets_of hart at.later) known_list.0 =
        subst (λ ps. Describes words ps known_list.0) packets described in
        let first =
        front_describes words (packets_of hart front ++ answer_to.0 ∷ []) (packets_of hart at.later) known_list.0 all in
        let its_agrees =
        All-middle (Agrees announced) at.before at.its at.later (subst (All (Agrees announced)) at.whole agree) in
        record {
          packet = answer_to.0;
          taken = λ before. answer_by_hart harts front message before known ∙ answer_is;
          agrees = λ packet is. its_agrees packet (reading_alike how at.its message its_good came_good at.its_is ∙ is);
          log = _;
          described = first.0;
        }

  -- No message is refused, unless an allocation failed.
  not_refused : (front : List Message) (message : Message) (back : List Message) (why : ReceiveFault)
      → received ≡ front ++ message ∷ back → AreAccepted (newcomers harts) front
      → IsNotReceived words harts announced front message why → why ≡ receiving.Decode Memory
  not_refused front message back (receiving.Demux why) whole before refused =
      let goes_on = goes front back message whole in
      cc (sym (goes_on.taken before) ∙ refused)
  not_refused front message back receiving.Mode whole before refused =
      let goes_on = goes front back message whole in
      let read : reading message.payload ≡ Ok refused.packet = read_of refused.packet refused.accepted in
      absurd (true≢false (sym refused.another ∙ goes_on.agrees refused.packet read))
    where
      read_of : (packet : Packet) → accepting (expected_after (newcomers harts) front) message ≡ Ok packet
          → reading message.payload ≡ Ok packet
      read_of packet is =
          ((answer-unpacked (slice_get (expected_after (newcomers harts) front) message.hart) message (Ok packet)).0
          is).1
  not_refused front message back (receiving.Decode why) whole before refused =
      go (refused.0.not_decoded.reason)
    where
      goes_on : Goes front message
      goes_on = goes front back message whole

      same_packet : goes_on.packet ≡ refused.0.packet
      same_packet = cc (sym (goes_on.taken before) ∙ refused.0.accepted)

      go : (why ≡ Memory)
          ⊎ ((log : List Event) → ¬ Describes words (packets_of message.hart front ++ refused.0.packet ∷ []) log)
          → receiving.Decode why ≡ receiving.Decode Memory
      go (inl memory) = ap receiving.Decode memory
      go (inr none) =
          absurd (none goes_on.log (subst
          (λ p. Describes words (packets_of message.hart front ++ p ∷ []) goes_on.log) same_packet goes_on.described))

  -- Lists and flags that all messages of RECEIVED decode to are the same.
  same_lists : (again : List (List Event)) (flags : List Bool)
      → AreDecoded (λ hart. words) harts received again flags → (again ≡ lists) × (flags ≡ closed)
  same_lists again flags other = (
    each_same again lists (other.lists_count ∙ sym decoded.lists_count)
        (λ hart a b at_a at_b. one_log words program (packets_of hart sent) a b
        (subst (λ ps. Describes words ps a) (same_packets hart) (other.described hart a at_a))
        (decoded.described hart b at_b)),
    each_same flags closed (other.closed_count ∙ sym decoded.closed_count)
        (λ hart a b at_a at_b. other.are_closed hart a at_a ∙ ap last_is_closing (same_packets hart)
        ∙ sym (decoded.are_closed hart b at_b)),
  )
    where
      each_same : {X : Type 0} (xs ys : List X) → length xs ≡ length ys
          → ((k : ℕ) (x y : X) → slice_get xs k ≡ Some x → slice_get ys k ≡ Some y → x ≡ y) → xs ≡ ys
      each_same [] [] count each = refl
      each_same [] (y ∷ ys) count each = absurd (omega (arith, count))
      each_same (x ∷ xs) [] count each = absurd (omega (arith, count))
      each_same (x ∷ xs) (y ∷ ys) count each = λ i.
          each 0 x y refl refl i ∷ each_same xs ys (omega (arith, count)) (λ k. each (suc k)) i

  -- A message at which decoding stops is refused because an allocation failed.
  at_message : (ranges : All IsMessage received) (messages : List Message) (rest : List ℕ) (why : ReceiveFault)
      → All IsMessage messages → capture received ≡ capture messages ++ rest → AreAccepted (newcomers harts) messages
      → BeginsRefused words harts announced messages rest why → why ≡ receiving.Decode Memory
  at_message ranges messages rest why good whole before refused =
      let split = capture_split received messages rest ranges good whole in
      let behind = All-behind IsMessage messages split.later (subst (All IsMessage) split.whole ranges) in
      let first =
      capture_first split.later refused.message refused.rest behind refused.ranges
      (sym split.bytes ∙ refused.begins) in
      not_refused messages refused.message first.0 why (split.whole ∙ ap (λ l. messages ++ l) first.1) before
      refused.refused

  -- Decoding of RECEIVED's messages.
  pub again : (ranges : All IsMessage received) (lists_again : List (List Event)) (flags : List Bool)
      (stop : Option (ℕ × CaptureFault))
      → ((number : ℕ) (why : MessageFault) → stop ≡ Some (number, fault.Message why) → ⊥)
      → AreHartsDecoded every_hart words harts announced (capture received) lists_again flags stop
      → AreDecodedAgain lists closed lists_again flags stop
  again ranges lists_again flags None none is =
      let split = capture_split received is.messages is.rest ranges is.ranges is.whole in
      let no_more = capture_none split.later (sym split.bytes ∙ is.stops) in
      let all : received ≡ is.messages =
      split.whole ∙ ap (λ l. is.messages ++ l) no_more ∙ append-nil is.messages in
      same_lists lists_again flags
      (subst (λ ms. AreDecoded (λ hart. words) harts ms lists_again flags)
      (all_selected is.messages is.ranges ∙ sym all) is.decoded)
  again ranges lists_again flags (Some stop) none is =
      by_fault stop.1 (λ why same. none stop.0 why (ap (λ f. Some (stop.0, f)) same))
      (subst (λ ms. StopsDecodingOf every_hart words harts announced ms is.rest stop.1) every is.stops.1)
    where
      every : selected every_hart is.messages ≡ is.messages
      every = all_selected is.messages is.ranges

      accepted_all : AreAccepted (newcomers harts) is.messages
      accepted_all = subst (AreAccepted (newcomers harts)) every is.accepted

      by_fault : (f : CaptureFault) → ((why : MessageFault) → f ≡ fault.Message why → ⊥)
          → StopsDecodingOf every_hart words harts announced is.messages is.rest f → IsMemory f
      by_fault (fault.Message why) never stops = absurd (never why refl)
      by_fault (fault.Demux why) never stops =
          cc (at_message ranges is.messages is.rest (receiving.Demux why) is.ranges is.whole accepted_all stops.begins)
      by_fault (fault.Decode why) never stops =
          let is_memory : why ≡ Memory =
          cc (at_message ranges is.messages is.rest (receiving.Decode why) is.ranges is.whole accepted_all stops.begins) in
          is_memory
      by_fault fault.Mode never stops =
          cc (at_message ranges is.messages is.rest receiving.Mode is.ranges is.whole accepted_all stops.begins)

-- The capture of messages ends before no bytes that begin none.
ends_well : (messages : List Message) (why : MessageFault) → All IsMessage messages
    → BeginsNone (capture messages) why → ⊥
ends_well messages message_fault.Short good cut = capture_not_cut messages good cut
ends_well messages message_fault.BadLength good bad = capture_not_bad messages good bad
ends_well messages message_fault.Read good none = none
ends_well messages message_fault.Write good none = none
ends_well messages message_fault.BadHeader good none = none

-- How many harts are decoded, and the mode that is announced.
abbrev counted_harts : ℕ → Option Header → ℕ
counted_harts harts None = harts
counted_harts harts (Some header) = header.harts

abbrev announced_mode : Option Header → Option Mode
announced_mode None = None
announced_mode (Some header) = Some header.mode

-- What a capture that is read whole decodes to is what its messages do.
by_messages : (words : Words) (harts : ℕ) (bytes : List ℕ) (header : Option Header) (messages : List Message)
    (lists : List (List Event)) (closed : List Bool) (stop : Option (ℕ × CaptureFault))
    → IsWhole bytes header messages → IsDecoded words harts bytes lists closed stop
    → AreHartsDecoded every_hart words (counted_harts harts header) (announced_mode header) (capture messages) lists
    closed stop
by_messages words harts bytes None messages lists closed stop whole (Version1 unmarked is) =
    subst (λ b. AreHartsDecoded every_hart words harts None b lists closed stop) whole.whole.1 is
by_messages words harts bytes None messages lists closed stop whole (Version2 header rest good begins is) =
    absurd (whole.whole.0 (setting_bytes header ++ rest, begins))
by_messages words harts bytes None messages lists closed stop whole (NoHeader why none stops no_lists no_flags) =
    absurd (whole.whole.0 (marked_by bytes why none))
by_messages words harts bytes (Some header) messages lists closed stop whole (Version1 unmarked is) =
    absurd (unmarked (setting_bytes header ++ capture messages, whole.whole.1))
by_messages words harts bytes (Some header) messages lists closed stop whole (Version2 other rest good begins is) =
    let both : header_bytes header ++ capture messages ≡ header_bytes other ++ rest = sym whole.whole.1 ∙ begins in
    let same : header ≡ other = header_only header other (capture messages) rest whole.whole.0 good both in
    let rests : capture messages ≡ rest =
    append_cancel_left (header_bytes header) (capture messages) rest
    (both ∙ ap (λ (k : Header). header_bytes k ++ rest) (sym same)) in
    subst
    (λ (h : Header). AreHartsDecoded every_hart words h.harts (Some h.mode) (capture messages) lists closed stop)
    (sym same)
    (subst (λ b. AreHartsDecoded every_hart words other.harts (Some other.mode) b lists closed stop) (sym rests) is)
by_messages words harts bytes (Some header) messages lists closed stop whole
    (NoHeader why none stops no_lists no_flags) =
    absurd (has_header header (capture messages) bytes why whole.whole.0 whole.whole.1 none)

-- A capture that is read whole stops decoding at no place where no message stands.
never_unread : (words : Words) (harts : ℕ) (announced : Option Mode) (messages : List Message)
    (lists : List (List Event)) (closed : List Bool) (stop : Option (ℕ × CaptureFault)) → All IsMessage messages
    → AreHartsDecoded every_hart words harts announced (capture messages) lists closed stop
    → (number : ℕ) (why : MessageFault) → stop ≡ Some (number, fault.Message why) → ⊥
never_unread words harts announced messages lists closed stop ranges is number why at =
    let split = capture_split messages is.messages is.rest ranges is.ranges is.whole in
    let behind = All-behind IsMessage is.messages split.later (subst (All IsMessage) split.whole ranges) in
    let stops = subst (StopsOf every_hart words harts announced is.messages is.rest) at is.stops in
    ends_well split.later why behind (subst (λ rest. BeginsNone rest why) split.bytes stops.1)

-- RECEIVED decodes as SENT does.
pub decoded_again : (how : By) (words : Words) (harts : ℕ) (sent received : List ℕ) (header : Option Header)
    (messages others : List Message) (lists again_lists : List (List Event)) (closed flags : List Bool)
    (stop : Option (ℕ × CaptureFault)) → IsProgram words → IsWhole sent header messages → IsWhole received header others
    → ((hart : ℕ) → known_all how (of_hart hart others) ≡ known_all how (of_hart hart messages))
    → IsDecoded words harts sent lists closed None
    → IsDecoded words harts received again_lists flags stop → AreDecodedAgain lists closed again_lists flags stop
decoded_again how words harts sent received header messages others lists again_lists closed flags stop program whole
    other same first second =
    let one = by_messages words harts sent header messages lists closed None whole first in
    let two = by_messages words harts received header others again_lists flags stop other second in
    let split = capture_split messages one.messages one.rest whole.ranges one.ranges one.whole in
    let no_more = capture_none split.later (sym split.bytes ∙ one.stops) in
    let all : one.messages ≡ messages =
    sym (split.whole ∙ ap (λ l. one.messages ++ l) no_more ∙ append-nil one.messages) in
    let every = all_selected one.messages one.ranges ∙ all in
    again words program (counted_harts harts header) (announced_mode header) how messages others whole.ranges other.ranges
    same
    (subst (AreAccepted (newcomers (counted_harts harts header))) every one.accepted)
    (subst (All (Agrees (announced_mode header))) every one.agree) lists closed
    (subst (λ ms. AreDecoded (λ hart. words) (counted_harts harts header) ms lists closed) every one.decoded)
    other.ranges again_lists flags stop
    (never_unread words (counted_harts harts header) (announced_mode header) others again_lists flags stop other.ranges
    two) two
