-- What a message that was received does.
use Rattle.std.proofs.Common.{◌≡◌, ◌≤◌, ◌<◌, ◌++◌, ℕ, List, [], ◌∷◌, Option, Some, None, Ok, drop, length}
use Rattle.std.proofs.Common.{slice_get}
use Rattle.std.proofs.Common.{refl, sym, ap, subst, ◌∙◌, arith}
use Rattle.std.specs.List.{last_or}
use Rattle.std.specs.Option.{unwrap_or}
use Rattle.std.specs.Prelude.{IsFalse, IsOk, IsSomeAnd}
use Rattle.std.proofs.Math.Seq.{drop-append_seam}
use Rattle.std.proofs.lemmas.List.{length-append}
use Rattle.std.proofs.lemmas.Option.{slice_get_within}
use Rattle.retire.specs.declared.event.Event.{Event}
use Rattle.rvclass.specs.Fetch.{words_of}
use Rattle.rvclass.specs.Words.{Words, IsProgram}
use Rattle.payload.specs.ClosedTrace.{last_is_closing}
use Rattle.payload.specs.Reading.{reading}
use Rattle.payload.specs.declared.mode.Mode.{Mode}
use Rattle.payload.specs.declared.packet.Packet.{Packet}
use Rattle.decoder.proofs.ExtendingLemmas.{log_goes_on}
use Rattle.decoder.specs.Describes.{Describes}
use Rattle.decoder.specs.Settling.{waits}
use Rattle.message.proofs.AcceptedLemmas.{accepted_counted, answered}
use Rattle.message.proofs.Answering.{answer-unpacked}
use Rattle.message.proofs.HartMessages.{last_is_closing-next, packets_of-next}
use Rattle.message.specs.Accepted.{AreAccepted, expected_after, newcomers}
use Rattle.message.specs.Accepting.{accepting, harts_after}
use Rattle.message.specs.Harts.{Harts, is_over}
use Rattle.message.specs.OfHart.{packets_of}
use Rattle.message.specs.declared.hart.Hart.{Hart}
use Rattle.message.specs.declared.message.Message.{Message}
use Rattle.receiver.proofs.HoldLemmas.{list_of}
use Rattle.receiver.specs.Agreeing.{Agrees}
use Rattle.receiver.specs.Holds.{HasReceived}
use Rattle.receiver.specs.Received.{Received}
use Rattle.listing.specs.Effect.{HasEffect, does_wait, last_is_waiting}
use Rattle.listing.specs.Entries.{effect_entry}
use Rattle.listing.specs.Listing.{names_in, naming_mode}
use Rattle.listing.specs.declared.entries.At.{At}
use Rattle.listing.specs.declared.input.ListInput.{ListInput}
use Rattle.listing.specs.steps.Message.{IsTaken, effect_of}

-- The events of a hart. A hart that is not known has none.
abbrev pub list_at : Received → ℕ → List Event
list_at received hart = unwrap_or (slice_get received.lists hart) []

-- The last of accepted messages is accepted after those before.
last_accepted : (expected : Harts) (messages : List Message) (message : Message)
    → AreAccepted expected (messages ++ message ∷ [])
    → AreAccepted expected messages × IsOk (accepting (expected_after expected messages) message)
last_accepted expected [] message all = (tt, all.0)
last_accepted expected (m ∷ messages) message all =
    let rest = last_accepted (harts_after expected m) messages message all.1 in
    ((all.0, rest.0), rest.1)

-- A message that was accepted: its hart is known, and its payload unpacks to this packet.
record IsKnown (harts : ℕ) (message : Message) : Type 0 where
  packet : Packet
  read : reading message.payload ≡ Ok packet
  known : message.hart < harts

accepted_known : (harts : ℕ) (messages : List Message) (message : Message)
    → AreAccepted (newcomers harts) (messages ++ message ∷ []) → IsKnown harts message
accepted_known harts messages message all =
    record { packet = answer.0; read = fact.1; known = known (slice_get expected message.hart) refl fact.0 }
  where
    expected : Harts
    expected = expected_after (newcomers harts) messages

    split : AreAccepted (newcomers harts) messages × IsOk (accepting expected message)
    split = last_accepted (newcomers harts) messages message all

    answer : (packet : Packet) × (accepting expected message ≡ Ok packet)
    answer = answered (accepting expected message) split.1

    fact : IsSomeAnd (slice_get expected message.hart) (λ h. IsFalse (is_over h) × (h.expected ≡ message.number))
        × (reading message.payload ≡ Ok answer.0)
    fact = (answer-unpacked (slice_get expected message.hart) message (Ok answer.0)).0 answer.1

    known : (o : Option Hart) → slice_get expected message.hart ≡ o
        → IsSomeAnd o (λ h. IsFalse (is_over h) × (h.expected ≡ message.number)) → message.hart < harts
    known None is never = absurd never
    known (Some h) is next =
        let counted = accepted_counted harts messages split.0 in
        omega (arith, slice_get_within expected message.hart h is, counted.count)

-- With a packet behind them packets wait exactly where that packet does.
pub waiting-next : (packets : List Packet) (packet : Packet) → last_is_waiting (packets ++ packet ∷ []) ≡ waits packet
waiting-next packets packet = ends None packets
  where
    ends : (before : Option Packet) (packets : List Packet)
        → does_wait (last_or before (packets ++ packet ∷ [])) ≡ waits packet
    ends before [] = refl
    ends before (first ∷ packets) = ends (Some first) packets

module _ (words : Words) (program : IsProgram words) (harts : ℕ) (messages : List Message) (message : Message)
    (old new : Received) (before : HasReceived (λ hart. words) harts messages old)
    (after : HasReceived (λ hart. words) harts (messages ++ message ∷ []) new) where
  is : IsKnown harts message
  is = accepted_known harts messages message after.accepts.accepted

  abbrev all : List Packet
  all = packets_of message.hart messages

  next : packets_of message.hart (messages ++ message ∷ []) ≡ all ++ is.packet ∷ []
  next = packets_of-next messages message is.packet is.read

  -- The list of the message's hart goes on.
  record GoesOn : Type 0 where
    rest : List Event
    described_before : Describes words all (list_at old message.hart)
    described : Describes words (packets_of message.hart (messages ++ message ∷ [])) (list_at new message.hart)
    same : list_at new message.hart ≡ list_at old message.hart ++ rest

  goes_on_from : (earlier later : List Event) → slice_get old.lists message.hart ≡ Some earlier
      → Describes words all earlier → slice_get new.lists message.hart ≡ Some later
      → Describes words (packets_of message.hart (messages ++ message ∷ [])) later → GoesOn
  goes_on_from earlier later at_first described_before at_last described =
      let was : list_at old message.hart ≡ earlier = ap (λ o. unwrap_or o []) at_first in
      let now : list_at new message.hart ≡ later = ap (λ o. unwrap_or o []) at_last in
      let more = log_goes_on words program all (is.packet ∷ []) earlier later described_before
      (subst (λ packets. Describes words packets later) next described) in
      record {
        rest = more.rest;
        described_before = subst (Describes words all) (sym was) described_before;
        described = subst (Describes words (packets_of message.hart (messages ++ message ∷ []))) (sym now) described;
        same = now ∙ more.is ∙ ap (λ l. l ++ more.rest) (sym was);
      }

  goes_on : GoesOn
  goes_on =
      let known = is.known in
      let count = before.holds.lists_count in
      let later_count = after.holds.lists_count in
      let earlier = list_of (λ hart. words) harts messages message.hart old before.holds
      (omega (arith, known, count)) in
      let later = list_of (λ hart. words) harts (messages ++ message ∷ []) message.hart new after.holds
      (omega (arith, known, later_count)) in
      goes_on_from earlier.0 later.0 earlier.1 earlier.2 later.1 later.2

  -- The list is no shorter than before.
  pub no_shorter : length (list_at old message.hart) ≤ length (list_at new message.hart)
  no_shorter =
      let both = length-append (list_at old message.hart) goes_on.rest in
      let size = ap length goes_on.same in
      omega (arith, both, size)

  -- The message adds the events behind those before.
  pub has_effect : HasEffect words messages message
      (effect_of (drop (length (list_at old message.hart)) (list_at new message.hart))
      (length (list_at new message.hart)) (reading message.payload))
  has_effect =
      let more = goes_on in
      let earlier = list_at old message.hart in
      let added : drop (length earlier) (list_at new message.hart) ≡ more.rest =
      ap (drop (length earlier)) more.same ∙ drop-append_seam earlier more.rest in
      let now = drop (length earlier) (list_at new message.hart) in
      subst (λ read. HasEffect words messages message (effect_of now (length (list_at new message.hart)) read))
      (sym is.read) (record {
        earlier = earlier;
        described_before = more.described_before;
        described = subst (Describes words (packets_of message.hart (messages ++ message ∷ [])))
            (more.same ∙ ap (λ l. earlier ++ l) (sym added)) more.described;
        counted = ap length (more.same ∙ ap (λ l. earlier ++ l) (sym added));
        waiting = sym (ap last_is_waiting next ∙ waiting-next all is.packet);
        closing = sym (ap last_is_closing next ∙ last_is_closing-next all is.packet);
      })

module _ {S : Type 0} (input : ListInput S) (program : IsProgram (words_of input.program.now)) (harts : ℕ)
    (messages : List Message) (message : Message) (old new : Received)
    (before : HasReceived (λ hart. words_of input.program.now) harts messages old)
    (after : HasReceived (λ hart. words_of input.program.now) harts (messages ++ message ∷ []) new)
    (announced : Option Mode) (at : At) (mode : Mode) (count : ℕ) (list added : List Event)
    (is_mode : mode ≡ naming_mode announced) (is_count : count ≡ length (list_at old message.hart))
    (is_list : list ≡ list_at new message.hart) where
  abbrev entry : Mode → List Event → List ℕ
  entry mode added =
      effect_entry input.form (names_in input) mode at.number at.offset message
      (effect_of added (length list) (reading message.payload))

  -- Its entry says what it does.
  pub is_taken : added ≡ drop count list → Agrees announced message
      → IsTaken input harts announced at messages message new (entry mode added)
  is_taken is_added agrees =
      let same : added ≡ drop (length (list_at old message.hart)) (list_at new message.hart) =
      is_added ∙ ap (λ n. drop n list) is_count ∙ ap (drop (length (list_at old message.hart))) is_list in
      record {
        effect = effect_of added (length list) (reading message.payload);
        receives = after;
        has = subst (λ rows. HasEffect (words_of input.program.now) messages message
            (effect_of added rows (reading message.payload))) (sym (ap length is_list))
            (subst (λ added. HasEffect (words_of input.program.now) messages message
            (effect_of added (length (list_at new message.hart)) (reading message.payload))) (sym same)
            (has_effect (words_of input.program.now) program harts messages message old new before after));
        agrees = agrees;
        text = ap (λ mode. entry mode added) is_mode;
      }
