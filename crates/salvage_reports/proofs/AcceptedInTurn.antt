-- Messages that a demultiplexer accepts, with their effects: those of each hart come in turn.
use Rattle.std.proofs.Common.{◌≡◌, ◌≢◌, ◌<◌, ◌++◌, ◌&&◌, ◌||◌, ◌^◌, ◌==◌, ℕ, zero, suc, Bool, true, false, cond}
use Rattle.std.proofs.Common.{List, [], ◌∷◌, Option, Some, None, Ok, length, map, slice_get, refl, sym, ap, subst, ◌∙◌, arith}
use Rattle.std.specs.Prelude.{IsFalse, IsOk, IsSomeAnd, if◌then◌else◌, nat_lt, not}
use Rattle.std.proofs.lemmas.Bool.{eq-eqb, eqb-true, lt-ltb, ltb-true}
use Rattle.std.proofs.lemmas.List.{length_push}
use Rattle.std.proofs.lemmas.Option.{same_Some, slice_get_within}
use Rattle.retire.specs.declared.event.Event.{Event}
use Rattle.rvclass.specs.Words.{Words, IsProgram}
use Rattle.payload.specs.ClosedTrace.{last_is_closing}
use Rattle.payload.specs.Reading.{reading}
use Rattle.payload.specs.declared.packet.Packet.{Packet}
use Rattle.decoder.proofs.UniqueLemmas.{one_log}
use Rattle.decoder.specs.Describes.{Describes}
use Rattle.message.proofs.AcceptedLemmas.{AreAccepted-next, accepted_counted, answered, expected_after-next}
use Rattle.message.proofs.Answering.{answer-unpacked}
use Rattle.message.proofs.HartMessages.{expected_of, packets_of-next, packets_of-other}
use Rattle.message.proofs.OfHartLemmas.{of_hart-next, of_hart-other}
use Rattle.message.specs.Accepted.{AreAccepted, expected_after, newcomers}
use Rattle.message.specs.Accepting.{accepting}
use Rattle.message.specs.Harts.{Harts, end_of_numbers, is_over}
use Rattle.message.specs.OfHart.{of_hart, packets_of}
use Rattle.message.specs.declared.hart.Hart.{Hart}
use Rattle.message.specs.declared.message.Message.{Message}
use Rattle.listing.specs.Effect.{Effect, HasEffect, HaveEffects}
use Rattle.salvaging.specs.Strangers.{has_number, own_messages}
use Rattle.salvaging.specs.TreatedCounts.{is_own, own_of}
use Rattle.salvaging.proofs.OwnTreated.{own_cons}
use Rattle.salvaging.proofs.TakenWhole.{AreInTurn}

-- What is known of a message that is accepted after these: it is the next one of its hart, whose trace is not closed.
pub record IsNext (harts : ℕ) (front : List Message) (message : Message) : Type 0 where
  pub hart : message.hart < harts
  pub number : message.number ≡ length (of_hart message.hart front)
  pub small : message.number < 2 ^ 63
  pub goes : last_is_closing (packets_of message.hart front) ≡ false
  pub packet : Packet
  pub read : reading message.payload ≡ Ok packet

-- A hart of which more is accepted.
not_over : (closed small : Bool) → (closed || not small) ≡ false → (closed ≡ false) × (small ≡ true)
not_over false true over = (refl, refl)
not_over false false over = cc
not_over true small over = cc

module _ (harts : ℕ) (front : List Message) (accepted : AreAccepted (newcomers harts) front) (message : Message)
    (ok : IsOk (accepting (expected_after (newcomers harts) front) message)) where
  abbrev expected : Harts
  expected = expected_after (newcomers harts) front

  answer : (packet : Packet) × (accepting expected message ≡ Ok packet)
  answer = answered (accepting expected message) ok

  fact : IsSomeAnd (slice_get expected message.hart) (λ h. IsFalse (is_over h) × (h.expected ≡ message.number))
      × (reading message.payload ≡ Ok answer.0)
  fact = (answer-unpacked (slice_get expected message.hart) message (Ok answer.0)).0 answer.1

  pub is_next : IsNext harts front message
  is_next = by_hart (slice_get expected message.hart) refl fact.0
    where
      by_hart : (o : Option Hart) → slice_get expected message.hart ≡ o
          → IsSomeAnd o (λ h. IsFalse (is_over h) × (h.expected ≡ message.number)) → IsNext harts front message
      by_hart None is never = absurd never
      by_hart (Some h) is next =
          let counted = accepted_counted harts front accepted in
          let count = counted.count in
          let inside = slice_get_within expected message.hart h is in
          let within : message.hart < harts = omega (arith, inside, count) in
          let same : h ≡ expected_of message.hart front =
          same_Some h (expected_of message.hart front) (sym is ∙ counted.each message.hart within) in
          let open_hart = not_over h.closed (nat_lt h.expected end_of_numbers) next.0 in
          let small = ltb-true h.expected (2 ^ 63) open_hart.1 in
          let number = next.1 in
          record {
            hart = within;
            number = sym next.1 ∙ ap (λ (h : Hart). h.expected) same;
            small = omega (arith, small, number);
            goes = sym (ap (λ (h : Hart). h.closed) same) ∙ open_hart.0;
            packet = answer.0;
            read = fact.1;
          }

  pub accepted_next : AreAccepted (newcomers harts) (front ++ message ∷ [])
  accepted_next = AreAccepted-next (newcomers harts) front message answer.0 accepted answer.1

  pub own_next : is_own message.hart message ≡ true
  own_next =
      ap (λ b. b && has_number message) (eq-eqb message.hart message.hart refl)
      ∙ lt-ltb message.number (2 ^ 63) is_next.small

-- The messages after others are accepted.
pub accepted_rest : (harts : ℕ) (front : List Message) (message : Message) (rest : List Message)
    → AreAccepted (expected_after (newcomers harts) front) (message ∷ rest)
    → AreAccepted (expected_after (newcomers harts) (front ++ message ∷ [])) rest
accepted_rest harts front message rest all =
    subst (λ e. AreAccepted e rest) (sym (expected_after-next (newcomers harts) front message)) all.1

-- Each of them is of a hart that is known, and has a number that a hart may have.
pub accepted_at : (harts : ℕ) (front rest : List Message) → AreAccepted (newcomers harts) front
    → AreAccepted (expected_after (newcomers harts) front) rest → (at : ℕ) (message : Message)
    → slice_get rest at ≡ Some message → (message.hart < harts) × (is_own message.hart message ≡ true)
accepted_at harts front [] before all at message here = cc
accepted_at harts front (first ∷ rest) before all zero message here =
    subst (λ (m : Message). (m.hart < harts) × (is_own m.hart m ≡ true)) (same_Some first message here)
    ((is_next harts front before first all.0).hart, own_next harts front before first all.0)
accepted_at harts front (first ∷ rest) before all (suc at) message here =
    accepted_at harts (front ++ first ∷ []) rest (accepted_next harts front before first all.0)
    (accepted_rest harts front first rest all) at message here

-- The events that messages with these effects add.
abbrev pub added_by : List Effect → List (List Event)
added_by effects = map (λ (effect : Effect). effect.added) effects

module _ (words : Words) (program : IsProgram words) (harts : ℕ) where
  -- What is to come of a hart after these messages.
  abbrev Turns : ℕ → List Message → List Message → List Effect → Type 0
  Turns hart front rest effects =
      (before : List Event) → Describes words (packets_of hart front) before
      → AreInTurn words (length (of_hart hart front)) (packets_of hart front) before (own_messages hart rest)
      (own_of hart rest (added_by effects))

  module _ (front : List Message) (message : Message) (rest : List Message) (effect : Effect) (effects : List Effect)
      (next : IsNext harts front message) (has : HasEffect words front message effect)
      (later : (hart : ℕ) → Turns hart (front ++ message ∷ []) rest effects) where
    -- Of its own hart.
    own_turns : (before : List Event) → Describes words (packets_of message.hart front) before
        → AreInTurn words (length (of_hart message.hart front)) (packets_of message.hart front) before
        (message ∷ own_messages message.hart rest) (effect.added ∷ own_of message.hart rest (added_by effects))
    own_turns before described =
        let packets = packets_of message.hart front in
        let more = packets_of-next front message next.packet next.read in
        let earlier = one_log words program packets has.earlier before has.described_before described in
        let after = subst (λ ps. Describes words ps (before ++ effect.added)) more
        (subst (λ es. Describes words (packets_of message.hart (front ++ message ∷ [])) (es ++ effect.added)) earlier
        has.described) in
        let count = ap length (of_hart-next front message) ∙ length_push (of_hart message.hart front) message in (
          record {
            number = next.number;
            small = next.small;
            goes = next.goes;
            packet = next.packet;
            read = next.read;
            described = after;
          },
          subst (λ n. AreInTurn words n (packets ++ next.packet ∷ []) (before ++ effect.added)
              (own_messages message.hart rest) (own_of message.hart rest (added_by effects))) count
              (subst (λ ps. AreInTurn words (length (of_hart message.hart (front ++ message ∷ []))) ps
              (before ++ effect.added) (own_messages message.hart rest) (own_of message.hart rest (added_by effects)))
              more
              (later message.hart (before ++ effect.added)
              (subst (λ ps. Describes words ps (before ++ effect.added)) (sym more) after))),
        )

    -- Of another hart.
    other_turns : (hart : ℕ) → message.hart ≢ hart → (before : List Event) → Describes words (packets_of hart front) before
        → AreInTurn words (length (of_hart hart front)) (packets_of hart front) before (own_messages hart rest)
        (own_of hart rest (added_by effects))
    other_turns hart other before described =
        let same = packets_of-other hart front message other in
        subst (λ n. AreInTurn words n (packets_of hart front) before (own_messages hart rest)
        (own_of hart rest (added_by effects))) (ap length (of_hart-other hart front message other))
        (subst (λ ps. AreInTurn words (length (of_hart hart (front ++ message ∷ []))) ps before (own_messages hart rest)
        (own_of hart rest (added_by effects))) same
        (later hart before (subst (λ ps. Describes words ps before) (sym same) described)))

    one_turns : (own : is_own message.hart message ≡ true) → (hart : ℕ)
        → Turns hart front (message ∷ rest) (effect ∷ effects)
    one_turns own hart before described =
        subst (λ ms. AreInTurn words (length (of_hart hart front)) (packets_of hart front) before ms
        (own_of hart (message ∷ rest) (added_by (effect ∷ effects)))) (sym (own_cons hart message rest))
        (by_own (is_own hart message) refl)
      where
        by_own : (b : Bool) → is_own hart message ≡ b
            → AreInTurn words (length (of_hart hart front)) (packets_of hart front) before
            (cond b (message ∷ own_messages hart rest) (own_messages hart rest))
            (if b then effect.added ∷ own_of hart rest (added_by effects) else own_of hart rest (added_by effects))
        by_own true is =
            subst (λ h. (before : List Event) → Describes words (packets_of h front) before
            → AreInTurn words (length (of_hart h front)) (packets_of h front) before
            (message ∷ own_messages h rest) (effect.added ∷ own_of h rest (added_by effects)))
            (by_tests (message.hart == hart) (has_number message) refl is) own_turns before described
          where
            by_tests : (same has : Bool) → (message.hart == hart) ≡ same → (same && has) ≡ true → message.hart ≡ hart
            by_tests true has same both = eqb-true message.hart hart same
            by_tests false has same both = cc
        by_own false is_not =
            other_turns hart (λ same. let never : true ≡ false =
            sym own ∙ ap (λ h. is_own h message) same ∙ is_not in cc) before described

  pub in_turn : (front rest : List Message) (effects : List Effect) → AreAccepted (newcomers harts) front
      → AreAccepted (expected_after (newcomers harts) front) rest → HaveEffects words front rest effects → (hart : ℕ)
      → Turns hart front rest effects
  in_turn front [] [] before all have hart = λ events described. tt
  in_turn front [] (effect ∷ effects) before all have hart = absurd have
  in_turn front (message ∷ rest) [] before all have hart = absurd have
  in_turn front (message ∷ rest) (effect ∷ effects) before all have hart =
      one_turns front message rest effect effects (is_next harts front before message all.0) have.0
      (λ other. in_turn (front ++ message ∷ []) rest effects (accepted_next harts front before message all.0)
      (accepted_rest harts front message rest all) have.1 other)
      (own_next harts front before message all.0) hart
