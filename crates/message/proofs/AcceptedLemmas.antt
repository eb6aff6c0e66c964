-- Messages that were accepted in turn, and what is expected of each hart after them.
use Rattle.std.proofs.Common.{◌≡◌, ◌≢◌, ◌⊎◌, inl, inr, ◌<◌, ℕ, zero, suc, List, [], ◌∷◌, ◌++◌, Option, Some, None}
use Rattle.std.proofs.Common.{Result, Ok, Err, IfOk, length, set, replicate, get_or, slice_get, refl, sym, ap, subst}
use Rattle.std.proofs.Common.{◌∙◌, arith}
use Rattle.std.specs.Prelude.{IsFalse, IsSomeAnd, IsOk, is_ok}
use Rattle.std.proofs.lemmas.List.{append_assoc, append-nil, length-set, length-replicate, get_or-replicate}
use Rattle.std.proofs.lemmas.Option.{slice_get_within, slice_get-get_or, same_Some}
use Rattle.payload.specs.Reading.{reading}
use Rattle.payload.specs.declared.packet.Packet.{Packet}
use Rattle.message.proofs.Answering.{answer-unpacked}
use Rattle.message.proofs.HartMessages.{expected_of, expected_of-next, expected_of-other}
use Rattle.message.proofs.Moving.{harts_after-ok}
use Rattle.message.specs.Accepted.{AreAccepted, expected_after, newcomers}
use Rattle.message.specs.Accepting.{accepting, harts_after, next_of}
use Rattle.message.specs.Harts.{Harts, Expects, is_over, newcomer}
use Rattle.message.specs.OfHart.{of_hart}
use Rattle.message.specs.declared.fault.DemuxFault.{DemuxFault}
use Rattle.message.specs.declared.hart.Hart.{Hart}
use Rattle.message.specs.declared.message.Message.{Message}

-- What is expected after messages and one more.
pub expected_after-next : (expected : Harts) (messages : List Message) (message : Message)
    → expected_after expected (messages ++ message ∷ []) ≡ harts_after (expected_after expected messages) message
expected_after-next expected [] message = refl
expected_after-next expected (first ∷ messages) message =
    expected_after-next (harts_after expected first) messages message

-- Messages that were accepted, and one more that is.
pub AreAccepted-next : (expected : Harts) (messages : List Message) (message : Message) (packet : Packet)
    → AreAccepted expected messages
    → accepting (expected_after expected messages) message ≡ Ok packet → AreAccepted expected (messages ++ message ∷ [])
AreAccepted-next expected [] message packet all answer = (ap is_ok answer, tt)
AreAccepted-next expected (first ∷ messages) message packet all answer =
    (all.0, AreAccepted-next (harts_after expected first) messages message packet all.1 answer)

-- A packet that is answered.
pub answered : (answer : Result Packet DemuxFault) → IsOk answer → (packet : Packet) × (answer ≡ Ok packet)
answered (Ok packet) is = (packet, refl)
answered (Err why) is = cc

-- An element after one was written is that one, or another that stood there before.
pub slice_get-set : {X : Type 0} (xs : List X) (i : ℕ) (y : X) (j : ℕ) (x : X) → slice_get (set xs i y) j ≡ Some x
    → ((i ≡ j) × (x ≡ y)) ⊎ ((i ≢ j) × (slice_get xs j ≡ Some x))
slice_get-set [] i y j x is = cc
slice_get-set (a ∷ xs) zero y zero x is = inl (refl, sym (same_Some y x is))
slice_get-set (a ∷ xs) zero y (suc j) x is = inr (λ same. omega (arith, same), is)
slice_get-set (a ∷ xs) (suc i) y zero x is = inr (λ same. omega (arith, same), is)
slice_get-set (a ∷ xs) (suc i) y (suc j) x is = behind (slice_get-set xs i y j x is)
  where
    behind : ((i ≡ j) × (x ≡ y)) ⊎ ((i ≢ j) × (slice_get xs j ≡ Some x)) → ((suc i ≡ suc j) × (x ≡ y))
        ⊎ ((suc i ≢ suc j) × (slice_get xs j ≡ Some x))
    behind (inl here) = inl (ap suc here.0, here.1)
    behind (inr there) = inr (λ same. there.0 (omega (arith, same)), there.1)

-- Of each hart that is known its next number is expected, and its closing packet came or not.
pub record AreCounted (harts : ℕ) (messages : List Message) (expected : Harts) : Type 0 where
  pub count : length expected ≡ harts
  pub each : (hart : ℕ) → hart < harts → slice_get expected hart ≡ Some (expected_of hart messages)

-- So it is before the first message.
counted-none : (harts : ℕ) → AreCounted harts [] (newcomers harts)
counted-none harts = record { count = length-replicate harts newcomer; each = each }
  where
    each : (hart : ℕ) → hart < harts → slice_get (replicate harts newcomer) hart ≡ Some newcomer
    each hart within =
        slice_get-get_or (replicate harts newcomer) hart newcomer
        (omega (arith, within, length-replicate harts newcomer))
        ∙ ap Some (get_or-replicate harts hart newcomer newcomer within)

-- And after one that is accepted.
counted-next : (harts : ℕ) (messages : List Message) (message : Message) (packet : Packet) (expected : Harts)
    → AreCounted harts messages expected
    → accepting expected message ≡ Ok packet
    → AreCounted harts (messages ++ message ∷ []) (harts_after expected message)
counted-next harts messages message packet expected counted answer =
    subst (AreCounted harts (messages ++ message ∷ [])) (sym moved) more
  where
    fact : Expects expected message.hart (λ next. next ≡ message.number) × (reading message.payload ≡ Ok packet)
    fact = (answer-unpacked (slice_get expected message.hart) message (Ok packet)).0 answer

    now : Harts
    now = set expected message.hart (next_of message.number packet)

    moved : harts_after expected message ≡ now
    moved =
        subst
        (λ answer. IfOk answer
        (λ packet. harts_after expected message ≡ set expected message.hart (next_of message.number packet)))
        answer
        (harts_after-ok expected message (accepting expected message) refl)

    -- the number of the message is that of the messages before
    number_is : (o : Option Hart) → slice_get expected message.hart ≡ o
        → IsSomeAnd o (λ h. IsFalse (is_over h) × (h.expected ≡ message.number))
        → message.number ≡ length (of_hart message.hart messages)
    number_is None is never = absurd never
    number_is (Some h) is next =
        let within : message.hart < harts = omega (arith, slice_get_within expected message.hart h is, counted.count) in
        let same : h ≡ expected_of message.hart messages =
        same_Some h (expected_of message.hart messages) (sym is ∙ counted.each message.hart within) in
        sym next.1 ∙ ap (λ (h : Hart). h.expected) same

    number : message.number ≡ length (of_hart message.hart messages)
    number = number_is (slice_get expected message.hart) refl fact.0

    is_next : (hart : ℕ) (h : Hart) → ((message.hart ≡ hart) × (h ≡ next_of message.number packet))
        ⊎ ((message.hart ≢ hart) × (slice_get expected hart ≡ Some h))
        → hart < harts → h ≡ expected_of hart (messages ++ message ∷ [])
    is_next hart h (inl here) within =
        let after = here.1 ∙ ap (λ n. next_of n packet) number
        ∙ sym (expected_of-next messages message packet fact.1) in
        subst (λ hart. h ≡ expected_of hart (messages ++ message ∷ [])) here.0 after
    is_next hart h (inr there) within =
        same_Some h (expected_of hart messages) (sym there.1 ∙ counted.each hart within)
        ∙ sym (expected_of-other hart messages message there.0)

    each : (hart : ℕ) → hart < harts → slice_get now hart ≡ Some (expected_of hart (messages ++ message ∷ []))
    each hart within =
        let inside : hart < length now =
        omega (arith, within, length-set expected message.hart (next_of message.number packet), counted.count) in
        let h = get_or now hart newcomer in
        let is : slice_get now hart ≡ Some h = slice_get-get_or now hart newcomer inside in
        is
        ∙ ap Some
        (is_next hart h (slice_get-set expected message.hart (next_of message.number packet) hart h is) within)

    more : AreCounted harts (messages ++ message ∷ []) now
    more =
        record { count = length-set expected message.hart (next_of message.number packet) ∙ counted.count; each = each }

-- And after several.
counted-through : (harts : ℕ) (front messages : List Message) (expected : Harts) → AreCounted harts front expected
    → AreAccepted expected messages
    → AreCounted harts (front ++ messages) (expected_after expected messages)
counted-through harts front [] expected counted all =
    subst (λ ms. AreCounted harts ms expected) (sym (append-nil front)) counted
counted-through harts front (message ∷ messages) expected counted all =
    let packet = answered (accepting expected message) all.0 in
    let next = counted-next harts front message packet.0 expected counted packet.1 in
    subst (λ ms. AreCounted harts ms (expected_after (harts_after expected message) messages))
    (append_assoc front (message ∷ []) messages)
    (counted-through harts (front ++ message ∷ []) messages (harts_after expected message) next all.1)

-- After accepted messages the next number is expected of each hart that is known, and it is closed where its packets
-- have ended.
pub accepted_counted : (harts : ℕ) (messages : List Message) → AreAccepted (newcomers harts) messages
    → AreCounted harts messages (expected_after (newcomers harts) messages)
accepted_counted harts messages all = counted-through harts [] messages (newcomers harts) (counted-none harts) all
