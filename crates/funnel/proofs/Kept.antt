-- What every state of the funnel machine keeps.
use Rattle.std.proofs.Common.{◌≡◌, ◌⊎◌, inl, inr, ◌<◌, ◌≤◌, ℕ, suc, All, List, [], ◌∷◌, ◌++◌, Some, length, take}
use Rattle.std.proofs.Common.{slice_get, refl, sym, ap, subst, ◌∙◌, arith}
use Rattle.std.proofs.lemmas.Bool.{cases_lt}
use Rattle.std.proofs.lemmas.List.{get_or_past, length-replicate}
use Rattle.std.proofs.lemmas.List.Elements.{All-get_or}
use Rattle.std.proofs.lemmas.Option.{same_Some, slice_get_within}
use Rattle.message.specs.OfHart.{of_hart}
use Rattle.message.specs.declared.message.Message.{Message}
use Rattle.funnel.specs.Lawful.{Lawful, HasFirstTaken}
use Rattle.funnel.specs.Machine.{Funnel, opening, sent_by}
use Rattle.funnel.specs.Payloads.{ClosesOnlyLast, payloads_in, payloads_of}
use Rattle.funnel.proofs.OrderLemmas.{closes_last-by}
use Rattle.funnel.proofs.Places.{get_or-repeated, slice_get-front}

-- The message is the one of this number that the hart with these payloads sends.
pub record IsNth (payloads : List (List (List ℕ))) (hart n : ℕ) (message : Message) : Type 0 where
  pub own : message.hart ≡ hart
  pub number : message.number ≡ n
  pub payload : slice_get (payloads_of hart payloads) n ≡ Some message.payload

-- Each hart has a place for what it sent; no more messages wait than there is room for; what a hart sent was taken or
-- waits; and it carries that hart's payloads in order.
pub record Keeps (capacity : ℕ) (payloads : List (List (List ℕ))) (state : Funnel) : Type 0 where
  pub places : length state.sent ≡ length payloads
  pub room : length state.queue ≤ capacity
  pub whole : (hart : ℕ) → sent_by hart state ≡ of_hart hart state.taken ++ of_hart hart state.queue
  pub nth : (hart n : ℕ) (message : Message) → slice_get (sent_by hart state) n ≡ Some message
      → IsNth payloads hart n message

-- The opening keeps it.
pub opening-keeps : (capacity : ℕ) (payloads : List (List (List ℕ))) → Keeps capacity payloads (opening payloads)
opening-keeps capacity payloads = record {
  places = length-replicate (length payloads) [];
  room = omega arith;
  whole = λ hart. none hart;
  nth = λ hart n message is. absurd (nothing n message (ap (λ sent. slice_get sent n) (sym (none hart)) ∙ is));
}
  where
    none : (hart : ℕ) → sent_by hart (opening payloads) ≡ []
    none hart = get_or-repeated (length payloads) hart []

    nothing : (n : ℕ) (message : Message) → slice_get [] n ≡ Some message → ⊥
    nothing n message is = cc

-- A list is no longer than another that has something at each of its places.
no_longer : {X Y : Type 0} (xs : List X) (ys : List Y) → ((n : ℕ) (x : X) → slice_get xs n ≡ Some x → n < length ys)
    → length xs ≤ length ys
no_longer [] ys inside = omega arith
no_longer (x ∷ xs) [] inside = let here = inside 0 x refl in omega (arith, here)
no_longer (x ∷ xs) (y ∷ ys) inside =
    let behind = no_longer xs ys (λ n z is. let there = inside (suc n) z is in omega (arith, there)) in
    omega (arith, behind)

-- Messages whose payloads stand at their places carry the first payloads.
first_of_payloads : (messages : List Message) (payloads : List (List ℕ))
    → ((n : ℕ) (message : Message) → slice_get messages n ≡ Some message → slice_get payloads n ≡ Some message.payload)
    → payloads_in messages ≡ take (length messages) payloads
first_of_payloads [] payloads at = refl
first_of_payloads (message ∷ messages) [] at = let here = at 0 message refl in cc
first_of_payloads (message ∷ messages) (payload ∷ payloads) at =
    let here = same_Some payload message.payload (at 0 message refl) in
    let behind = first_of_payloads messages payloads (λ n m is. at (suc n) m is) in
    ap (λ p. p ∷ payloads_in messages) (sym here) ∙ ap (λ rest. payload ∷ rest) behind

module _ (capacity : ℕ) (payloads : List (List (List ℕ))) (state : Funnel) (keeps : Keeps capacity payloads state) where
  -- A hart sent no more messages than it has payloads.
  few_sent : (hart : ℕ) → length (sent_by hart state) ≤ length (payloads_of hart payloads)
  few_sent hart = no_longer (sent_by hart state) (payloads_of hart payloads) (λ n message is.
      slice_get_within (payloads_of hart payloads) n message.payload (keeps.nth hart n message is).payload)

  -- A hart has no payload that closes before its last.
  closes_last_of : All ClosesOnlyLast payloads → (hart : ℕ) → ClosesOnlyLast (payloads_of hart payloads)
  closes_last_of last hart = by_place (cases_lt hart (length payloads))
    where
      none : ClosesOnlyLast []
      none n payload is closing = cc

      by_place : (hart < length payloads) ⊎ (length payloads ≤ hart) → ClosesOnlyLast (payloads_of hart payloads)
      by_place (inl here) = All-get_or ClosesOnlyLast payloads hart [] here last
      by_place (inr behind) = subst ClosesOnlyLast (sym (get_or_past payloads hart [] behind)) none

  -- Such a state is lawful.
  pub keeps-lawful : All ClosesOnlyLast payloads → Lawful state
  keeps-lawful last = record {
    whole = keeps.whole;
    in_order = λ hart. record {
      numbered = λ n message is. let nth = keeps.nth hart n message is in (nth.own, nth.number);
      closes_last = closes_last-by (sent_by hart state) (λ n message is closing.
          let all = closes_last_of last hart n message.payload (keeps.nth hart n message is).payload closing in
          let inside = slice_get_within (sent_by hart state) n message is in
          omega (arith, all, inside, few_sent hart));
    };
  }

  -- What was taken of a hart carries the first of its payloads.
  pub keeps-first : (hart : ℕ) → HasFirstTaken hart payloads state
  keeps-first hart = first_of_payloads (of_hart hart state.taken) (payloads_of hart payloads) (λ n message is.
      let sent : slice_get (sent_by hart state) n ≡ Some message =
      ap (λ sent. slice_get sent n) (keeps.whole hart)
      ∙ slice_get-front (of_hart hart state.taken) (of_hart hart state.queue) n message is in
      (keeps.nth hart n message sent).payload)
