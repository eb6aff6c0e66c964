-- A hart that sends keeps what every state of the funnel machine keeps.
use Rattle.std.proofs.Common.{◌≡◌, ◌≢◌, ◌⊎◌, inl, inr, ◌<◌, ◌≤◌, ℕ, Bool, true, false, cond, List, [], ◌∷◌, ◌++◌}
use Rattle.std.proofs.Common.{Option, Some, None, length, slice_get, nat_lt, refl, sym, ap, subst, ◌∙◌, arith}
use Rattle.std.proofs.lemmas.Bool.{cases_eq, cases_lt, ltb-true}
use Rattle.std.proofs.lemmas.List.{append_assoc, get_or_past, get_or-set_other, get_or-set_same, length-set}
use Rattle.std.proofs.lemmas.List.{length_push}
use Rattle.message.proofs.OfHartLemmas.{of_hart-next, of_hart-other}
use Rattle.message.specs.OfHart.{of_hart}
use Rattle.message.specs.declared.message.Message.{Message}
use Rattle.funnel.specs.Machine.{Funnel, add, send_next, sent_by}
use Rattle.funnel.specs.Order.{next_message}
use Rattle.funnel.specs.Payloads.{payloads_of}
use Rattle.funnel.proofs.Kept.{IsNth, Keeps}
use Rattle.funnel.proofs.Places.{slice_get-next}

-- A hart that has a payload has a place.
has_place : (payloads : List (List (List ℕ))) (hart n : ℕ) (payload : List ℕ)
    → slice_get (payloads_of hart payloads) n ≡ Some payload → hart < length payloads
has_place payloads hart n payload is = by_place (cases_lt hart (length payloads))
  where
    by_place : (hart < length payloads) ⊎ (length payloads ≤ hart) → hart < length payloads
    by_place (inl here) = here
    by_place (inr behind) =
        let none = ap (λ own. slice_get own n) (get_or_past payloads hart [] behind) in
        cc

module _ (capacity : ℕ) (payloads : List (List (List ℕ))) (state : Funnel) (keeps : Keeps capacity payloads state) where
  -- What the message's hart sent has it last.
  sent_by-own : (message : Message) → message.hart < length payloads
      → sent_by message.hart (add message state) ≡ sent_by message.hart state ++ message ∷ []
  sent_by-own message known =
      get_or-set_same state.sent message.hart (sent_by message.hart state ++ message ∷ []) []
      (omega (arith, known, keeps.places))

  -- What another hart sent stays.
  sent_by-other : (hart : ℕ) (message : Message) → message.hart ≢ hart
      → sent_by hart (add message state) ≡ sent_by hart state
  sent_by-other hart message other =
      get_or-set_other state.sent message.hart hart (sent_by message.hart state ++ message ∷ []) []
      (λ same. other (sym same))

  whole_own : (message : Message) → message.hart < length payloads
      → sent_by message.hart (add message state)
      ≡ of_hart message.hart state.taken ++ of_hart message.hart (state.queue ++ message ∷ [])
  whole_own message known =
      let taken = of_hart message.hart state.taken in
      sent_by-own message known
      ∙ ap (λ sent. sent ++ message ∷ []) (keeps.whole message.hart)
      ∙ append_assoc taken (of_hart message.hart state.queue) (message ∷ [])
      ∙ ap (λ waits. taken ++ waits) (sym (of_hart-next state.queue message))

  whole_other : (hart : ℕ) (message : Message) → message.hart ≢ hart
      → sent_by hart (add message state) ≡ of_hart hart state.taken ++ of_hart hart (state.queue ++ message ∷ [])
  whole_other hart message other =
      sent_by-other hart message other
      ∙ keeps.whole hart
      ∙ ap (λ waits. of_hart hart state.taken ++ waits) (sym (of_hart-other hart state.queue message other))

  -- The next message of a hart goes where there is room.
  add-keeps : (message : Message) → length state.queue < capacity
      → IsNth payloads message.hart (length (sent_by message.hart state)) message
      → Keeps capacity payloads (add message state)
  add-keeps message room next = record {
    places = length-set state.sent message.hart (sent_by message.hart state ++ message ∷ []) ∙ keeps.places;
    room = omega (arith, room, length_push state.queue message);
    whole = λ hart. whole_by hart (cases_eq message.hart hart);
    nth = λ hart n sent is. nth_by hart n sent is (cases_eq message.hart hart);
  }
    where
      known : message.hart < length payloads
      known = has_place payloads message.hart (length (sent_by message.hart state)) message.payload next.payload

      whole_by : (hart : ℕ) → (message.hart ≡ hart) ⊎ (message.hart ≡ hart → ⊥)
          → sent_by hart (add message state) ≡ of_hart hart state.taken ++ of_hart hart (state.queue ++ message ∷ [])
      whole_by hart (inl same) =
          subst (λ h. sent_by h (add message state) ≡ of_hart h state.taken ++ of_hart h (state.queue ++ message ∷ []))
          same
          (whole_own message known)
      whole_by hart (inr other) = whole_other hart message other

      -- A message that the hart sent before, or this one.
      own : (n : ℕ) (sent : Message)
          → (slice_get (sent_by message.hart state) n ≡ Some sent)
          ⊎ ((n ≡ length (sent_by message.hart state)) × (message ≡ sent))
          → IsNth payloads message.hart n sent
      own n sent (inl before) = keeps.nth message.hart n sent before
      own n sent (inr here) =
          subst (λ (m : Message). IsNth payloads message.hart n m) here.1
          (subst (λ k. IsNth payloads message.hart k message) (sym here.0) next)

      nth_own : (n : ℕ) (sent : Message) → slice_get (sent_by message.hart (add message state)) n ≡ Some sent
          → IsNth payloads message.hart n sent
      nth_own n sent is =
          own n sent (slice_get-next (sent_by message.hart state) message n sent
          (ap (λ s. slice_get s n) (sym (sent_by-own message known)) ∙ is))

      nth_by : (hart n : ℕ) (sent : Message) → slice_get (sent_by hart (add message state)) n ≡ Some sent
          → (message.hart ≡ hart) ⊎ (message.hart ≡ hart → ⊥)
          → IsNth payloads hart n sent
      nth_by hart n sent is (inl same) =
          subst (λ h. slice_get (sent_by h (add message state)) n ≡ Some sent → IsNth payloads h n sent) same
          (nth_own n sent) is
      nth_by hart n sent is (inr other) =
          keeps.nth hart n sent (ap (λ s. slice_get s n) (sym (sent_by-other hart message other)) ∙ is)

  -- A hart's turn: it sends its next payload where it has one and where there is room, and changes nothing elsewhere.
  pub send_next-keeps : (hart : ℕ)
      → Keeps capacity payloads
      (send_next capacity hart (slice_get (payloads_of hart payloads) (length (sent_by hart state))) state)
  send_next-keeps hart = by_payload (slice_get (payloads_of hart payloads) (length (sent_by hart state))) refl
    where
      by_room : (payload : List ℕ) → slice_get (payloads_of hart payloads) (length (sent_by hart state)) ≡ Some payload
          → (has_room : Bool) → nat_lt (length state.queue) capacity ≡ has_room
          → Keeps capacity payloads (cond has_room (add (next_message hart (sent_by hart state) payload) state) state)
      by_room payload next true room =
          add-keeps (next_message hart (sent_by hart state) payload) (ltb-true (length state.queue) capacity room)
          (record { own = refl; number = refl; payload = next })
      by_room payload next false full = keeps

      by_payload : (payload : Option (List ℕ))
          → slice_get (payloads_of hart payloads) (length (sent_by hart state)) ≡ payload
          → Keeps capacity payloads (send_next capacity hart payload state)
      by_payload None none = keeps
      by_payload (Some payload) next = by_room payload next (nat_lt (length state.queue) capacity) refl
