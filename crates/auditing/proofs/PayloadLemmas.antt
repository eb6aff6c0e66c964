-- The payload that SENT has with a hart and a number.
use Rattle.std.proofs.Common.{◌≡◌, ℕ, zero, suc, ◌+◌, Bool, true, false, cond, eqb, List, [], ◌∷◌}
use Rattle.std.proofs.Common.{Some, None, slice_get, refl, sym, ap, ◌∙◌, arith, zero-add}
use Rattle.std.specs.Prelude.{◌&&◌}
use Rattle.std.proofs.lemmas.Bool.{and_from, and_right, eq-eqb, ne_eqb}
use Rattle.message.specs.Numbered.{messages_from}
use Rattle.message.specs.OfHart.{of_hart}
use Rattle.message.specs.declared.message.Message.{Message}
use Rattle.auditing.specs.Fates.{is_numbered}
use Rattle.auditing.specs.SentPayload.{payload_sent}

-- It is one of the hart's own messages.
payload_of_hart : (messages : List Message) (hart number : ℕ)
    → payload_sent messages hart number ≡ payload_sent (of_hart hart messages) hart number
payload_of_hart [] hart number = refl
payload_of_hart (message ∷ messages) hart number = go (eqb message.hart hart) refl (payload_of_hart messages hart number)
  where
    go : (own : Bool) → eqb message.hart hart ≡ own
        → payload_sent messages hart number ≡ payload_sent (of_hart hart messages) hart number
        → payload_sent (message ∷ messages) hart number
        ≡ payload_sent (cond own (message ∷ of_hart hart messages) (of_hart hart messages)) hart number
    go true is rest =
        ap (cond (is_numbered hart number message) (Some message.payload)) rest
    go false is rest =
        ap (λ b. cond (b && eqb message.number number) (Some message.payload) (payload_sent messages hart number)) is
        ∙ rest

-- The payload of numbered messages is the one at its place.
payload_numbered : (hart start : ℕ) (payloads : List (List ℕ)) (place number : ℕ) → start + place ≡ number
    → payload_sent (messages_from hart start payloads) hart number ≡ slice_get payloads place
payload_numbered hart start [] zero number at = refl
payload_numbered hart start [] (suc place) number at = refl
payload_numbered hart start (payload ∷ payloads) zero number at =
    let is : is_numbered hart number (record { hart = hart; number = start; payload = payload }) ≡ true =
    and_from _ _ (eq-eqb hart hart refl) (eq-eqb start number (omega (arith, at))) in
    ap (λ b. cond b (Some payload) (payload_sent (messages_from hart (start + 1) payloads) hart number)) is
payload_numbered hart start (payload ∷ payloads) (suc place) number at =
    let other : start ≡ number → ⊥ = λ same. omega (arith, same, at) in
    let not_first : (eqb hart hart && eqb start number) ≡ false =
    and_right (eqb hart hart) (eqb start number) (ne_eqb start number other) in
    ap (λ b. cond b (Some payload) (payload_sent (messages_from hart (start + 1) payloads) hart number)) not_first
    ∙ payload_numbered hart (start + 1) payloads place number (omega (arith, at))

-- It is the one that is kept.
pub payload_kept : (sent : List Message) (hart number : ℕ) (payloads : List (List ℕ))
    → of_hart hart sent ≡ messages_from hart 0 payloads → slice_get payloads number ≡ payload_sent sent hart number
payload_kept sent hart number payloads stands =
    sym (payload_of_hart sent hart number ∙ ap (λ messages. payload_sent messages hart number) stands
    ∙ payload_numbered hart 0 payloads number number (zero-add number))

-- A hart that SENT does not have has none.
pub payload_none : (sent : List Message) (hart number : ℕ) → of_hart hart sent ≡ []
    → None ≡ payload_sent sent hart number
payload_none sent hart number none =
    sym (payload_of_hart sent hart number ∙ ap (λ messages. payload_sent messages hart number) none)
