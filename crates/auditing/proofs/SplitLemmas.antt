-- The payloads of messages by hart, with one message more.
use Rattle.std.proofs.Common.{◌≡◌, ◌≢◌, ◌⊎◌, inl, inr, ℕ, ◌+◌, ◌<◌, List, [], ◌∷◌, ◌++◌, Option, Some, None, length}
use Rattle.std.proofs.Common.{get_or, map, slice_get, take, refl, sym, ap, subst, ◌∙◌}
use Rattle.std.proofs.lemmas.List.{length-set, map-append, take_more}
use Rattle.std.specs.Prelude.{OnOk, Result, Ok, Err}
use Rattle.message.proofs.AcceptedLemmas.{slice_get-set}
use Rattle.message.proofs.OfHartLemmas.{of_hart-next, of_hart-other}
use Rattle.message.specs.OfHart.{of_hart}
use Rattle.message.specs.declared.message.Message.{Message}
use Rattle.payload.specs.Same.{known_by}
use Rattle.payload.specs.declared.by.By.{By}
use Rattle.auditing.specs.Aligned.{known_payloads}
use Rattle.auditing.specs.Split.{AreSplit}
use Rattle.auditing.specs.steps.Splitting.{added, added_found}

abbrev Lists : Type 0
Lists = List (List (List ℕ))

module _ (by : By) (harts : ℕ) where
  -- One message more.
  pub split_more : (front : List Message) (m : Message) (lists : Lists) → AreSplit by harts front lists
      → AreSplit by harts (front ++ m ∷ []) (added lists m.hart (known_by by m.payload))
  split_more front m lists has = go (slice_get lists m.hart) refl
    where
      go : (o : Option (List (List ℕ))) → slice_get lists m.hart ≡ o
          → AreSplit by harts (front ++ m ∷ []) (added_found lists m.hart (known_by by m.payload) o)
      go None found = record {
        count = has.count;
        each = λ hart own is.
            has.each hart own is
            ∙ ap (map (λ (x : Message). known_by by x.payload)) (sym (of_hart-other hart front m (other hart own is)));
      }
        where
          other : (hart : ℕ) (own : List (List ℕ)) → slice_get lists hart ≡ Some own → m.hart ≢ hart
          other hart own is same = cc (sym is ∙ ap (slice_get lists) (sym same) ∙ found)
      go (Some its) found = record {
        count = length-set lists m.hart (its ++ known_by by m.payload ∷ []) ∙ has.count;
        each = λ hart own is.
            at hart own (slice_get-set lists m.hart (its ++ known_by by m.payload ∷ []) hart own is);
      }
        where
          grown : its ++ known_by by m.payload ∷ [] ≡ known_payloads by m.hart (front ++ m ∷ [])
          grown =
              ap (λ l. l ++ known_by by m.payload ∷ []) (has.each m.hart its found)
              ∙ sym (ap (map (λ (x : Message). known_by by x.payload)) (of_hart-next front m)
              ∙ map-append (λ (x : Message). known_by by x.payload) (of_hart m.hart front) (m ∷ []))

          at : (hart : ℕ) (own : List (List ℕ)) → ((m.hart ≡ hart) × (own ≡ its ++ known_by by m.payload ∷ []))
              ⊎ ((m.hart ≢ hart) × (slice_get lists hart ≡ Some own))
              → own ≡ known_payloads by hart (front ++ m ∷ [])
          at hart own (inl here) = here.1 ∙ grown ∙ ap (λ h. known_payloads by h (front ++ m ∷ [])) here.0
          at hart own (inr there) =
              has.each hart own there.1
              ∙ ap (map (λ (x : Message). known_by by x.payload)) (sym (of_hart-other hart front m there.0))

  -- The next of these messages.
  pub split_next : (messages : List Message) (place : ℕ) (m : Message) (lists new : Lists) → place < length messages
      → m ≡ get_or messages place m → AreSplit by harts (take place messages) lists
      → new ≡ added lists m.hart (known_by by m.payload) → AreSplit by harts (take (place + 1) messages) new
  split_next messages place m lists new within m_is has is =
      subst (λ l. AreSplit by harts (take (place + 1) messages) l) (sym is)
      (subst (λ ms. AreSplit by harts ms (added lists m.hart (known_by by m.payload)))
      (sym (take_more messages place m within ∙ ap (λ x. take place messages ++ x ∷ []) (sym m_is)))
      (split_more (take place messages) m lists has))

  -- One more, where it was added.
  pub split_if : {T E : Type 0} (messages : List Message) (m : Message) (lists new : Lists) (payload : List ℕ)
      (r : Result T E) → payload ≡ known_by by m.payload → AreSplit by harts messages lists
      → OnOk r (new ≡ added lists m.hart payload) → OnOk r (AreSplit by harts (messages ++ m ∷ []) new)
  split_if messages m lists new payload (Ok x) same has is =
      subst (AreSplit by harts (messages ++ m ∷ [])) (sym (is ∙ ap (added lists m.hart) same))
      (split_more messages m lists has)
  split_if messages m lists new payload (Err e) same has is = tt
