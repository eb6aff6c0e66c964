-- Indexing the payloads of SENT.
use Rattle.std.proofs.Common.{◌≡◌, ◌≢◌, ◌⊎◌, inl, inr, ℕ, All, false, List, []}
use Rattle.std.proofs.Common.{◌∷◌, ◌++◌, Option, Some, None, slice_get, refl, sym, ap}
use Rattle.std.proofs.Common.{subst, ◌∙◌, append-nil}
use Rattle.std.proofs.lemmas.List.{append_assoc, length-set, map-append}
use Rattle.std.proofs.lemmas.List.Elements.{All-head, All-tail}
use Rattle.message.proofs.AcceptedLemmas.{slice_get-set}
use Rattle.message.proofs.OfHartLemmas.{of_hart-next, of_hart-other}
use Rattle.message.specs.Capture.{capture, message_bytes}
use Rattle.message.specs.Cut.{IsMessage}
use Rattle.message.specs.OfHart.{of_hart}
use Rattle.message.specs.declared.message.Message.{Message}
use Rattle.auditing.specs.Ledger.{HartLedger}
use Rattle.auditing.specs.steps.Indexing.{AreIndexed, added, added_found, fresh, longer, payloads_of}

-- What is kept of a hart with one payload more.
longer_fresh : (payloads : List (List ℕ)) (payload : List ℕ)
    → longer (fresh payloads) payload ≡ fresh (payloads ++ payload ∷ [])
longer_fresh payloads payload =
    let came = sym (map-append (λ (p : List ℕ). false) payloads (payload ∷ [])) in
    λ i. record (fresh (payloads ++ payload ∷ [])) { came = came i }

-- One payload more.
pub indexed_more : (harts : ℕ) (front : List Message) (m : Message) (index : List HartLedger)
    → AreIndexed harts front index → AreIndexed harts (front ++ m ∷ []) (added index m.hart m.payload)
indexed_more harts front m index has = go (slice_get index m.hart) refl
  where
    go : (o : Option HartLedger) → slice_get index m.hart ≡ o
        → AreIndexed harts (front ++ m ∷ []) (added_found index m.hart m.payload o)
    go None found = record {
      count = has.count;
      each = λ hart own is.
          has.each hart own is
          ∙ ap (λ l. fresh (payloads_of l)) (sym (of_hart-other hart front m (other hart own is)));
    }
      where
        other : (hart : ℕ) (own : HartLedger) → slice_get index hart ≡ Some own → m.hart ≢ hart
        other hart own is same = cc (sym is ∙ ap (slice_get index) (sym same) ∙ found)
    go (Some its) found = record {
      count = length-set index m.hart (longer its m.payload) ∙ has.count;
      each = λ hart own is. at hart own (slice_get-set index m.hart (longer its m.payload) hart own is);
    }
      where
        grown : longer its m.payload ≡ fresh (payloads_of (of_hart m.hart (front ++ m ∷ [])))
        grown =
            ap (λ h. longer h m.payload) (has.each m.hart its found)
            ∙ longer_fresh (payloads_of (of_hart m.hart front)) m.payload
            ∙ ap fresh (sym (ap payloads_of (of_hart-next front m)
            ∙ map-append (λ (x : Message). x.payload) (of_hart m.hart front) (m ∷ [])))

        at : (hart : ℕ) (own : HartLedger) → ((m.hart ≡ hart) × (own ≡ longer its m.payload))
            ⊎ ((m.hart ≢ hart) × (slice_get index hart ≡ Some own))
            → own ≡ fresh (payloads_of (of_hart hart (front ++ m ∷ [])))
        at hart own (inl here) =
            here.1 ∙ grown ∙ ap (λ h. fresh (payloads_of (of_hart h (front ++ m ∷ [])))) here.0
        at hart own (inr there) =
            has.each hart own there.1
            ∙ ap (λ l. fresh (payloads_of l)) (sym (of_hart-other hart front m there.0))

-- The first of these messages are indexed, and the bytes of the others are left.
pub record HasIndexed (harts : ℕ) (messages : List Message) (left : List ℕ) (index : List HartLedger) : Type 0 where
  pub front : List Message
  pub back : List Message
  pub whole : messages ≡ front ++ back
  pub ranges : All IsMessage back
  pub rest : left ≡ capture back
  pub indexed : AreIndexed harts front index

-- One message more.
pub index_next : (harts : ℕ) (messages : List Message) (left : List ℕ) (index more : List HartLedger) (hart : ℕ)
    (payload rest : List ℕ) → HasIndexed harts messages left index → (left ≡ [] → ⊥)
    → ((m : Message) (behind : List ℕ) → IsMessage m → left ≡ message_bytes m ++ behind
    → (hart ≡ m.hart) × (payload ≡ m.payload) × (rest ≡ behind))
    → more ≡ added index hart payload → HasIndexed harts messages rest more
index_next harts messages left index more hart payload rest has some first more_is =
    go has.back has.whole has.ranges has.rest
  where
    go : (back : List Message) → messages ≡ has.front ++ back → All IsMessage back → left ≡ capture back
        → HasIndexed harts messages rest more
    go [] whole ranges rest_is = absurd (some rest_is)
    go (m ∷ back) whole ranges rest_is =
        let split = first m (capture back) (All-head IsMessage m back ranges) rest_is in
        record {
          front = has.front ++ m ∷ [];
          back = back;
          whole = whole ∙ sym (append_assoc has.front (m ∷ []) back);
          ranges = All-tail IsMessage m back ranges;
          rest = split.2;
          indexed =
              subst (AreIndexed harts (has.front ++ m ∷ []))
              (sym (more_is ∙ (λ i. added index (split.0 i) (split.1 i))))
              (indexed_more harts has.front m index has.indexed);
        }

-- Behind the last all are indexed.
pub index_end : (harts : ℕ) (messages : List Message) (left : List ℕ) (index : List HartLedger)
    → HasIndexed harts messages left index
    → ((m : Message) (behind : List ℕ) → IsMessage m → left ≡ message_bytes m ++ behind → ⊥)
    → AreIndexed harts messages index
index_end harts messages left index has none = go has.back has.whole has.ranges has.rest
  where
    go : (back : List Message) → messages ≡ has.front ++ back → All IsMessage back → left ≡ capture back
        → AreIndexed harts messages index
    go [] whole ranges rest_is =
        subst (λ ms. AreIndexed harts ms index) (sym (whole ∙ append-nil has.front)) has.indexed
    go (m ∷ back) whole ranges rest_is =
        absurd (none m (capture back) (All-head IsMessage m back ranges) rest_is)
