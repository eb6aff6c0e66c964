-- What is kept of the payloads of SENT, and what is known of a message by it.
use Rattle.std.proofs.Common.{◌≡◌, ◌++◌, ◌==◌, ◌&&◌, ◌||◌, ℕ, Bool, true, false, List, [], ◌∷◌, refl, ap, ap₂, sym, ◌∙◌}
use Rattle.std.proofs.Common.{Option, Some, None, Result, Ok, Err, if◌then◌else◌, slice_get}
use Rattle.std.proofs.lemmas.List.Folds.{list_any-append}
use Rattle.std.specs.Cmp.{nat_eq_equiv}
use Rattle.std.specs.Cmp.Lexicographic.{nat_list_eq_equiv}
use Rattle.std.specs.List.{list_any}
use Rattle.std.specs.Prelude.{OnOk, cond}
use Rattle.std.specs.Str.{bytes_eq}
use Rattle.arrayvec.specs.ArrayVec.{ArrayVec}
use Rattle.auditing.specs.steps.Recognising.{parts_of}
use Rattle.message.proofs.Answering.{not_both}
use Rattle.message.specs.Capture.{capture}
use Rattle.message.specs.declared.message.Message.{Message}
use Rattle.payload.specs.Same.{known_by, same}
use Rattle.payload.specs.declared.by.By.{By}
use Rattle.frames.proofs.AmidLemmas.{complete}
use Rattle.frames.proofs.FramedLemmas.{framed-capture}
use Rattle.frames.specs.Framed.{is_framed}
use Rattle.frames.specs.GuidedTaken.{KnowsNone, is_known}
use Rattle.frames.specs.declared.sent.Sight.TheVariants as sight
use Rattle.auditing.specs.Ledger.{HartLedger, Ledger}
use Rattle.auditing.specs.PayloadSights.{FramedAreTaken, KeepsPayloads, KnownSent, has_key, has_payload, payload_sight}
use Rattle.auditing.specs.PayloadSights.{sight_by, sight_kept}
use Rattle.auditing.specs.Seen as seen
use Rattle.auditing.specs.steps.Seeing.{sight_found, sight_in}

pub cond_or : (b x : Bool) → cond b true x ≡ (b || x)
cond_or true x = refl
cond_or false x = refl

-- What leads from one fact to another leads there unless an allocation fails.
pub ok_then : {T E P Q : Type 0} (r : Result T E) → (P → Q) → OnOk r P → OnOk r Q
ok_then (Ok x) leads holds = leads holds
ok_then (Err e) leads holds = tt

-- A set has a key exactly when its parts have it.
pub any_parts : (hart : ℕ) (payload : List ℕ) (keys : List (ℕ × ArrayVec ℕ))
    → list_any (λ (key : ℕ × ArrayVec ℕ). (hart == key.0) && bytes_eq payload key.1.items) keys
    ≡ has_key hart payload (parts_of keys)
any_parts hart payload [] = refl
any_parts hart payload (key ∷ keys) =
    ap (λ (b : Bool). ((hart == key.0) && bytes_eq payload key.1.items) || b) (any_parts hart payload keys)

swapped : (x y : Bool) → (x || y) ≡ (y || (x || false))
swapped true true = refl
swapped true false = refl
swapped false true = refl
swapped false false = refl

-- With one message more, its hart has its payload too.
one_more : (how : By) (sent : List Message) (m : Message) (hart : ℕ) (payload : List ℕ)
    → (((m.hart == hart) && bytes_eq (known_by how m.payload) payload) || has_payload how sent hart payload)
    ≡ has_payload how (sent ++ m ∷ []) hart payload
one_more how sent m hart payload =
    let test = λ (own : Message). (hart == own.hart) && bytes_eq payload (known_by how own.payload) in
    let turned : ((m.hart == hart) && bytes_eq (known_by how m.payload) payload) ≡ test m =
    ap₂ (λ (x y : Bool). x && y) (nat_eq_equiv.symm m.hart hart)
    (nat_list_eq_equiv.symm (known_by how m.payload) payload) in
    ap (λ (x : Bool). x || has_payload how sent hart payload) turned
    ∙ swapped (test m) (has_payload how sent hart payload)
    ∙ sym (list_any-append test sent (m ∷ []))

pub keeps_more : (framed : Bool) (how : By) (sent : List Message) (m : Message) (old new : KnownSent)
    → KeepsPayloads framed how sent old → new.by ≡ old.by → new.framed ≡ old.framed
    → ((other : ℕ) (bytes : List ℕ) → has_key other bytes new.keys
    ≡ (((m.hart == other) && bytes_eq (known_by old.by m.payload) bytes) || has_key other bytes old.keys))
    → KeepsPayloads framed how (sent ++ m ∷ []) new
keeps_more framed how sent m old new keeps by same has = record {
  by = by ∙ keeps.by;
  is_framed = same ∙ keeps.is_framed;
  each =
      λ no hart payload.
      has hart payload
      ∙ ap₂ (λ (b : By) (x : Bool). ((m.hart == hart) && bytes_eq (known_by b m.payload) payload) || x) keeps.by
      (keeps.each no hart payload)
      ∙ one_more how sent m hart payload;
}

-- Where RECEIVED is messages to its end, nothing more is kept.
pub keeps_none : (framed : Bool) (how : By) (sent more : List Message) (own : KnownSent)
    → KeepsPayloads framed how sent own → own.framed ≡ true → KeepsPayloads framed how more own
keeps_none framed how sent more own keeps is = record {
  by = keeps.by;
  is_framed = keeps.is_framed;
  each = λ no. absurd (not_both own.framed is (keeps.is_framed ∙ no));
}

-- What is known of a message by what is kept is what is known of it by SENT.
pub sight_of_kept : (framed : Bool) (how : By) (sent : List Message) (own : KnownSent) (message : Message)
    → KeepsPayloads framed how sent own → sight_kept own message ≡ payload_sight framed how sent message
sight_of_kept framed how sent own message keeps =
    ap (λ (f : Bool). sight_by f (has_key message.hart (known_by own.by message.payload) own.keys)) keeps.is_framed
    ∙ by_framed framed refl
  where
    by_framed : (f : Bool) → framed ≡ f
        → sight_by framed (has_key message.hart (known_by own.by message.payload) own.keys)
        ≡ payload_sight framed how sent message
    by_framed true is = rw is refl
    by_framed false is =
        ap (sight_by framed)
        (ap (λ (b : By). has_key message.hart (known_by b message.payload) own.keys) keeps.by
        ∙ keeps.each is message.hart (known_by how message.payload))

-- Where RECEIVED is messages to its end, no message is known by its payload alone.
pub framed_knows_none : (own : KnownSent) → own.framed ≡ true → KnowsNone (λ message. sight_kept own message)
framed_knows_none own is = λ message.
    ap (λ (f : Bool). is_known (sight_by f (has_key message.hart (known_by own.by message.payload) own.keys))) is

-- Nor is any where numbers are looked at.
none_by : (how : By) (sent : Option (List ℕ)) (payload : List ℕ) → is_known (seen.sight_by how sent payload) ≡ false
none_by how None payload = refl
none_by how (Some sent) payload = by (same how sent payload)
  where
    by : (b : Bool) → is_known (if b then sight.Same else sight.Numbered) ≡ false
    by true = refl
    by false = refl

none_found : (how : By) (own : Option HartLedger) (message : Message) → is_known (sight_found how own message) ≡ false
none_found how None message = refl
none_found how (Some own) message = none_by how (slice_get own.payloads message.number) message.payload

pub numbers_know_none : (ledger : Ledger) → KnowsNone (λ message. sight_in ledger message)
numbers_know_none ledger = λ message. none_found ledger.by (slice_get ledger.harts message.hart) message

-- Where RECEIVED is messages to its end, each is taken at its place.
pub framed-taken : FramedAreTaken
framed-taken how sent offset messages all =
    complete (payload_sight (is_framed (capture messages)) how sent) offset messages
    (λ message.
    ap (λ (f : Bool). is_known (sight_by f (has_payload how sent message.hart (known_by how message.payload))))
    (framed-capture messages all)) all
