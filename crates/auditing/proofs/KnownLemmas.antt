-- Messages by what their payloads are compared by.
use Rattle.std.proofs.Common.{◌≡◌, ℕ, Bool, true, false, cond, eqb, List, [], ◌∷◌, ◌++◌, Option, Some, None, length}
use Rattle.std.proofs.Common.{map, max, slice_get, slice_set, refl, sym, ap, subst, ◌∙◌, ◌<◌, get_or}
use Rattle.std.specs.Prelude.{◌+◌, if◌then◌else◌, nat_lt, option_map}
use Rattle.std.proofs.lemmas.List.{length-map, map-append, map-set}
use Rattle.std.proofs.lemmas.Option.{slice_get-map, same_Some, slice_get_read}
use Rattle.payload.specs.Same.{known_by}
use Rattle.payload.specs.declared.by.By.{By}
use Rattle.payload.specs.declared.by.By.TheVariants as by
use Rattle.message.specs.OfHart.{of_hart}
use Rattle.message.specs.declared.header.Header.{Header}
use Rattle.message.specs.declared.message.Message.{Message}
use Rattle.auditing.specs.Exchanged.{the_only}
use Rattle.auditing.specs.Known.{known_all, known_one}
use Rattle.auditing.specs.Ledger.{HartLedger, Ledger, known_ledger, known_own}
use Rattle.auditing.specs.Sent.{AreInTurn, harts_in, harts_of, misplaced_at, next_number}
use Rattle.auditing.specs.declared.fate.Fate.{Fate}
use Rattle.auditing.specs.declared.fate.Fate.TheVariants as fate
use Rattle.auditing.specs.steps.Indexing.{AreIndexed, fresh, payloads_of}
use Rattle.auditing.specs.steps.Taking.{fate_by, fate_found, fate_from, fate_in, finding_at, finding_found, finding_from}
use Rattle.auditing.specs.steps.Moving.{has_in, harts_that, is_payload, is_untrue, moves_if, owner_in}
use Rattle.auditing.specs.steps.Taking.{first_after, hart_after, harts_after, harts_found, ledger_after, one_more}
use Rattle.auditing.specs.steps.Taking.{strangers_after}

-- One message more.
pub known-more : (how : By) (messages : List Message) (message : Message)
    → known_all how (messages ++ message ∷ []) ≡ known_all how messages ++ known_one how message ∷ []
known-more how messages message = map-append (known_one how) messages (message ∷ [])

-- As many.
pub known-count : (how : By) (messages : List Message) → length (known_all how messages) ≡ length messages
known-count how messages = length-map messages (known_one how)

-- The messages of a hart.
pub known-of_hart : (how : By) (hart : ℕ) (messages : List Message)
    → of_hart hart (known_all how messages) ≡ known_all how (of_hart hart messages)
known-of_hart how hart [] = refl
known-of_hart how hart (message ∷ messages) = go (eqb message.hart hart) (known-of_hart how hart messages)
  where
    go : (own : Bool) → of_hart hart (known_all how messages) ≡ known_all how (of_hart hart messages)
        → cond own (known_one how message ∷ of_hart hart (known_all how messages)) (of_hart hart (known_all how messages))
        ≡ known_all how (cond own (message ∷ of_hart hart messages) (of_hart hart messages))
    go true rest = ap (λ l. known_one how message ∷ l) rest
    go false rest = rest

-- Their payloads.
known-payloads : (how : By) (messages : List Message)
    → payloads_of (known_all how messages) ≡ map (known_by how) (payloads_of messages)
known-payloads how [] = refl
known-payloads how (message ∷ messages) = ap (λ l. known_by how message.payload ∷ l) (known-payloads how messages)

-- The highest hart.
known-harts_in : (how : By) (messages : List Message) → harts_in (known_all how messages) ≡ harts_in messages
known-harts_in how [] = refl
known-harts_in how (message ∷ messages) = ap (λ n. max (message.hart + 1) n) (known-harts_in how messages)

pub known-harts : (how : By) (header : Option Header) (messages : List Message)
    → harts_of header (known_all how messages) ≡ harts_of header messages
known-harts how None messages = known-harts_in how messages
known-harts how (Some header) messages = refl

-- The number that comes next.
known-next : (how : By) (harts : ℕ) (before : List Message) (hart : ℕ)
    → next_number harts (known_all how before) hart ≡ next_number harts before hart
known-next how harts before hart =
    ap (λ n. if nat_lt hart harts then Some n else None)
    (ap length (known-of_hart how hart before) ∙ known-count how (of_hart hart before))

-- Each is the next of its hart.
pub known-turn : (how : By) (harts : ℕ) (before messages : List Message) → AreInTurn harts before messages
    → AreInTurn harts (known_all how before) (known_all how messages)
known-turn how harts before [] turn = tt
known-turn how harts before (message ∷ messages) turn = (
  ap (λ next. misplaced_at next message.number) (known-next how harts before message.hart) ∙ turn.0,
  subst (λ l. AreInTurn harts l (known_all how messages)) (known-more how before message)
      (known-turn how harts (before ++ message ∷ []) messages turn.1),
)

-- What is kept of a hart at first.
no_flags : (how : By) (payloads : List (List ℕ))
    → map (λ (payload : List ℕ). false) payloads ≡ map (λ (payload : List ℕ). false) (map (known_by how) payloads)
no_flags how [] = refl
no_flags how (payload ∷ payloads) = ap (λ l. false ∷ l) (no_flags how payloads)

known-fresh : (how : By) (payloads : List (List ℕ))
    → known_own how (fresh payloads) ≡ fresh (map (known_by how) payloads)
known-fresh how payloads = ap (λ came. record (fresh (map (known_by how) payloads)) { came = came }) (no_flags how payloads)

-- What is kept of a hart, found at its place.
-- What is read of a hart is at its place in what a clause sees.
pub own-at : (view ledger : Ledger) (hart : ℕ) (own : HartLedger) → view ≡ ledger → hart < length ledger.harts
    → own ≡ get_or view.harts hart own → slice_get ledger.harts hart ≡ Some own
own-at view ledger hart own is known read =
    ap (λ (l : Ledger). slice_get l.harts hart) (sym is)
    ∙ slice_get_read view.harts (length ledger.harts) hart own (ap (λ (l : Ledger). length l.harts) (sym is)) known read

pub known-at : (how : By) (harts : List HartLedger) (hart : ℕ) (own : HartLedger) → slice_get harts hart ≡ Some own
    → slice_get (map (known_own how) harts) hart ≡ Some (known_own how own)
known-at how harts hart own is = slice_get-map (known_own how) harts hart ∙ ap (option_map (known_own how)) is

-- What is found among what is known was kept.
record Kept (how : By) (harts : List HartLedger) (hart : ℕ) (own : HartLedger) : Type 0 where
  its : HartLedger
  at : slice_get harts hart ≡ Some its
  is : own ≡ known_own how its

kept_at : (how : By) (harts : List HartLedger) (hart : ℕ) (own : HartLedger)
    → slice_get (map (known_own how) harts) hart ≡ Some own → Kept how harts hart own
kept_at how harts hart own is =
    go (slice_get harts hart) refl (sym (slice_get-map (known_own how) harts hart) ∙ is)
  where
    go : (o : Option HartLedger) → slice_get harts hart ≡ o → option_map (known_own how) o ≡ Some own
        → Kept how harts hart own
    go None at e = cc
    go (Some its) at e = record { its = its; at = at; is = same_Some own (known_own how its) (sym e) }

-- What was indexed is indexed as it is known.
pub known-indexed : (how : By) (harts : ℕ) (messages : List Message) (index : List HartLedger)
    → AreIndexed harts messages index → AreIndexed harts (known_all how messages) (map (known_own how) index)
known-indexed how harts messages index indexed = record {
  count = length-map index (known_own how) ∙ indexed.count;
  each = λ hart own is.
      let kept = kept_at how index hart own is in
      kept.is ∙ ap (known_own how) (indexed.each hart kept.its kept.at)
      ∙ known-fresh how (payloads_of (of_hart hart messages))
      ∙ ap fresh (sym (known-payloads how (of_hart hart messages)) ∙ ap payloads_of (sym (known-of_hart how hart messages)));
}

-- One message is taken as its known one is by bytes.
fate-known : (how : By) (own : HartLedger) (number : ℕ) (payload : List ℕ)
    → fate_in how own number payload ≡ fate_in by.Bytes (known_own how own) number (known_by how payload)
fate-known how own number payload =
    go (slice_get own.payloads number)
    ∙ ap (fate_by by.Bytes (known_own how own) number (known_by how payload))
    (sym (slice_get-map (known_by how) own.payloads number))
  where
    go : (o : Option (List ℕ)) → fate_by how own number payload o
        ≡ fate_by by.Bytes (known_own how own) number (known_by how payload) (option_map (known_by how) o)
    go None = refl
    go (Some sent) = refl

after-known : (how : By) (own : HartLedger) (number : ℕ) (its : Fate)
    → known_own how (hart_after own number its) ≡ hart_after (known_own how own) number its
after-known how own number fate.Stranger = refl
after-known how own number fate.Changed = refl
after-known how own number fate.Repeat = refl
after-known how own number fate.Late = refl
after-known how own number fate.InOrder = refl

pub after-payloads : (own : HartLedger) (number : ℕ) (its : Fate) → (hart_after own number its).payloads ≡ own.payloads
after-payloads own number fate.Stranger = refl
after-payloads own number fate.Changed = refl
after-payloads own number fate.Repeat = refl
after-payloads own number fate.Late = refl
after-payloads own number fate.InOrder = refl

module _ (ledger : Ledger) (message : Message) where
  abbrev how : By
  how = ledger.by

  abbrev known : Message
  known = known_one how message

  abbrev found : Option HartLedger
  found = slice_get ledger.harts message.hart

  found-known : slice_get (known_ledger ledger).harts message.hart ≡ option_map (known_own how) found
  found-known = slice_get-map (known_own how) ledger.harts message.hart

  pub fate_from-known : fate_from how ledger message ≡ fate_from by.Bytes (known_ledger ledger) known
  fate_from-known = go found ∙ ap (λ o. fate_found by.Bytes o known) (sym found-known)
    where
      go : (o : Option HartLedger)
          → fate_found how o message ≡ fate_found by.Bytes (option_map (known_own how) o) known
      go None = refl
      go (Some own) = fate-known how own message.number message.payload

  pub finding_from-known : finding_from how ledger message ≡ finding_from by.Bytes (known_ledger ledger) known
  finding_from-known = go found ∙ ap (λ o. finding_found by.Bytes o known) (sym found-known)
    where
      go : (o : Option HartLedger)
          → finding_found how o message ≡ finding_found by.Bytes (option_map (known_own how) o) known
      go None = refl
      go (Some own) =
          ap (λ its. finding_at its own.past message.number) (fate-known how own message.number message.payload)

  harts-known : map (known_own how) (harts_found how ledger.harts message found)
      ≡ harts_found by.Bytes (map (known_own how) ledger.harts) known
      (slice_get (map (known_own how) ledger.harts) message.hart)
  harts-known = go found ∙ ap (harts_found by.Bytes (map (known_own how) ledger.harts) known) (sym found-known)
    where
      go : (o : Option HartLedger) → map (known_own how) (harts_found how ledger.harts message o)
          ≡ harts_found by.Bytes (map (known_own how) ledger.harts) known (option_map (known_own how) o)
      go None = refl
      go (Some own) =
          let its = fate_in how own message.number message.payload in
          map-set (known_own how) ledger.harts message.hart (hart_after own message.number its)
          ∙ ap (slice_set (map (known_own how) ledger.harts) message.hart)
          (after-known how own message.number its
          ∙ ap (hart_after (known_own how own) message.number) (fate-known how own message.number message.payload))

  -- The only hart that has the number and the payload.
  has-known : (own : HartLedger)
      → has_in how message.number message.payload own ≡ has_in by.Bytes known.number known.payload (known_own how own)
  has-known own =
      go (slice_get own.payloads message.number)
      ∙ ap (is_payload by.Bytes known.payload) (sym (slice_get-map (known_by how) own.payloads message.number))
    where
      go : (o : Option (List ℕ)) → is_payload how message.payload o
          ≡ is_payload by.Bytes known.payload (option_map (known_by how) o)
      go None = refl
      go (Some sent) = refl

  that-known : (from : ℕ) (harts : List HartLedger)
      → harts_that (has_in how message.number message.payload) from harts
      ≡ harts_that (has_in by.Bytes known.number known.payload) from (map (known_own how) harts)
  that-known from [] = refl
  that-known from (own ∷ harts) = λ i. cond (has-known own i) (from ∷ that-known (from + 1) harts i)
      (that-known (from + 1) harts i)

  owner-known : owner_in how (harts_after how ledger message) message.number message.payload
      ≡ owner_in by.Bytes (harts_after by.Bytes (known_ledger ledger) known) known.number known.payload
  owner-known =
      ap the_only (that-known 0 (harts_after how ledger message))
      ∙ ap (λ harts. owner_in by.Bytes harts known.number known.payload) harts-known

  -- What is kept after the message is known as what is kept after the known one.
  pub ledger-known : known_ledger (ledger_after how ledger message)
      ≡ ledger_after by.Bytes (known_ledger ledger) known
  ledger-known = λ i. record {
    by = how;
    header = ledger.header;
    harts = harts-known i;
    strangers = strangers_after ledger.strangers (fate_from-known i);
    taken = one_more ledger.taken;
    first = first_after ledger.first ledger.taken (finding_from-known i);
    moves = moves_if (is_untrue (fate_from-known i)) ledger.moves message.hart (owner-known i);
  }
