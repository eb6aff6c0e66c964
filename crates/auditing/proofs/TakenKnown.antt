-- One more message of RECEIVED, by what payloads are compared by.
use Rattle.std.proofs.Common.{◌≡◌, ◌≢◌, ◌⊎◌, inl, inr, ℕ, List, [], ◌∷◌, ◌++◌, Option, Some, None, length, map}
use Rattle.std.proofs.Common.{slice_get, refl, sym, ap, subst, ◌∙◌, arith}
use Rattle.std.proofs.lemmas.List.{length-map, length-set}
use Rattle.payload.specs.declared.by.By.{By}
use Rattle.message.proofs.AcceptedLemmas.{slice_get-set}
use Rattle.message.specs.Numbered.{messages_from}
use Rattle.message.specs.OfHart.{of_hart}
use Rattle.message.specs.declared.header.Header.{Header}
use Rattle.message.specs.declared.message.Message.{Message}
use Rattle.auditing.proofs.KnownLemmas.{after-payloads, fate_from-known, finding_from-known, known-harts, known-indexed}
use Rattle.auditing.proofs.KnownLemmas.{known-more, known-turn, ledger-known}
use Rattle.auditing.proofs.SentLemmas.{numbered}
use Rattle.auditing.proofs.Taken.{fate_is_from, finding_is_from, takes_all}
use Rattle.auditing.proofs.TallyLemmas.{others_none, starts, unheard}
use Rattle.auditing.specs.Audits.{Audits, AuditsBytes}
use Rattle.auditing.specs.Fates.{fate_of}
use Rattle.auditing.specs.Findings.{finding_of}
use Rattle.auditing.specs.Known.{known_all, known_one}
use Rattle.auditing.specs.Ledger.{HartLedger, Ledger, known_ledger, known_own}
use Rattle.auditing.specs.Sent.{AreInTurn, harts_of, known_harts}
use Rattle.auditing.specs.steps.Indexing.{AreIndexed}
use Rattle.auditing.specs.steps.Moving.{none_moved}
use Rattle.auditing.specs.steps.Taking.{fate_from, fate_in, finding_from, hart_after, harts_found, ledger_after}

module _ (sent received : List Message) (ledger : Ledger) (audits : Audits sent received ledger) (message : Message) where
  abbrev how : By
  how = ledger.by

  abbrev known : Message
  known = known_one how message

  pub fate_known : fate_from how ledger message ≡ fate_of (known_all how sent) (known_all how received) known
  fate_known =
      fate_from-known ledger message
      ∙ fate_is_from (known_all how sent) (known_all how received) (known_ledger ledger) audits.known known

  pub finding_known : finding_from how ledger message ≡ finding_of (known_all how sent) (known_all how received) known
  finding_known =
      finding_from-known ledger message
      ∙ finding_is_from (known_all how sent) (known_all how received) (known_ledger ledger) audits.known known

  -- The payloads stay.
  payloads_of_more : (o : Option HartLedger) → slice_get ledger.harts message.hart ≡ o → (hart : ℕ) (own : HartLedger)
      → slice_get (harts_found how ledger.harts message o) hart ≡ Some own
      → of_hart hart sent ≡ messages_from hart 0 own.payloads
  payloads_of_more None found hart own is = audits.payloads hart own is
  payloads_of_more (Some its) found hart own is = go (slice_get-set ledger.harts message.hart new hart own is)
    where
      new : HartLedger
      new = hart_after its message.number (fate_in how its message.number message.payload)

      kept : new.payloads ≡ its.payloads
      kept = after-payloads its message.number (fate_in how its message.number message.payload)

      go : ((message.hart ≡ hart) × (own ≡ new)) ⊎ ((message.hart ≢ hart) × (slice_get ledger.harts hart ≡ Some own))
          → of_hart hart sent ≡ messages_from hart 0 own.payloads
      go (inl here) =
          subst (λ h. of_hart h sent ≡ messages_from h 0 own.payloads) here.0
          (audits.payloads message.hart its found
          ∙ ap (messages_from message.hart 0) (sym (ap (λ (o : HartLedger). o.payloads) here.1 ∙ kept)))
      go (inr there) = audits.payloads hart own there.1

  as_many : (o : Option HartLedger) → length (harts_found how ledger.harts message o) ≡ length ledger.harts
  as_many None = refl
  as_many (Some own) = length-set ledger.harts message.hart _

  -- What is kept after the message is what the messages so far make it.
  pub takes_known : Audits sent (received ++ message ∷ []) (ledger_after how ledger message)
  takes_known =
      let o = slice_get ledger.harts message.hart in
      let count = as_many o in
      record {
        payloads = payloads_of_more o refl;
        others = λ hart past. audits.others hart (omega (arith, past, count));
        count = count ∙ audits.count;
        known =
            subst (λ l. AuditsBytes (known_all how sent) l (known_ledger (ledger_after how ledger message)))
            (sym (known-more how received message))
            (subst (AuditsBytes (known_all how sent) (known_all how received ++ known ∷ []))
            (sym (ledger-known ledger message))
            (takes_all (known_all how sent) (known_all how received) (known_ledger ledger) audits.known known));
      }

-- What is kept before the first message.
pub starts_known : (how : By) (header : Option Header) (sent : List Message) (index : List HartLedger)
    → AreInTurn (known_harts header) [] sent → AreIndexed (harts_of header sent) sent index
    → Audits sent [] (unheard how header index (none_moved (length index)))
starts_known how header sent index turn indexed = record {
  payloads = λ hart own is.
      numbered (known_harts header) hart [] sent turn
      ∙ ap (λ (o : HartLedger). messages_from hart 0 o.payloads) (sym (indexed.each hart own is));
  others = λ hart beyond. others_none header sent turn hart (let count = indexed.count in omega (arith, count, beyond));
  count = indexed.count;
  known =
      subst
      (λ count. AuditsBytes (known_all how sent) []
      (unheard how header (map (known_own how) index) (none_moved count))) (length-map index (known_own how))
      (starts how header (known_all how sent) (map (known_own how) index)
      (known-turn how (known_harts header) [] sent turn)
      (subst (λ n. AreIndexed n (known_all how sent) (map (known_own how) index)) (sym (known-harts how header sent))
      (known-indexed how (harts_of header sent) sent index indexed)));
}
