-- One more message of RECEIVED, by what is kept of all harts, where payloads are compared by their bytes.
use Rattle.std.proofs.Common.{◌≡◌, ◌≢◌, ◌⊎◌, inl, inr, ℕ, ◌<◌, ◌≤◌, List, [], ◌∷◌, ◌++◌, Option, Some, None}
use Rattle.std.proofs.Common.{length, slice_get, refl, sym, ap, subst, ◌∙◌, arith}
use Rattle.std.specs.List.{list_any}
use Rattle.std.proofs.lemmas.Bool.{cases_lt}
use Rattle.std.proofs.lemmas.List.{length-set, length_push}
use Rattle.std.proofs.lemmas.Option.{slice_get_within}
use Rattle.message.proofs.AcceptedLemmas.{slice_get-set}
use Rattle.message.proofs.Elements.{slice_get-some}
use Rattle.message.specs.declared.message.Message.{Message}
use Rattle.payload.specs.declared.by.By.{By}
use Rattle.payload.specs.declared.by.By.TheVariants as by
use Rattle.auditing.proofs.CountLemmas.{capped_more, strangers-next}
use Rattle.auditing.proofs.FindingLemmas.{first-next, found_by_past}
use Rattle.auditing.proofs.Moves.{moves_next, owner_is, untrue_is}
use Rattle.auditing.proofs.OwnMessages.{any_of_hart}
use Rattle.auditing.proofs.TakingLemmas.{chosen, fate_is, of_its_hart, takes, takes_other}
use Rattle.auditing.specs.Audits.{AuditsBytes, AuditsHart, all_moved, capped}
use Rattle.auditing.specs.Fates.{fate_of, has_greater, has_number, is_numbered, is_true, true_ones}
use Rattle.auditing.specs.Findings.{fate_of_finding, finding_by, finding_of, greatest_number}
use Rattle.auditing.specs.Judged.{strangers_in}
use Rattle.auditing.specs.Ledger.{HartLedger, Ledger}
use Rattle.auditing.specs.declared.fate.Fate.{Fate}
use Rattle.auditing.specs.declared.fate.Fate.TheVariants as fate
use Rattle.auditing.specs.steps.Taking.{fate_found, fate_from, fate_in, finding_at, finding_found, finding_from, first_after}
use Rattle.auditing.specs.steps.Moving.{is_untrue, moves_if}
use Rattle.auditing.specs.steps.Taking.{hart_after, harts_after, harts_found, ledger_after, one_more, strangers_after}

-- Where nothing is found, the hart is none of SENT's.
pub beyond_end : (harts : List HartLedger) (hart : ℕ) → slice_get harts hart ≡ None → length harts ≤ hart
beyond_end harts hart is = go (cases_lt hart (length harts))
  where
    go : (hart < length harts) ⊎ (length harts ≤ hart) → length harts ≤ hart
    go (inr past) = past
    go (inl within) =
        let found = slice_get-some harts hart within in
        cc (sym found.1 ∙ is)

module _ (sent received : List Message) (ledger : Ledger) (audits : AuditsBytes sent received ledger) (message : Message) where
  abbrev more : List Message
  more = received ++ message ∷ []

  -- The fate of a message of another hart.
  stranger : slice_get ledger.harts message.hart ≡ None → fate.Stranger ≡ fate_of sent received message
  stranger is =
      sym (ap (λ known. chosen known (is_true sent message)
      (has_number (true_ones sent received) message.hart message.number)
      (has_greater (true_ones sent received) message.hart message.number))
      (any_of_hart message.hart (is_numbered message.hart message.number) (of_its_hart message.hart message.number) sent
      ∙ ap (list_any (is_numbered message.hart message.number)) (audits.others message.hart (beyond_end ledger.harts message.hart is))))

  -- The fate is the one of the definition.
  pub fate_is_from : fate_from by.Bytes ledger message ≡ fate_of sent received message
  fate_is_from = go (slice_get ledger.harts message.hart) refl
    where
      go : (o : Option HartLedger) → slice_get ledger.harts message.hart ≡ o
          → fate_found by.Bytes o message ≡ fate_of sent received message
      go None is = stranger is
      go (Some own) is = fate_is sent received message own (audits.each message.hart own is)

  -- What is found is what the definition says.
  pub finding_is_from : finding_from by.Bytes ledger message ≡ finding_of sent received message
  finding_is_from = go (slice_get ledger.harts message.hart) refl
    where
      greatest : Option ℕ
      greatest = greatest_number (true_ones sent received) message.hart

      go : (o : Option HartLedger) → slice_get ledger.harts message.hart ≡ o
          → finding_found by.Bytes o message ≡ finding_of sent received message
      go None is = ap (λ f. finding_by f greatest message.number) (stranger is)
      go (Some own) is =
          let each = audits.each message.hart own is in
          ap (λ f. finding_at f own.past message.number) (fate_is sent received message own each)
          ∙ ap (λ p. finding_at (fate_of sent received message) p message.number) each.past_is
          ∙ found_by_past (fate_of sent received message) greatest message.number

  -- What is kept of each hart.
  each_of : (o : Option HartLedger) → slice_get ledger.harts message.hart ≡ o → (hart : ℕ) (own : HartLedger)
      → slice_get (harts_found by.Bytes ledger.harts message o) hart ≡ Some own → AuditsHart sent more hart own
  each_of None found hart own is =
      let within = slice_get_within ledger.harts hart own is in
      let past = beyond_end ledger.harts message.hart found in
      takes_other sent received message hart own (λ same. omega (arith, same, within, past)) (audits.each hart own is)
  each_of (Some its) found hart own is =
      go (slice_get-set ledger.harts message.hart
      (hart_after its message.number (fate_found by.Bytes (Some its) message)) hart own is)
    where
      taken : AuditsHart sent more message.hart (hart_after its message.number (fate_found by.Bytes (Some its) message))
      taken =
          subst (λ f. AuditsHart sent more message.hart (hart_after its message.number f))
          (sym (fate_is sent received message its (audits.each message.hart its found)))
          (takes sent received message its (audits.each message.hart its found))

      go : ((message.hart ≡ hart) × (own ≡ hart_after its message.number (fate_found by.Bytes (Some its) message)))
          ⊎ ((message.hart ≢ hart) × (slice_get ledger.harts hart ≡ Some own)) → AuditsHart sent more hart own
      go (inl here) =
          subst (λ h. AuditsHart sent more h own) here.0
          (subst (AuditsHart sent more message.hart) (sym here.1) taken)
      go (inr there) = takes_other sent received message hart own there.0 (audits.each hart own there.1)

  -- There are as many harts as before.
  pub as_many : (o : Option HartLedger) → length (harts_found by.Bytes ledger.harts message o) ≡ length ledger.harts
  as_many None = refl
  as_many (Some own) = length-set ledger.harts message.hart _

  -- What is kept after the message is what the messages so far make it.
  pub takes_all : AuditsBytes sent more (ledger_after by.Bytes ledger message)
  takes_all =
      let o = slice_get ledger.harts message.hart in
      record {
        count = as_many o ∙ audits.count;
        each = each_of o refl;
        others = λ hart past. let count = as_many o in audits.others hart (omega (arith, past, count));
        strangers = ap (λ n. strangers_after n (fate_from by.Bytes ledger message)) audits.strangers
            ∙ ap (strangers_after (capped (strangers_in sent received))) fate_is_from
            ∙ strangers-next sent received message (fate_of sent received message) refl;
        taken = ap one_more audits.taken
            ∙ capped_more (length received) (length more) (length_push received message);
        first = (λ i. first_after (audits.first i) (audits.taken i) (finding_is_from i))
            ∙ first-next sent received message;
        moves = (λ i. moves_if ((ap is_untrue fate_is_from ∙ untrue_is sent received message) i) (audits.moves i)
            message.hart
            (owner_is sent more (harts_after by.Bytes ledger message) message (each_of o refl)
            (λ hart past. let count = as_many o in audits.others hart (omega (arith, past, count))) i))
            ∙ moves_next sent received message (length ledger.harts)
            ∙ ap (all_moved sent more) (sym (as_many o));
      }

-- The fate in what is found.
pub fate_in_at : (its : Fate) (past number : ℕ) → fate_of_finding (finding_at its past number) ≡ its
fate_in_at fate.Stranger past number = refl
fate_in_at fate.Changed past number = refl
fate_in_at fate.Repeat past number = refl
fate_in_at fate.Late past number = refl
fate_in_at fate.InOrder past number = refl

pub fate_in_found : (how : By) (ledger : Ledger) (message : Message)
    → fate_of_finding (finding_from how ledger message) ≡ fate_from how ledger message
fate_in_found how ledger message = go (slice_get ledger.harts message.hart)
  where
    go : (o : Option HartLedger) → fate_of_finding (finding_found how o message) ≡ fate_found how o message
    go None = refl
    go (Some own) = fate_in_at (fate_in how own message.number message.payload) own.past message.number
