-- RECEIVED is taken span by span: what was found so far, and what is left.
use Rattle.std.proofs.Common.{◌≡◌, ℕ, ◌+◌, ◌-◌, ◌^◌, ◌<◌, ◌≤◌, List, [], ◌∷◌, ◌++◌, length, sym, ap, ◌∙◌, arith}
use Rattle.std.proofs.Common.{min, append_assoc, append-nil, subst}
use Rattle.std.proofs.lemmas.List.{length_push}
use Rattle.payload.specs.declared.by.By.{By}
use Rattle.auditing.specs.Audits.{Audits}
use Rattle.auditing.specs.Findings.{finding_of}
use Rattle.auditing.specs.Known.{known_all, known_one}
use Rattle.auditing.specs.Ledger.{Ledger}
use Rattle.frames.specs.declared.span.Span.{Span}
use Rattle.frames.specs.declared.span.Span.TheVariants.{Frame, Bytes}
use Rattle.message.specs.declared.message.Message.{Message}
use Rattle.frames.specs.Counted.{bytes_in, messages_in, span_size}
use Rattle.ffi.specs.AuditedAll.{arrival_of, arrivals_after, byte_runs}
use Rattle.ffi.specs.declared.path_numbers.Arrival.{Arrival}
use Rattle.ffi.specs.declared.path_numbers.ByteRun.{ByteRun}

-- Some spans were taken, and these are left.
pub record HasWalked (how : By) (sent : List Message) (all rest : List Span) (path : Ledger)
    (first_arrivals arrivals : List Arrival) (first_runs runs : List ByteRun) (bytes left size : ℕ) : Type 0 where
  pub taken : List Message
  pub audits : Audits sent taken path
  pub messages : messages_in all ≡ taken ++ messages_in rest
  pub arrived : first_arrivals ++ arrivals_after how sent [] all ≡ arrivals ++ arrivals_after how sent taken rest
  pub run : first_runs ++ byte_runs all ≡ runs ++ byte_runs rest
  pub counted : bytes + bytes_in rest ≡ bytes_in all
  pub few : length taken + left ≤ size
  pub most : bytes + left ≤ size

module _ (how : By) (sent : List Message) (all rest : List Span) (path after : Ledger)
    (first_arrivals arrivals new_arrivals : List Arrival) (first_runs runs new_runs : List ByteRun)
    (bytes more left next size : ℕ) where
  -- One span more is.
  pub walked_more : (span : Span)
      → HasWalked how sent all (span ∷ rest) path first_arrivals arrivals first_runs runs bytes left size
      → ((received : List Message) → Audits sent received path
      → Audits sent (received ++ messages_in (span ∷ [])) after)
      → ((received : List Message) → Audits sent received path
      → new_arrivals ≡ arrivals ++ arrivals_after how sent received (span ∷ []))
      → new_runs ≡ runs ++ byte_runs (span ∷ []) → more ≡ bytes_in (span ∷ [])
      → size < 2 ^ 64 → 1 ≤ span_size span → span_size span + next ≡ left
      → HasWalked how sent all rest after first_arrivals new_arrivals first_runs new_runs
      (min (bytes + more) (2 ^ 64 - 1)) next size
  walked_more (Frame offset message) has takes adds same none short some sized =
      let taken = has.taken in
      let one =
      arrival_of offset message (finding_of (known_all how sent) (known_all how taken) (known_one how message)) in
      let few = has.few in
      let most = has.most in
      let counted = has.counted in
      let long = length_push taken message in
      record {
        taken = taken ++ message ∷ [];
        audits = takes taken has.audits;
        messages = has.messages ∙ sym (append_assoc taken (message ∷ []) (messages_in rest));
        arrived = has.arrived
            ∙ sym (append_assoc arrivals (one ∷ []) (arrivals_after how sent (taken ++ message ∷ []) rest))
            ∙ ap (λ l. l ++ arrivals_after how sent (taken ++ message ∷ []) rest) (sym (adds taken has.audits));
        run = has.run ∙ ap (λ l. l ++ byte_runs rest) (sym (same ∙ append-nil runs));
        counted = omega (arith, counted, none, most, short);
        few = omega (arith, few, long, some, sized);
        most = omega (arith, most, none, sized);
      }
  walked_more (Bytes offset count) has takes adds same is short some sized =
      let taken = has.taken in
      let one : ByteRun = record { offset = offset; count = count } in
      let few = has.few in
      let most = has.most in
      let counted = has.counted in
      let still = append-nil taken in
      record {
        taken = taken;
        audits = subst (λ l. Audits sent l after) still (takes taken has.audits);
        messages = has.messages;
        arrived = has.arrived
            ∙ ap (λ l. l ++ arrivals_after how sent taken rest)
            (sym (adds taken has.audits ∙ append-nil arrivals));
        run = has.run ∙ sym (append_assoc runs (one ∷ []) (byte_runs rest)) ∙ ap (λ l. l ++ byte_runs rest) (sym same);
        counted = omega (arith, counted, is, most, short, sized);
        few = omega (arith, few, some, sized);
        most = omega (arith, most, is, sized);
      }
