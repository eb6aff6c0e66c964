-- Whose the messages of SENT are, by a table.
use Rattle.std.proofs.Common.{◌≡◌, ◌≢◌, ◌<◌, ◌≤◌, ◌⊎◌, inl, inr, ◌+◌, ℕ, zero, suc, Bool, true, false, cond, List, [], ◌∷◌}
use Rattle.std.proofs.Common.{Option, Some, None, Result, Ok, Err, length, slice_get, slice_set, refl, ap, sym, ◌∙◌, arith}
use Rattle.std.specs.Prelude.{◌==◌, ◌&&◌, OnOk, is_ok, nat_lt}
use Rattle.std.specs.Cmp.Lexicographic.{nat_list_eq_equiv}
use Rattle.std.proofs.lemmas.Bool.{cases_eq, cases_lt, eq-eqb, eqb-true, le-ltb, lt-ltb, ne_eqb, and_right}
use Rattle.std.proofs.lemmas.Option.{slice_get_within, same_Some}
use Rattle.std.proofs.lemmas.Slice.Eq.{bytes_eq-Decides}
use Rattle.std.specs.HashMap.{HashMap}
use Rattle.std.specs.Str.{bytes_eq}
use Rattle.arrayvec.specs.ArrayVec.{ArrayVec}
use Rattle.payload.specs.Same.{known_by}
use Rattle.payload.specs.declared.by.By.{By}
use Rattle.message.specs.declared.message.Message.{Message}
use Rattle.auditing.proofs.KnownLemmas.{after-payloads}
use Rattle.auditing.specs.Exchanged.{the_only}
use Rattle.auditing.specs.Ledger.{HartLedger}
use Rattle.auditing.specs.steps.Moving.{has_in, harts_that, is_payload, owner_in}
use Rattle.auditing.specs.steps.Owning.{KeepsOwners, is_known_by, owner_after, owners_after, the_owner}
use Rattle.auditing.specs.steps.Taking.{fate_in, hart_after, harts_found}

-- The only hart of those so far, by what a table has, and of these.
abbrev with_owner : Option (Option ℕ) → List ℕ → Option ℕ
with_owner None harts = the_only harts
with_owner (Some None) harts = None
with_owner (Some (Some hart)) harts = the_only (hart ∷ harts)

-- What a table has after harts is the only one of them.
owners_with : (how : By) (number : ℕ) (bytes : List ℕ) (test : HartLedger → Bool)
    → ((own : HartLedger) → is_known_by how bytes (slice_get own.payloads number) ≡ test own)
    → (hart : ℕ) (harts : List HartLedger) (owner : Option (Option ℕ))
    → the_owner (owners_after how number bytes hart harts owner) ≡ with_owner owner (harts_that test hart harts)
owners_with how number bytes test same hart [] None = refl
owners_with how number bytes test same hart [] (Some None) = refl
owners_with how number bytes test same hart [] (Some (Some one)) = refl
owners_with how number bytes test same hart (own ∷ harts) owner =
    owners_with how number bytes test same (hart + 1) harts
    (owner_after (is_known_by how bytes (slice_get own.payloads number)) hart owner)
    ∙ ap (λ b. with_owner (owner_after b hart owner) (harts_that test (hart + 1) harts)) (same own)
    ∙ go (harts_that test (hart + 1) harts) (test own) owner
  where
    go : (rest : List ℕ) (b : Bool) (owner : Option (Option ℕ))
        → with_owner (owner_after b hart owner) rest ≡ with_owner owner (cond b (hart ∷ rest) rest)
    go rest false owner = refl
    go rest true None = refl
    go rest true (Some None) = refl
    go rest true (Some (Some one)) = refl

-- So a table with all harts has the only one that has a message with this number and this payload.
pub table_owner : (how : By) (harts : List HartLedger) (number : ℕ) (payload : List ℕ)
    → the_owner (owners_after how number (known_by how payload) 0 harts None) ≡ owner_in how harts number payload
table_owner how harts number payload =
    owners_with how number (known_by how payload) (has_in how number payload) (λ own. same (slice_get own.payloads number)) 0
    harts None
  where
    same : (sent : Option (List ℕ)) → is_known_by how (known_by how payload) sent ≡ is_payload how payload sent
    same None = refl
    same (Some sent) = refl

-- The harts that pass a test stay, where the hart that is put at a place passes it as the one that is there.
same_harts : (test : HartLedger → Bool) (from : ℕ) (harts : List HartLedger) (hart : ℕ) (own new : HartLedger)
    → slice_get harts hart ≡ Some own → test new ≡ test own
    → harts_that test from (slice_set harts hart new) ≡ harts_that test from harts
same_harts test from [] hart own new at same = refl
same_harts test from (one ∷ harts) zero own new at same =
    let its : own ≡ one = sym (same_Some one own at) in
    ap (λ b. cond b (from ∷ harts_that test (from + 1) harts) (harts_that test (from + 1) harts)) (same ∙ ap test its)
same_harts test from (one ∷ harts) (suc hart) own new at same =
    let rest = same_harts test (from + 1) harts hart own new at same in
    λ i. cond (test one) (from ∷ rest i) (rest i)

-- A message that is taken changes no payload, and so not whose a message is.
pub owner_kept : (how : By) (harts : List HartLedger) (message : Message) (number : ℕ) (payload : List ℕ)
    → owner_in how (harts_found how harts message (slice_get harts message.hart)) number payload
    ≡ owner_in how harts number payload
owner_kept how harts message number payload = go (slice_get harts message.hart) refl
  where
    go : (o : Option HartLedger) → slice_get harts message.hart ≡ o
        → owner_in how (harts_found how harts message o) number payload ≡ owner_in how harts number payload
    go None at = refl
    go (Some own) at =
        let its = fate_in how own message.number message.payload in
        ap the_only
        (same_harts (has_in how number payload) 0 harts message.hart own (hart_after own message.number its) at
        (ap (λ payloads. is_payload how payload (slice_get payloads number)) (after-payloads own message.number its)))

-- With the message of one number more, a table has what the hart's messages up to it make it.
pub numbers_more : (how : By) (hart : ℕ) (payloads : List (List ℕ)) (place number : ℕ) (known bytes sent : List ℕ)
    (owner : Option (Option ℕ)) → slice_get payloads place ≡ Some sent → known ≡ known_by how sent
    → owner_after ((place == number) && bytes_eq known bytes) hart
    (owner_after (nat_lt number place && is_known_by how bytes (slice_get payloads number)) hart owner)
    ≡ owner_after (nat_lt number (place + 1) && is_known_by how bytes (slice_get payloads number)) hart owner
numbers_more how hart payloads place number known bytes sent owner at is =
    go (is_known_by how bytes (slice_get payloads number)) refl (cases_eq place number)
  where
    go : (has : Bool) → is_known_by how bytes (slice_get payloads number) ≡ has → (place ≡ number) ⊎ (place ≢ number)
        → owner_after ((place == number) && bytes_eq known bytes) hart (owner_after (nat_lt number place && has) hart owner)
        ≡ owner_after (nat_lt number (place + 1) && has) hart owner
    go has has_is (inl same) =
        let here : has ≡ bytes_eq known bytes =
        sym has_is
        ∙ ap (λ n. is_known_by how bytes (slice_get payloads n)) (sym same)
        ∙ ap (is_known_by how bytes) at
        ∙ nat_list_eq_equiv.symm bytes (known_by how sent)
        ∙ ap (λ its. bytes_eq its bytes) (sym is) in
        let not_yet : nat_lt number place ≡ false = le-ltb number place (omega (arith, same)) in
        let now : nat_lt number (place + 1) ≡ true = lt-ltb number (place + 1) (omega (arith, same)) in
        (λ i. owner_after (eq-eqb place number same i && bytes_eq known bytes) hart
        (owner_after (not_yet i && has) hart owner))
        ∙ ap (λ b. owner_after b hart owner) (sym here)
        ∙ (λ i. owner_after (sym now i && has) hart owner)
    go has has_is (inr other) =
        (λ i. owner_after (ne_eqb place number other i && bytes_eq known bytes) hart
        (owner_after (nat_lt number place && has) hart owner))
        ∙ ap (λ b. owner_after (b && has) hart owner) (alike (cases_lt number place))
      where
        alike : (number < place) ⊎ (place ≤ number) → nat_lt number place ≡ nat_lt number (place + 1)
        alike (inl low) = lt-ltb number place low ∙ sym (lt-ltb number (place + 1) (omega (arith, low)))
        alike (inr past) =
            le-ltb number place past ∙ sym (le-ltb number (place + 1) (omega (arith, past, other)))

-- After the last number a table has what all messages of the hart make it.
pub all_numbers : (how : By) (payloads : List (List ℕ)) (count number : ℕ) (bytes : List ℕ) → length payloads ≤ count
    → (nat_lt number count && is_known_by how bytes (slice_get payloads number))
    ≡ is_known_by how bytes (slice_get payloads number)
all_numbers how payloads count number bytes all = go (slice_get payloads number) refl
  where
    go : (o : Option (List ℕ)) → slice_get payloads number ≡ o
        → (nat_lt number count && is_known_by how bytes o) ≡ is_known_by how bytes o
    go None at = and_right (nat_lt number count) false refl
    go (Some sent) at =
        let within = slice_get_within payloads number sent at in
        ap (λ b. b && is_known_by how bytes (Some sent)) (lt-ltb number count (omega (arith, all, within)))

-- A hart that is put at a key is put at the number and the bytes that are the key's, and nowhere else.
pub owner_put : (hart own number : ℕ) (known bytes : List ℕ) (old : ℕ → List ℕ → Option (Option ℕ)) (owner : Option ℕ)
    → Some owner ≡ owner_after true hart (old own known)
    → cond ((own == number) && bytes_eq known bytes) (Some owner) (old number bytes)
    ≡ owner_after ((own == number) && bytes_eq known bytes) hart (old number bytes)
owner_put hart own number known bytes old owner put = go (own == number) (bytes_eq known bytes) refl refl
  where
    go : (a b : Bool) → (own == number) ≡ a → bytes_eq known bytes ≡ b
        → cond (a && b) (Some owner) (old number bytes) ≡ owner_after (a && b) hart (old number bytes)
    go true true same alike =
        put
        ∙ (λ i. owner_after true hart (old (eqb-true own number same i) ((bytes_eq-Decides known bytes).0 alike i)))
    go true false same alike = refl
    go false b same alike = refl

-- What is put last at a key stays there.
pub put_twice : {A : Type 0} (b : Bool) (last first old : A) → cond b last (cond b first old) ≡ cond b last old
put_twice true last first old = refl
put_twice false last first old = refl

-- What is ensured unless an allocation fails holds where none did.
pub where_ok : {T E P : Type 0} (r : Result T E) → is_ok r ≡ true → OnOk r P → P
where_ok (Ok x) is holds = holds
where_ok (Err e) is holds = cc

-- A table that is complete stays so after a message is taken.
pub keeps_owners : {S : Type 0} (how : By) (harts after : List HartLedger) (message : Message) (complete : Bool)
    (table : HashMap (ℕ × ArrayVec ℕ) (Option ℕ) S) → KeepsOwners how harts complete table
    → after ≡ harts_found how harts message (slice_get harts message.hart) → KeepsOwners how after complete table
keeps_owners how harts after message complete table keeps is = λ all number payload.
    keeps all number payload
    ∙ sym (owner_kept how harts message number payload)
    ∙ ap (λ own. owner_in how own number payload) (sym is)
