-- What is found of messages, where one more message came.
use Rattle.std.proofs.Common.{◌≡◌, ◌≢◌, ◌⊎◌, inl, inr, ℕ, suc, ◌+◌, ◌^◌, ◌<◌, Bool, true, false, cond, eqb, List, [], ◌∷◌, ◌++◌}
use Rattle.std.proofs.Common.{Option, Some, None, length, refl, sym, ap, ◌∙◌, arith, add-zero, zero-add}
use Rattle.std.specs.Prelude.{◌&&◌, ◌||◌, max}
use Rattle.std.specs.List.{sum_by}
use Rattle.std.proofs.lemmas.Bool.{and_parts, eq-eqb, eqb-true, ne_eqb, or_cases}
use Rattle.std.proofs.lemmas.List.{append_assoc, append-nil}
use Rattle.std.proofs.lemmas.List.Elements.{filter-append}
use Rattle.std.proofs.lemmas.List.Sums.{sum_by_push}
use Rattle.message.specs.declared.message.Message.{Message}
use Rattle.auditing.proofs.Appending.{true_ones-same}
use Rattle.auditing.specs.Audits.{capped, capped_place, number_after}
use Rattle.auditing.specs.Fates.{fate_of, has_number, is_numbered, is_true, true_ones}
use Rattle.auditing.specs.Findings.{Found, at_least, finding_by, finding_of, findings, first_found, first_from, found_after}
use Rattle.auditing.specs.Findings.{found_one, greatest_number, is_plain, late_by, latest, latest_of, own_lateness, own_skips}
use Rattle.auditing.specs.Findings.{skips_in, skips_of}
use Rattle.auditing.specs.declared.fate.Fate.{Fate}
use Rattle.auditing.specs.declared.fate.Fate.TheVariants as fate
use Rattle.auditing.specs.declared.finding.Finding.{Finding}
use Rattle.auditing.specs.declared.finding.Finding.TheVariants as finding
use Rattle.auditing.specs.steps.Taking.{finding_at, first_after}

-- What is found is found by the number after the greatest.
pub found_by_past : (its : Fate) (greatest : Option ℕ) (number : ℕ)
    → finding_at its (number_after greatest) number ≡ finding_by its greatest number
found_by_past fate.Stranger greatest number = refl
found_by_past fate.Changed greatest number = refl
found_by_past fate.Repeat greatest number = refl
found_by_past fate.Late None number = ap finding.Late (omega arith)
found_by_past fate.Late (Some greatest) number = ap finding.Late (omega arith)
found_by_past fate.InOrder None number = ap finding.InOrder (omega arith)
found_by_past fate.InOrder (Some greatest) number = ap finding.InOrder (omega arith)

-- The number after the greater of a number and another one.
after_greater : (number : ℕ) (other : Option ℕ) → at_least number other + 1 ≡ max (number + 1) (number_after other)
after_greater number None = omega arith
after_greater number (Some other) = omega arith

-- The number after the greatest of a hart's messages, with one more message of the hart.
greatest-own : (messages : List Message) (message : Message)
    → number_after (greatest_number (messages ++ message ∷ []) message.hart)
    ≡ max (number_after (greatest_number messages message.hart)) (message.number + 1)
greatest-own [] message =
    ap (λ b. number_after (cond b (Some message.number) None)) (eq-eqb message.hart message.hart refl) ∙ omega arith
greatest-own (first ∷ messages) message = go (eqb first.hart message.hart) (greatest-own messages message)
  where
    go : (own : Bool) → number_after (greatest_number (messages ++ message ∷ []) message.hart)
        ≡ max (number_after (greatest_number messages message.hart)) (message.number + 1)
        → number_after (cond own (Some (at_least first.number (greatest_number (messages ++ message ∷ []) message.hart)))
        (greatest_number (messages ++ message ∷ []) message.hart))
        ≡ max (number_after (cond own (Some (at_least first.number (greatest_number messages message.hart)))
        (greatest_number messages message.hart))) (message.number + 1)
    go true rest =
        after_greater first.number (greatest_number (messages ++ message ∷ []) message.hart)
        ∙ ap (max (first.number + 1)) rest
        ∙ max_assoc (first.number + 1) (number_after (greatest_number messages message.hart)) (message.number + 1)
        ∙ ap (λ n. max n (message.number + 1))
        (sym (after_greater first.number (greatest_number messages message.hart)))
      where
        max_assoc : (a b c : ℕ) → max a (max b c) ≡ max (max a b) c
        max_assoc a b c = omega arith
    go false rest = rest

-- And with one more of another hart.
greatest-other : (hart : ℕ) (messages : List Message) (message : Message) → message.hart ≢ hart
    → greatest_number (messages ++ message ∷ []) hart ≡ greatest_number messages hart
greatest-other hart [] message other =
    ap (λ b. cond b (Some message.number) None) (ne_eqb message.hart hart other)
greatest-other hart (first ∷ messages) message other =
    ap (λ rest. cond (eqb first.hart hart) (Some (at_least first.number rest)) rest)
    (greatest-other hart messages message other)

-- The greatest is as great as each that is there.
pub greatest_above : (hart number : ℕ) (messages : List Message) → has_number messages hart number ≡ true
    → number < number_after (greatest_number messages hart)
greatest_above hart number [] has = cc
greatest_above hart number (first ∷ messages) has =
    go (eqb first.hart hart) refl (λ there. greatest_above hart number messages there)
  where
    go : (own : Bool) → eqb first.hart hart ≡ own
        → (has_number messages hart number ≡ true → number < number_after (greatest_number messages hart))
        → number < number_after (cond own (Some (at_least first.number (greatest_number messages hart)))
        (greatest_number messages hart))
    go true is above_all =
        let after = after_greater first.number (greatest_number messages hart) in
        at (or_cases (is_numbered hart number first) (has_number messages hart number) has) after
      where
        at : (is_numbered hart number first ≡ true) ⊎ (has_number messages hart number ≡ true) → at_least first.number (greatest_number messages hart) + 1
            ≡ max (first.number + 1) (number_after (greatest_number messages hart))
            → number < at_least first.number (greatest_number messages hart) + 1
        at (inl here) after =
            let same = eqb-true first.number number (and_parts (eqb first.hart hart) (eqb first.number number) here).1 in
            omega (arith, same, after)
        at (inr there) after =
            let above = above_all there in
            omega (arith, above, after)
    go false is above_all =
        above_all
        (sym (ap (λ b. (b && eqb first.number number) || has_number messages hart number) is) ∙ has)

-- The true ones, with one more that is true.
true_ones-more : (sent received : List Message) (message : Message) → is_true sent message ≡ true
    → true_ones sent (received ++ message ∷ []) ≡ true_ones sent received ++ message ∷ []
true_ones-more sent received message is =
    filter-append (is_true sent) received (message ∷ [])
    ∙ ap (λ t. true_ones sent received ++ cond t (message ∷ []) []) is

-- The number after the greatest true one, with one more message.
pub past-true : (sent received : List Message) (message : Message) → is_true sent message ≡ true
    → number_after (greatest_number (true_ones sent (received ++ message ∷ [])) message.hart)
    ≡ max (number_after (greatest_number (true_ones sent received) message.hart)) (message.number + 1)
past-true sent received message is =
    ap (λ trues. number_after (greatest_number trues message.hart)) (true_ones-more sent received message is)
    ∙ greatest-own (true_ones sent received) message

pub past-false : (sent received : List Message) (message : Message) (hart : ℕ) → is_true sent message ≡ false
    → greatest_number (true_ones sent (received ++ message ∷ [])) hart ≡ greatest_number (true_ones sent received) hart
past-false sent received message hart is =
    ap (λ trues. greatest_number trues hart) (true_ones-same sent received message is)

pub past-other : (sent received : List Message) (message : Message) (hart : ℕ) → message.hart ≢ hart
    → greatest_number (true_ones sent (received ++ message ∷ [])) hart ≡ greatest_number (true_ones sent received) hart
past-other sent received message hart other = go (is_true sent message) refl
  where
    go : (true_one : Bool) → is_true sent message ≡ true_one
        → greatest_number (true_ones sent (received ++ message ∷ [])) hart
        ≡ greatest_number (true_ones sent received) hart
    go true is =
        ap (λ trues. greatest_number trues hart) (true_ones-more sent received message is)
        ∙ greatest-other hart (true_ones sent received) message other
    go false is = past-false sent received message hart is

-- What is found of messages and of one more.
found_after-next : (sent before messages : List Message) (message : Message)
    → found_after sent before (messages ++ message ∷ [])
    ≡ found_after sent before messages ++ found_one sent (before ++ messages) message ∷ []
found_after-next sent before [] message =
    ap (λ front. found_one sent front message ∷ []) (sym (append-nil before))
found_after-next sent before (first ∷ messages) message =
    ap (λ rest. found_one sent before first ∷ rest)
    (found_after-next sent (before ++ first ∷ []) messages message
    ∙ ap (λ front. found_after sent (before ++ first ∷ []) messages ++ found_one sent front message ∷ [])
    (append_assoc before (first ∷ []) messages))

findings-next : (sent received : List Message) (message : Message)
    → findings sent (received ++ message ∷ []) ≡ findings sent received ++ found_one sent received message ∷ []
findings-next sent received message = found_after-next sent [] received message

-- How many numbers are skipped, with one more message.
pub skips-next : (sent received : List Message) (message : Message) (hart : ℕ)
    → skips_in sent (received ++ message ∷ []) hart
    ≡ skips_in sent received hart + own_skips hart (found_one sent received message)
skips-next sent received message hart =
    ap (sum_by (own_skips hart)) (findings-next sent received message)
    ∙ sum_by_push (own_skips hart) (findings sent received) (found_one sent received message)

-- The most by which one is late, with one more message.
latest_of-next : (hart : ℕ) (all : List Found) (one : Found)
    → latest_of hart (all ++ one ∷ []) ≡ max (latest_of hart all) (own_lateness hart one)
latest_of-next hart [] one = at (own_lateness hart one)
  where
    at : (n : ℕ) → max n 0 ≡ max 0 n
    at n = omega arith
latest_of-next hart (first ∷ all) one =
    ap (max (own_lateness hart first)) (latest_of-next hart all one)
    ∙ at (own_lateness hart first) (latest_of hart all) (own_lateness hart one)
  where
    at : (a b c : ℕ) → max a (max b c) ≡ max (max a b) c
    at a b c = omega arith

pub latest-next : (sent received : List Message) (message : Message) (hart : ℕ)
    → latest sent (received ++ message ∷ []) hart
    ≡ max (latest sent received hart) (own_lateness hart (found_one sent received message))
latest-next sent received message hart =
    ap (latest_of hart) (findings-next sent received message)
    ∙ latest_of-next hart (findings sent received) (found_one sent received message)

pub latest-other : (sent received : List Message) (message : Message) (hart : ℕ) → message.hart ≢ hart
    → latest sent (received ++ message ∷ []) hart ≡ latest sent received hart
latest-other sent received message hart other =
    latest-next sent received message hart
    ∙ ap (λ b. max (latest sent received hart) (cond b (late_by (finding_of sent received message)) 0))
    (ne_eqb message.hart hart other)
    ∙ at (latest sent received hart)
  where
    at : (n : ℕ) → max n 0 ≡ n
    at n = omega arith

-- What is found of a message, by its fate and the number after the greatest.
pub finding_is : (sent received : List Message) (message : Message) (its : Fate) (past : ℕ)
    → fate_of sent received message ≡ its
    → past ≡ number_after (greatest_number (true_ones sent received) message.hart)
    → finding_of sent received message ≡ finding_at its past message.number
finding_is sent received message its past is past_is =
    let greatest = greatest_number (true_ones sent received) message.hart in
    ap (λ f. finding_by f greatest message.number) is
    ∙ sym (found_by_past its greatest message.number)
    ∙ ap (λ p. finding_at its p message.number) (sym past_is)

pub latest-own : (sent received : List Message) (message : Message) (its : Fate) (past : ℕ)
    → fate_of sent received message ≡ its
    → past ≡ number_after (greatest_number (true_ones sent received) message.hart)
    → latest sent (received ++ message ∷ []) message.hart
    ≡ max (latest sent received message.hart) (late_by (finding_at its past message.number))
latest-own sent received message its past is past_is =
    let before = latest sent received message.hart in
    latest-next sent received message message.hart
    ∙ ap (λ b. max before (cond b (late_by (finding_of sent received message)) 0)) (eq-eqb message.hart message.hart refl)
    ∙ ap (λ f. max before (late_by f)) (finding_is sent received message its past is past_is)

pub skips-own : (sent received : List Message) (message : Message) (its : Fate) (past : ℕ)
    → fate_of sent received message ≡ its
    → past ≡ number_after (greatest_number (true_ones sent received) message.hart)
    → skips_in sent (received ++ message ∷ []) message.hart
    ≡ skips_in sent received message.hart + skips_of (finding_at its past message.number)
skips-own sent received message its past is past_is =
    let before = skips_in sent received message.hart in
    skips-next sent received message message.hart
    ∙ ap (λ b. before + cond b (skips_of (finding_of sent received message)) 0) (eq-eqb message.hart message.hart refl)
    ∙ ap (λ f. before + skips_of f) (finding_is sent received message its past is past_is)

pub skips-other : (sent received : List Message) (message : Message) (hart : ℕ) → message.hart ≢ hart
    → skips_in sent (received ++ message ∷ []) hart ≡ skips_in sent received hart
skips-other sent received message hart other =
    skips-next sent received message hart
    ∙ ap (λ b. skips_in sent received hart + cond b (skips_of (finding_of sent received message)) 0)
    (ne_eqb message.hart hart other)
    ∙ add-zero (skips_in sent received hart)

-- The first that is not plain, with one more message.
first_from-next : (place : ℕ) (all : List Found) (one : Found)
    → first_from place (all ++ one ∷ []) ≡ first_after (first_from place all) (place + length all) one.finding
first_from-next place [] one =
    ap (λ p. cond (is_plain one.finding) None (Some p)) (sym (add-zero place))
first_from-next place (first ∷ all) one = go (is_plain first.finding) (first_from-next (place + 1) all one)
  where
    go : (plain : Bool)
        → first_from (place + 1) (all ++ one ∷ [])
        ≡ first_after (first_from (place + 1) all) (place + 1 + length all) one.finding
        → cond plain (first_from (place + 1) (all ++ one ∷ [])) (Some place)
        ≡ first_after (cond plain (first_from (place + 1) all) (Some place)) (place + length (first ∷ all)) one.finding
    go true rest =
        rest
        ∙ ap (λ p. first_after (first_from (place + 1) all) p one.finding) (omega arith)
    go false rest = refl

-- There are as many findings as messages.
length-found_after : (sent before messages : List Message) → length (found_after sent before messages)
    ≡ length messages
length-found_after sent before [] = refl
length-found_after sent before (message ∷ messages) =
    ap suc (length-found_after sent (before ++ message ∷ []) messages)

-- A place that stays small enough, or is cut.
capped_first : (first : Option ℕ) (place : ℕ) (its : Finding)
    → first_after (capped_place first) (capped place) its ≡ capped_place (first_after first place its)
capped_first (Some first) place its = refl
capped_first None place its = go (is_plain its)
  where
    go : (plain : Bool) → cond plain None (Some (capped place)) ≡ capped_place (cond plain None (Some place))
    go true = refl
    go false = refl

pub first-next : (sent received : List Message) (message : Message)
    → first_after (capped_place (first_found sent received)) (capped (length received)) (finding_of sent received message)
    ≡ capped_place (first_found sent (received ++ message ∷ []))
first-next sent received message =
    capped_first (first_found sent received) (length received) (finding_of sent received message)
    ∙ ap capped_place (
    ap (λ n. first_after (first_found sent received) n (finding_of sent received message))
    (sym (length-found_after sent [] received) ∙ sym (zero-add (length (findings sent received))))
    ∙ sym (first_from-next 0 (findings sent received) (found_one sent received message))
    ∙ ap (first_from 0) (sym (findings-next sent received message)))

-- A place that is not too great is as it is.
pub first_exact : (sent received : List Message) → length received < 2 ^ 64
    → capped_place (first_found sent received) ≡ first_found sent received
first_exact sent received few = at 0 (findings sent received) (omega (arith, few, length-found_after sent [] received))
  where
    at : (place : ℕ) (all : List Found) → place + length all < 2 ^ 64
        → capped_place (first_from place all) ≡ first_from place all
    at place [] short = refl
    at place (one ∷ all) short = go (is_plain one.finding) (at (place + 1) all (omega (arith, short)))
      where
        go : (plain : Bool)
            → capped_place (first_from (place + 1) all) ≡ first_from (place + 1) all
            → capped_place (cond plain (first_from (place + 1) all) (Some place))
            ≡ cond plain (first_from (place + 1) all) (Some place)
        go true rest = rest
        go false rest = ap Some (omega (arith, short))
