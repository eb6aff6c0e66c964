-- What is kept of a hart, where one more message came.
use Rattle.std.proofs.Common.{◌≡◌, ◌≢◌, ℕ, ◌+◌, ◌<◌, ◌≤◌, Bool, true, false, eqb, ltb, List, []}
use Rattle.std.proofs.Common.{◌∷◌, ◌++◌, Option, Some, None, get_or, map, set, slice_get, refl, sym, ap, subst, ◌∙◌}
use Rattle.std.proofs.Common.{arith, zero-add}
use Rattle.std.specs.Prelude.{◌-◌, ◌&&◌, ◌||◌, if◌then◌else◌, is_some, max, not}
use Rattle.std.specs.List.{list_any}
use Rattle.std.specs.Str.{bytes_eq}
use Rattle.std.proofs.lemmas.Bool.{and_from, and_parts, eq-eqb, eqb-true, le-ltb, lt-ltb, ltb-false, ltb-true, ne_eqb}
use Rattle.std.proofs.lemmas.Bool.{true≢false, or_right}
use Rattle.message.specs.OfHart.{of_hart}
use Rattle.message.specs.declared.message.Message.{Message}
use Rattle.payload.specs.declared.by.By.TheVariants as by
use Rattle.auditing.proofs.Appending.{any-next, any-other, any_weaker, or_false, true_ones-same}
use Rattle.auditing.proofs.CountLemmas.{counts-next, counts-other}
use Rattle.auditing.proofs.FindingLemmas.{greatest_above, latest-other, latest-own, past-false, past-other, past-true}
use Rattle.auditing.proofs.OwnMessages.{any_of_hart, fits, flag_at, flags, numbered_in, same_in, set_flag}
use Rattle.auditing.specs.Audits.{AuditsHart, number_after}
use Rattle.auditing.specs.Fates.{fate_of, has_greater, has_number, is_numbered, is_same, is_true, true_ones}
use Rattle.auditing.specs.Findings.{greatest_number, late_by, latest}
use Rattle.auditing.specs.Ledger.{HartLedger}
use Rattle.auditing.specs.declared.fate.Fate.{Fate}
use Rattle.auditing.specs.declared.fate.Fate.TheVariants as fate
use Rattle.auditing.specs.steps.Taking.{counted, fate_by, fate_in, finding_at, hart_after}

-- The fate by four tests: SENT has the number; the message is true; a true one with its number came before; one with a
-- greater number came before.
abbrev pub chosen : Bool → Bool → Bool → Bool → Fate
chosen known same again greater =
    if not known then fate.Stranger else
    if not same then fate.Changed else
    if again then fate.Repeat else
    if greater then fate.Late else
    fate.InOrder

-- What has this number is of this hart.
pub of_its_hart : (hart number : ℕ) (message : Message) → is_numbered hart number message ≡ true
    → eqb message.hart hart ≡ true
of_its_hart hart number message is = (and_parts (eqb message.hart hart) (eqb message.number number) is).0

-- A message that is the same has the number.
pub has_its_number : (message other : Message) → is_same message other ≡ true
    → is_numbered message.hart message.number other ≡ true
has_its_number message other is =
    (and_parts (is_numbered message.hart message.number other) (bytes_eq message.payload other.payload) is).0

-- SENT has the number of what is true.
pub true_is_known : (sent : List Message) (message : Message) → is_true sent message ≡ true
    → has_number sent message.hart message.number ≡ true
true_is_known sent message is =
    any_weaker (is_same message) (is_numbered message.hart message.number) (has_its_number message) sent is

module _ (sent received : List Message) (message : Message) (own : HartLedger)
    (stands : AuditsHart sent received message.hart own) where
  abbrev hart : ℕ
  hart = message.hart

  abbrev number : ℕ
  number = message.number

  abbrev found : Option (List ℕ)
  found = slice_get own.payloads number

  known : has_number sent hart number ≡ is_some found
  known =
      any_of_hart hart (is_numbered hart number) (of_its_hart hart number) sent
      ∙ ap (list_any (is_numbered hart number)) stands.payloads
      ∙ numbered_in hart 0 own.payloads number number (zero-add number)

  pub same : is_true sent message ≡ fits message.payload found
  same =
      any_of_hart hart (is_same message)
      (λ other is. of_its_hart hart number other (has_its_number message other is)) sent
      ∙ ap (list_any (is_same message)) stands.payloads
      ∙ same_in 0 own.payloads number message (zero-add number)

  again : (payload : List ℕ) → found ≡ Some payload
      → has_number (true_ones sent received) hart number ≡ get_or own.came number false
  again payload is = sym (
      ap (λ came. get_or came number false)
      (stands.came ∙ ap (flags (has_number (true_ones sent received) hart)) stands.payloads)
      ∙ flag_at (has_number (true_ones sent received) hart) hart 0 own.payloads number number payload (zero-add number)
      is)

  -- The fate is the one of the definition.
  pub fate_is : fate_in by.Bytes own number message.payload ≡ fate_of sent received message
  fate_is = go found refl
    where
      go : (o : Option (List ℕ)) → found ≡ o
          → fate_by by.Bytes own number message.payload o ≡ fate_of sent received message
      go None is = sym (
          ap (λ b. chosen b (is_true sent message) (has_number (true_ones sent received) hart number)
          (has_greater (true_ones sent received) hart number)) (known ∙ ap is_some is))
      go (Some payload) is = sym ((λ i. chosen
          ((known ∙ ap is_some is) i)
          ((same ∙ ap (fits message.payload) is) i)
          (again payload is i)
          (stands.past number i)))

-- A number that some have is greater than each lower one.
greater_than_lower : (messages : List Message) (hart number lower : ℕ) → has_number messages hart number ≡ true
    → lower < number → has_greater messages hart lower ≡ true
greater_than_lower messages hart number lower has low =
    any_weaker (is_numbered hart number) (λ (m : Message). eqb m.hart hart && ltb lower m.number) each messages has
  where
    each : (m : Message) → is_numbered hart number m ≡ true → (eqb m.hart hart && ltb lower m.number) ≡ true
    each m is =
        let parts = and_parts (eqb m.hart hart) (eqb m.number number) is in
        let same = eqb-true m.number number parts.1 in
        and_from _ _ parts.0 (lt-ltb lower m.number (omega (arith, same, low)))

-- A test that passes where a second passes is not widened by it.
absorbed : (b c : Bool) → (c ≡ true → b ≡ true) → (b || c) ≡ b
absorbed true c implied = refl
absorbed false true implied = sym (implied refl)
absorbed false false implied = refl

module _ (sent received : List Message) (message : Message) (own : HartLedger)
    (stands : AuditsHart sent received message.hart own) where
  abbrev more : List Message
  more = received ++ message ∷ []

  abbrev before : List Message
  before = true_ones sent received

  -- The most by which a message is late.
  latest_is : (its : Fate) → fate_of sent received message ≡ its
      → max own.latest (late_by (finding_at its own.past message.number)) ≡ latest sent more message.hart
  latest_is its is =
      ap (λ n. max n (late_by (finding_at its own.past message.number))) stands.latest
      ∙ sym (latest-own sent received message its own.past is stands.past_is)

  -- It stays where this one is not late.
  as_late : (its : Fate) → fate_of sent received message ≡ its
      → late_by (finding_at its own.past message.number) ≡ 0 → own.latest ≡ latest sent more message.hart
  as_late its is none =
      sym (max_zero own.latest) ∙ ap (max own.latest) (sym none) ∙ latest_is its is
    where
      max_zero : (n : ℕ) → max n 0 ≡ n
      max_zero n = omega arith

  -- The number after the greatest, where one more came that is true.
  past_more : is_true sent message ≡ true
      → max own.past (message.number + 1) ≡ number_after (greatest_number (true_ones sent more) message.hart)
  past_more is =
      ap (λ p. max p (message.number + 1)) stands.past_is ∙ sym (past-true sent received message is)

  -- Of a message that is not true nothing but the counts changes.
  not_true : (its : Fate) → fate_of sent received message ≡ its → is_true sent message ≡ false
      → late_by (finding_at its own.past message.number) ≡ 0
      → AuditsHart sent more message.hart (record own { counts = counted own.counts its })
  not_true its is false_one none =
      let same = sym (true_ones-same sent received message false_one) in
      record {
        payloads = stands.payloads;
        came = stands.came ∙ ap (λ trues. flags (has_number trues message.hart) (of_hart message.hart sent)) same;
        past = λ number. ap (λ trues. has_greater trues message.hart number) (sym same) ∙ stands.past number;
        past_is = stands.past_is ∙ ap number_after (sym (past-false sent received message message.hart false_one));
        latest = as_late its is none;
        counts = ap (λ counts. counted counts its) stands.counts ∙ counts-next sent received message its is;
      }

  -- The numbers that true ones have, where one more came that is true.
  numbers : (is : is_true sent message ≡ true) (number : ℕ)
      → has_number (true_ones sent more) message.hart number
      ≡ (has_number before message.hart number || eqb message.number number)
  numbers is number =
      any-next (is_numbered message.hart number) sent received message
      ∙ ap (λ t. has_number before message.hart number || (t && is_numbered message.hart number message)) is
      ∙ ap (λ b. has_number before message.hart number || (b && eqb message.number number))
      (eq-eqb message.hart message.hart refl)

  greaters : (is : is_true sent message ≡ true) (number : ℕ)
      → has_greater (true_ones sent more) message.hart number
      ≡ (ltb (number + 1) own.past || ltb number message.number)
  greaters is number =
      any-next (λ (m : Message). eqb m.hart message.hart && ltb number m.number) sent received message
      ∙ ap (λ t. has_greater before message.hart number
      || (t && (eqb message.hart message.hart && ltb number message.number))) is
      ∙ ap (λ b. has_greater before message.hart number || (b && ltb number message.number))
      (eq-eqb message.hart message.hart refl)
      ∙ ap (λ b. b || ltb number message.number) (stands.past number)

  -- Of a repeat nothing but the counts changes.
  repeats : fate_of sent received message ≡ fate.Repeat → is_true sent message ≡ true
      → has_number before message.hart message.number ≡ true
      → AuditsHart sent more message.hart (record own { counts = counted own.counts fate.Repeat })
  repeats its is has = record {
    payloads = stands.payloads;
    came = stands.came ∙ (λ i. map (λ (m : Message). sym (same m.number) i) (of_hart message.hart sent));
    past = past;
    past_is = sym (below own.past message.number (lower stands.past_is)) ∙ past_more is;
    latest = as_late fate.Repeat its refl;
    counts = ap (λ counts. counted counts fate.Repeat) stands.counts
        ∙ counts-next sent received message fate.Repeat its;
  }
    where
      lower : own.past ≡ number_after (greatest_number before message.hart) → message.number < own.past
      lower past = let above = greatest_above message.hart message.number before has in omega (arith, past, above)

      below : (past number : ℕ) → number < past → max past (number + 1) ≡ past
      below past number low = omega (arith, low)

      same : (number : ℕ)
          → has_number (true_ones sent more) message.hart number ≡ has_number before message.hart number
      same number =
          numbers is number
          ∙ absorbed (has_number before message.hart number) (eqb message.number number)
          (λ e. subst (λ n. has_number before message.hart n ≡ true) (eqb-true message.number number e) has)

      past : (number : ℕ) → has_greater (true_ones sent more) message.hart number ≡ ltb (number + 1) own.past
      past number =
          greaters is number
          ∙ absorbed (ltb (number + 1) own.past) (ltb number message.number)
          (λ low. sym (stands.past number)
          ∙ greater_than_lower before message.hart message.number number has (ltb-true number message.number low))

  -- The flags, where a true one came first.
  marked : is_true sent message ≡ true
      → set own.came message.number true ≡ flags (has_number (true_ones sent more) message.hart)
      (of_hart message.hart sent)
  marked is =
      let f = has_number before message.hart in
      let g = has_number (true_ones sent more) message.hart in
      let here : g message.number ≡ true =
      numbers is message.number
      ∙ ap (λ b. has_number before message.hart message.number || b) (eq-eqb message.number message.number refl)
      ∙ or_right (has_number before message.hart message.number) true refl in
      let elsewhere : (other : ℕ) → other ≢ message.number → g other ≡ f other =
      λ other differs. numbers is other
      ∙ ap (λ b. f other || b) (ne_eqb message.number other (λ same. differs (sym same)))
      ∙ or_false (f other) in
      ap (λ came. set came message.number true) (stands.came ∙ ap (flags f) stands.payloads)
      ∙ sym (set_flag f g message.hart 0 own.payloads message.number message.number (zero-add message.number) here
      elsewhere)
      ∙ ap (flags g) (sym stands.payloads)

  -- A late one, and one in order.
  late : fate_of sent received message ≡ fate.Late → is_true sent message ≡ true
      → has_greater before message.hart message.number ≡ true
      → AuditsHart sent more message.hart
      (record own {
        came = set own.came message.number true;
        latest = max own.latest (own.past - 1 - message.number);
        counts = counted own.counts fate.Late;
      })
  late its is greater = record {
    payloads = stands.payloads;
    came = marked is;
    past = past;
    past_is = sym (below own.past message.number low) ∙ past_more is;
    latest = latest_is fate.Late its;
    counts = ap (λ counts. counted counts fate.Late) stands.counts
        ∙ counts-next sent received message fate.Late its;
  }
    where
      below : (past number : ℕ) → number + 1 < past → max past (number + 1) ≡ past
      below past number low = omega (arith, low)

      low : message.number + 1 < own.past
      low = ltb-true (message.number + 1) own.past (sym (stands.past message.number) ∙ greater)

      past : (number : ℕ) → has_greater (true_ones sent more) message.hart number ≡ ltb (number + 1) own.past
      past number =
          greaters is number
          ∙ absorbed (ltb (number + 1) own.past) (ltb number message.number)
          (λ below. let b = ltb-true number message.number below in
          lt-ltb (number + 1) own.past (omega (arith, b, low)))

  in_order : fate_of sent received message ≡ fate.InOrder → is_true sent message ≡ true
      → has_greater before message.hart message.number ≡ false
      → AuditsHart sent more message.hart
      (record own {
        came = set own.came message.number true;
        past = message.number + 1;
        counts = counted own.counts fate.InOrder;
      })
  in_order its is none = record {
    payloads = stands.payloads;
    came = marked is;
    past = past;
    past_is = sym (above own.past message.number high) ∙ past_more is;
    latest = as_late fate.InOrder its refl;
    counts = ap (λ counts. counted counts fate.InOrder) stands.counts
        ∙ counts-next sent received message fate.InOrder its;
  }
    where
      above : (past number : ℕ) → past ≤ number + 1 → max past (number + 1) ≡ number + 1
      above past number high = omega (arith, high)

      high : own.past ≤ message.number + 1
      high = ltb-false (message.number + 1) own.past (sym (stands.past message.number) ∙ none)

      past : (number : ℕ)
          → has_greater (true_ones sent more) message.hart number ≡ ltb (number + 1) (message.number + 1)
      past number = greaters is number ∙ go (ltb number message.number) refl
        where
          go : (b : Bool) → ltb number message.number ≡ b
              → (ltb (number + 1) own.past || b) ≡ ltb (number + 1) (message.number + 1)
          go true e =
              let low = ltb-true number message.number e in
              or_right (ltb (number + 1) own.past) true refl
              ∙ sym (lt-ltb (number + 1) (message.number + 1) (omega (arith, low)))
          go false e =
              let above = ltb-false number message.number e in
              or_false (ltb (number + 1) own.past)
              ∙ le-ltb (number + 1) own.past (omega (arith, above, high))
              ∙ sym (le-ltb (number + 1) (message.number + 1) (omega (arith, above)))

  -- What is kept of the message's hart.
  pub takes : AuditsHart sent more message.hart
      (hart_after own message.number (fate_of sent received message))
  takes =
      go (has_number sent message.hart message.number) (is_true sent message)
      (has_number before message.hart message.number) (has_greater before message.hart message.number)
      refl refl refl refl
    where
      fate_by_tests : (a b c d : Bool) → has_number sent message.hart message.number ≡ a → is_true sent message ≡ b
          → has_number before message.hart message.number ≡ c
          → has_greater before message.hart message.number ≡ d
          → fate_of sent received message ≡ chosen a b c d
      fate_by_tests a b c d known same again greater = λ i. chosen (known i) (same i) (again i) (greater i)

      go : (a b c d : Bool) → has_number sent message.hart message.number ≡ a → is_true sent message ≡ b
          → has_number before message.hart message.number ≡ c
          → has_greater before message.hart message.number ≡ d
          → AuditsHart sent more message.hart (hart_after own message.number (chosen a b c d))
      go false false c d known same again greater =
          not_true fate.Stranger (fate_by_tests false false c d known same again greater) same refl
      go false true c d known same again greater =
          absurd (true≢false (sym (true_is_known sent message same) ∙ known))
      go true false c d known same again greater =
          not_true fate.Changed (fate_by_tests true false c d known same again greater) same refl
      go true true true d known same again greater =
          repeats (fate_by_tests true true true d known same again greater) same again
      go true true false true known same again greater =
          late (fate_by_tests true true false true known same again greater) same greater
      go true true false false known same again greater =
          in_order (fate_by_tests true true false false known same again greater) same greater

-- What is kept of another hart.
pub takes_other : (sent received : List Message) (message : Message) (hart : ℕ) (own : HartLedger)
    → message.hart ≢ hart → AuditsHart sent received hart own → AuditsHart sent (received ++ message ∷ []) hart own
takes_other sent received message hart own other stands = record {
  payloads = stands.payloads;
  came = stands.came ∙ (λ i. map (λ (m : Message). sym (same m.number) i) (of_hart hart sent));
  past = λ number. any-other (λ (m : Message). eqb m.hart hart && ltb number m.number) sent received message
      (ap (λ b. b && ltb number message.number) (ne_eqb message.hart hart other)) ∙ stands.past number;
  past_is = stands.past_is ∙ ap number_after (sym (past-other sent received message hart other));
  latest = stands.latest ∙ sym (latest-other sent received message hart other);
  counts = stands.counts ∙ counts-other sent received message hart other;
}
  where
    same : (number : ℕ)
        → has_number (true_ones sent (received ++ message ∷ [])) hart number
        ≡ has_number (true_ones sent received) hart number
    same number = any-other (is_numbered hart number) sent received message
        (ap (λ b. b && eqb message.number number) (ne_eqb message.hart hart other))
