-- The counts of a hart add up, message by message.
use Rattle.std.proofs.Common.{◌≡◌, ◌≢◌, ◌⊎◌, inl, inr, ℕ, zero, suc, ◌+◌, ◌-◌, ◌<◌, ◌≤◌, Bool, true, false, cond, eqb, ltb}
use Rattle.std.proofs.Common.{List, [], ◌∷◌, ◌++◌, Option, Some, None, get_or, length, map, set, slice_get, refl, sym, ap}
use Rattle.std.proofs.Common.{subst, ◌∙◌, arith, add-zero, append-nil, zero-add}
use Rattle.std.specs.Prelude.{◌&&◌, not}
use Rattle.std.specs.List.{count_by, filter}
use Rattle.std.specs.Str.{bytes_eq}
use Rattle.std.proofs.lemmas.Bool.{cases_lt, eq-eqb, eqb-true, eqb-false, ltb-false, ltb-true, lt-ltb, le-ltb, ne_eqb, true≢false}
use Rattle.std.proofs.lemmas.List.{append_assoc, get_or-set_other, get_or-set_same, length-map, length-set}
use Rattle.std.proofs.lemmas.List.Sums.{sum_by-cons, sum_by-set}
use Rattle.std.proofs.lemmas.Option.{slice_get_within}
use Rattle.message.specs.OfHart.{of_hart}
use Rattle.message.specs.declared.message.Message.{Message}
use Rattle.payload.specs.declared.by.By.TheVariants as by
use Rattle.auditing.proofs.Appending.{counted-next}
use Rattle.auditing.proofs.FindingLemmas.{skips-other, skips-own}
use Rattle.auditing.proofs.TakingLemmas.{fate_is, takes, takes_other}
use Rattle.auditing.proofs.TallyLemmas.{lost_are, lost_counted, starts_hart}
use Rattle.auditing.specs.Audits.{AuditsHart, number_after}
use Rattle.auditing.specs.Fates.{fate_of, true_ones}
use Rattle.auditing.specs.Findings.{greatest_number, skips_in, skips_of}
use Rattle.auditing.specs.HartRows.{is_below, lost_below}
use Rattle.auditing.specs.Judged.{Judged, fates_counted, is_fate, judged_behind, judged_one}
use Rattle.auditing.specs.Ledger.{HartLedger}
use Rattle.auditing.specs.Losing.{lost_numbers}
use Rattle.auditing.specs.Sent.{AreInTurn}
use Rattle.auditing.specs.declared.fate.Fate.{Fate}
use Rattle.auditing.specs.declared.fate.Fate.TheVariants as fate
use Rattle.auditing.specs.steps.Indexing.{fresh, payloads_of}
use Rattle.auditing.specs.Unset.{lost_in}
use Rattle.auditing.specs.steps.Taking.{counted, fate_by, fate_in, finding_at, hart_after}

-- A flag is set.
abbrev is_set : Bool → Bool
is_set flag = flag

-- How many flags are set.
abbrev set_in : List Bool → ℕ
set_in flags = count_by is_set flags

-- One flag more is set.
set-more : (flags : List Bool) (place : ℕ) → place < length flags → get_or flags place false ≡ false
    → set_in (set flags place true) ≡ set_in flags + 1
set-more flags place within unset =
    let both = sum_by-set (λ flag. cond (is_set flag) 1 0) flags place true false within in
    let before = ap (λ b. set_in (set flags place true) + cond b 1 0) unset in
    sym (add-zero (set_in (set flags place true))) ∙ sym before ∙ both

-- Flags are set or not.
set_or_not : (flags : List Bool) → count_by not flags + set_in flags ≡ length flags
set_or_not [] = refl
set_or_not (flag ∷ flags) =
    let rest = set_or_not flags in
    let unset = sum_by-cons (λ b. cond (not b) 1 0) flag flags in
    let are_set = sum_by-cons (λ b. cond (is_set b) 1 0) flag flags in
    go flag (count_by not flags) (set_in flags) (count_by not (flag ∷ flags)) (set_in (flag ∷ flags)) (length flags) rest
    unset are_set
  where
    go : (b : Bool) (n s m t l : ℕ) → n + s ≡ l → m ≡ cond (not b) 1 0 + n → t ≡ cond (is_set b) 1 0 + s → m + t ≡ suc l
    go true n s m t l rest a b = omega (arith, rest, a, b)
    go false n s m t l rest a b = omega (arith, rest, a, b)

-- Where none is set, none is counted.
none_set : (marks : List Bool) → ((place : ℕ) → get_or marks place false ≡ false) → set_in marks ≡ 0
none_set [] none = refl
none_set (mark ∷ marks) none =
    sum_by-cons (λ b. cond (is_set b) 1 0) mark marks
    ∙ ap (λ b. cond b 1 0 + set_in marks) (none 0)
    ∙ zero-add (set_in marks)
    ∙ none_set marks (λ place. none (suc place))

-- The lost numbers below the greatest, and the numbers that came, are all up to the greatest: those from a start on.
below_and_set : (start greatest : ℕ) (flags : List Bool)
    → ((place : ℕ) → greatest < start + place → get_or flags place false ≡ false)
    → ((place : ℕ) → start + place ≡ greatest → get_or flags place false ≡ true)
    → length (filter (λ number. ltb number greatest) (lost_in start flags)) + set_in flags ≡ (greatest + 1) - start
below_and_set start greatest [] above at = go (cases_lt greatest start)
  where
    go : (greatest < start) ⊎ (start ≤ greatest) → 0 ≡ (greatest + 1) - start
    go (inl past) = omega (arith, past)
    go (inr within) =
        absurd (true≢false (sym (at (greatest - start) (omega (arith, within)))))
below_and_set start greatest (flag ∷ flags) above at =
    go flag refl
    (below_and_set (start + 1) greatest flags (λ place past. above (suc place) (omega (arith, past)))
    (λ place is. at (suc place) (omega (arith, is))))
    (sum_by-cons (λ b. cond (is_set b) 1 0) flag flags)
  where
    go : (b : Bool) → flag ≡ b
        → length (filter (λ number. ltb number greatest) (lost_in (start + 1) flags)) + set_in flags
        ≡ (greatest + 1) - (start + 1)
        → set_in (flag ∷ flags) ≡ cond (is_set flag) 1 0 + set_in flags
        → length (filter (λ number. ltb number greatest) (lost_in start (b ∷ flags))) + set_in (b ∷ flags)
        ≡ (greatest + 1) - start
    go true is rest counted =
        let within : start ≤ greatest = low (cases_lt greatest start) in
        let one = ap (λ b. set_in (b ∷ flags)) (sym is) ∙ counted ∙ ap (λ b. cond (is_set b) 1 0 + set_in flags) is in
        omega (arith, rest, one, within)
      where
        low : (greatest < start) ⊎ (start ≤ greatest) → start ≤ greatest
        low (inl past) = absurd (true≢false (sym is ∙ above 0 (omega (arith, past))))
        low (inr within) = within
    go false is rest counted =
        let one = ap (λ b. set_in (b ∷ flags)) (sym is) ∙ counted ∙ ap (λ b. cond (is_set b) 1 0 + set_in flags) is in
        at_start (ltb start greatest) refl (cases_lt start greatest) one
      where
        at_start : (b : Bool) → ltb start greatest ≡ b → (start < greatest) ⊎ (greatest ≤ start)
            → set_in (false ∷ flags) ≡ 0 + set_in flags
            → length (cond b (start ∷ filter (λ number. ltb number greatest) (lost_in (start + 1) flags))
            (filter (λ number. ltb number greatest) (lost_in (start + 1) flags))) + set_in (false ∷ flags) ≡ (greatest + 1) - start
        at_start true low (inl within) one = omega (arith, rest, one, within)
        at_start true low (inr past) one = absurd (true≢false (sym low ∙ le-ltb start greatest past))
        at_start false low (inl within) one = absurd (true≢false (sym (lt-ltb start greatest within) ∙ low))
        at_start false low (inr past) one =
            let differs : start ≡ greatest → ⊥ =
            λ same. true≢false (sym (at 0 (add-zero start ∙ same)) ∙ is) in
            let over : greatest < start = above_it (cases_lt greatest start) differs in
            omega (arith, rest, one, over)
          where
            above_it : (greatest < start) ⊎ (start ≤ greatest) → (start ≡ greatest → ⊥) → greatest < start
            above_it (inl over) differs = over
            above_it (inr low) differs = absurd (differs (omega (arith, low, past)))

-- How many messages of a hart have a fate, with one more.
fate-own : (sent received : List Message) (message : Message) (its fate : Fate) → fate_of sent received message ≡ its
    → fates_counted sent (received ++ message ∷ []) message.hart fate
    ≡ fates_counted sent received message.hart fate + cond (is_fate fate its) 1 0
fate-own sent received message its fate is =
    counted-next (λ (one : Judged). eqb one.message.hart message.hart && is_fate fate one.fate) sent received message
    ∙ ap (λ b. fates_counted sent received message.hart fate + cond (b && is_fate fate (fate_of sent received message))
    1 0) (eq-eqb message.hart message.hart refl)
    ∙ ap (λ f. fates_counted sent received message.hart fate + cond (is_fate fate f) 1 0) is

fate-other : (sent received : List Message) (message : Message) (hart : ℕ) (fate : Fate) → message.hart ≢ hart
    → fates_counted sent (received ++ message ∷ []) hart fate ≡ fates_counted sent received hart fate
fate-other sent received message hart fate other =
    counted-next (λ (one : Judged). eqb one.message.hart hart && is_fate fate one.fate) sent received message
    ∙ ap (λ b. fates_counted sent received hart fate + cond (b && is_fate fate (fate_of sent received message)) 1 0)
    (ne_eqb message.hart hart other)
    ∙ add-zero (fates_counted sent received hart fate)

-- What is kept of a hart, what it counts, and which flags are set.
record AddsUp (sent received : List Message) (hart : ℕ) : Type 0 where
  own : HartLedger
  stands : AuditsHart sent received hart own
  long : length own.came ≡ length own.payloads
  skips : skips_in sent received hart + fates_counted sent received hart fate.InOrder ≡ own.past
  came : set_in own.came
      ≡ fates_counted sent received hart fate.InOrder + fates_counted sent received hart fate.Late
  above : (place : ℕ) → own.past ≤ place → get_or own.came place false ≡ false
  last : (place : ℕ) → own.past ≡ suc place → get_or own.came place false ≡ true

-- No flag is set at first.
unset : (payloads : List (List ℕ)) (place : ℕ) → get_or (map (λ (payload : List ℕ). false) payloads) place false ≡ false
unset [] place = refl
unset (payload ∷ payloads) zero = refl
unset (payload ∷ payloads) (suc place) = unset payloads place

-- Before the first message.
adds_none : (harts hart : ℕ) (sent : List Message) → AreInTurn harts [] sent → AddsUp sent [] hart
adds_none harts hart sent turn =
    let payloads = payloads_of (of_hart hart sent) in record {
      own = fresh payloads;
      stands = starts_hart harts hart sent turn;
      long = length-map payloads _;
      skips = refl;
      came = none_set (map (λ (payload : List ℕ). false) payloads) (unset payloads);
      above = λ place past. unset payloads place;
      last = λ place never. cc;
    }

-- A message of another hart changes nothing.
adds_other : (sent received : List Message) (message : Message) (hart : ℕ) → message.hart ≢ hart
    → AddsUp sent received hart → AddsUp sent (received ++ message ∷ []) hart
adds_other sent received message hart other has =
    let in_order = fate-other sent received message hart fate.InOrder other in
    let late = fate-other sent received message hart fate.Late other in record {
      own = has.own;
      stands = takes_other sent received message hart has.own other has.stands;
      long = has.long;
      skips = (λ i. skips-other sent received message hart other i + in_order i) ∙ has.skips;
      came = has.came ∙ (λ i. sym in_order i + sym late i);
      above = has.above;
      last = has.last;
    }

-- The fate of a message whose number SENT has, by three tests: it is true; a true one came before; a greater one did.
abbrev chosen : Bool → Bool → Bool → Fate
chosen same again greater = cond (not same) fate.Changed (cond again fate.Repeat (cond greater fate.Late fate.InOrder))

module _ (sent received : List Message) (message : Message) (has : AddsUp sent received message.hart) where
  abbrev own : HartLedger
  own = has.own

  abbrev number : ℕ
  number = message.number

  abbrev more : List Message
  more = received ++ message ∷ []

  -- How many were in order and late, and how many numbers were skipped.
  abbrev in_order : ℕ
  in_order = fates_counted sent received message.hart fate.InOrder

  abbrev late : ℕ
  late = fates_counted sent received message.hart fate.Late

  -- What is kept after a message of this fate.
  kept : (its : Fate) → fate_of sent received message ≡ its
      → AuditsHart sent more message.hart (hart_after own number its)
  kept its is =
      subst (λ f. AuditsHart sent more message.hart (hart_after own number f)) is
      (takes sent received message own has.stands)

  skips_are : (its : Fate) (by : ℕ) → fate_of sent received message ≡ its
      → skips_of (finding_at its own.past number) ≡ by
      → skips_in sent more message.hart ≡ skips_in sent received message.hart + by
  skips_are its by is by_is =
      skips-own sent received message its own.past is has.stands.past_is
      ∙ ap (λ n. skips_in sent received message.hart + n) by_is

  -- A message that is neither in order nor late.
  plain : (its : Fate) → fate_of sent received message ≡ its
      → is_fate fate.InOrder its ≡ false → is_fate fate.Late its ≡ false
      → skips_of (finding_at its own.past number) ≡ 0
      → hart_after own number its ≡ record own { counts = counted own.counts its }
      → AddsUp sent more message.hart
  plain its is not_in_order not_late none after =
      let ordered : fates_counted sent more message.hart fate.InOrder ≡ in_order =
      fate-own sent received message its fate.InOrder is ∙ ap (λ b. in_order + cond b 1 0) not_in_order
      ∙ add-zero in_order in
      let lates : fates_counted sent more message.hart fate.Late ≡ late =
      fate-own sent received message its fate.Late is ∙ ap (λ b. late + cond b 1 0) not_late ∙ add-zero late in
      let skipped : skips_in sent more message.hart ≡ skips_in sent received message.hart =
      skips_are its 0 is none ∙ add-zero (skips_in sent received message.hart) in record {
        own = record own { counts = counted own.counts its };
        stands = subst (AuditsHart sent more message.hart) after (kept its is);
        long = has.long;
        skips = (λ i. skipped i + ordered i) ∙ has.skips;
        came = has.came ∙ (λ i. sym ordered i + sym lates i);
        above = has.above;
        last = has.last;
      }

  module _ (within : number < length own.came) (unset : get_or own.came number false ≡ false) where
    -- One flag more is set.
    one_more_set : set_in (set own.came number true) ≡ set_in own.came + 1
    one_more_set = set-more own.came number within unset

    -- A late one.
    is_late : fate_of sent received message ≡ fate.Late → number + 1 < own.past → AddsUp sent more message.hart
    is_late is low =
        let ordered : fates_counted sent more message.hart fate.InOrder ≡ in_order =
        fate-own sent received message fate.Late fate.InOrder is ∙ add-zero in_order in
        let lates : fates_counted sent more message.hart fate.Late ≡ late + 1 =
        fate-own sent received message fate.Late fate.Late is in
        let skipped : skips_in sent more message.hart ≡ skips_in sent received message.hart =
        skips_are fate.Late 0 is refl ∙ add-zero (skips_in sent received message.hart) in
        let before = has.came in
        let one = one_more_set in record {
          own = hart_after own number fate.Late;
          stands = kept fate.Late is;
          long = length-set own.came number true ∙ has.long;
          skips = (λ i. skipped i + ordered i) ∙ has.skips;
          came = omega (arith, ordered, lates, before, one);
          above = λ place past.
              get_or-set_other own.came number place true false (λ same. omega (arith, same, past, low))
              ∙ has.above place past;
          last = λ place at.
              get_or-set_other own.came number place true false (λ same. omega (arith, same, at, low))
              ∙ has.last place at;
        }

    -- One in order.
    is_in_order : fate_of sent received message ≡ fate.InOrder → own.past ≤ number → AddsUp sent more message.hart
    is_in_order is high =
        let ordered : fates_counted sent more message.hart fate.InOrder ≡ in_order + 1 =
        fate-own sent received message fate.InOrder fate.InOrder is in
        let lates : fates_counted sent more message.hart fate.Late ≡ late =
        fate-own sent received message fate.InOrder fate.Late is ∙ add-zero late in
        let skipped = skips_are fate.InOrder (number - own.past) is refl in
        let before = has.came in
        let sum = has.skips in
        let one = one_more_set in record {
          own = hart_after own number fate.InOrder;
          stands = kept fate.InOrder is;
          long = length-set own.came number true ∙ has.long;
          skips = omega (arith, ordered, skipped, sum, high);
          came = omega (arith, ordered, lates, before, one);
          above = λ place past.
              get_or-set_other own.came number place true false (λ same. omega (arith, same, past))
              ∙ has.above place (omega (arith, past, high));
          last = λ place at.
              ap (λ p. get_or (set own.came number true) p false) (let same : place ≡ number = omega (arith, at) in same)
              ∙ get_or-set_same own.came number true false within;
        }

  -- One more message of the hart.
  adds_own : AddsUp sent more message.hart
  adds_own = found (slice_get own.payloads number) refl
    where
      is : (its : Fate) → fate_in by.Bytes own number message.payload ≡ its → fate_of sent received message ≡ its
      is its at = sym (fate_is sent received message own has.stands) ∙ at

      found : (o : Option (List ℕ)) → slice_get own.payloads number ≡ o → AddsUp sent more message.hart
      found None none =
          plain fate.Stranger (is fate.Stranger (ap (fate_by by.Bytes own number message.payload) none)) refl refl refl refl
      found (Some payload) some =
          tested (bytes_eq message.payload payload) (get_or own.came number false) (ltb (number + 1) own.past) refl refl
          refl
        where
          within : number < length own.came
          within =
              let inside = slice_get_within own.payloads number payload some in
              let long = has.long in
              omega (arith, inside, long)

          by_tests : (same again greater : Bool) → bytes_eq message.payload payload ≡ same
              → get_or own.came number false ≡ again → ltb (number + 1) own.past ≡ greater
              → fate_of sent received message ≡ chosen same again greater
          by_tests same again greater a b c =
              is (chosen same again greater)
              (ap (fate_by by.Bytes own number message.payload) some ∙ (λ i. chosen (a i) (b i) (c i)))

          tested : (same again greater : Bool) → bytes_eq message.payload payload ≡ same
              → get_or own.came number false ≡ again → ltb (number + 1) own.past ≡ greater
              → AddsUp sent more message.hart
          tested false again greater a b c =
              plain fate.Changed (by_tests false again greater a b c) refl refl refl refl
          tested true true greater a b c =
              plain fate.Repeat (by_tests true true greater a b c) refl refl refl refl
          tested true false true a b c =
              is_late within b (by_tests true false true a b c) (ltb-true (number + 1) own.past c)
          tested true false false a b c =
              is_in_order within b (by_tests true false false a b c)
              (high (ltb-false (number + 1) own.past c)
              (λ same. true≢false (sym (has.last number same) ∙ b)))
            where
              high : own.past ≤ number + 1 → (own.past ≡ suc number → ⊥) → own.past ≤ number
              high most differs = at (cases_lt number own.past)
                where
                  at : (number < own.past) ⊎ (own.past ≤ number) → own.past ≤ number
                  at (inl low) = absurd (differs (omega (arith, low, most)))
                  at (inr high) = high

-- All messages.
adds_all : (sent : List Message) (hart : ℕ) (before messages : List Message) → AddsUp sent before hart
    → AddsUp sent (before ++ messages) hart
adds_all sent hart before [] has = subst (λ l. AddsUp sent l hart) (sym (append-nil before)) has
adds_all sent hart before (message ∷ messages) has =
    subst (λ l. AddsUp sent l hart) (append_assoc before (message ∷ []) messages)
    (adds_all sent hart (before ++ message ∷ []) messages (go (eqb message.hart hart) refl))
  where
    go : (own : Bool) → eqb message.hart hart ≡ own → AddsUp sent (before ++ message ∷ []) hart
    go true is =
        let same = eqb-true message.hart hart is in
        subst (AddsUp sent (before ++ message ∷ [])) same
        (adds_own sent before message (subst (AddsUp sent before) (sym same) has))
    go false is = adds_other sent before message hart (eqb-false message.hart hart is) has

adds_up : (harts hart : ℕ) (sent received : List Message) → AreInTurn harts [] sent → AddsUp sent received hart
adds_up harts hart sent received turn = adds_all sent hart [] received (adds_none harts hart sent turn)

-- Each number that was sent is lost, or came in order or late.
pub sent_adds : (harts hart : ℕ) (sent received : List Message) → AreInTurn harts [] sent
    → length (of_hart hart sent)
    ≡ length (lost_numbers sent received hart) + fates_counted sent received hart fate.InOrder
    + fates_counted sent received hart fate.Late
sent_adds harts hart sent received turn =
    let has = adds_up harts hart sent received turn in
    let all = set_or_not has.own.came in
    let long = ap length has.stands.came ∙ length-map (of_hart hart sent) _ in
    let lost = lost_counted sent received hart has.own has.stands in
    let came = has.came in
    omega (arith, all, long, lost, came)

-- How many of these messages of a hart have a fate.
abbrev counted_in : ℕ → Fate → List Judged → ℕ
counted_in hart its all = count_by (λ (one : Judged). eqb one.message.hart hart && is_fate its one.fate) all

-- Each message that came has one fate.
one_fate : (own : Bool) (its : Fate) (message : Message) (others : List Message) (i l r c s i' l' r' c' s' : ℕ)
    → i' ≡ cond (own && is_fate fate.InOrder its) 1 0 + i
    → l' ≡ cond (own && is_fate fate.Late its) 1 0 + l
    → r' ≡ cond (own && is_fate fate.Repeat its) 1 0 + r
    → c' ≡ cond (own && is_fate fate.Changed its) 1 0 + c
    → s' ≡ cond (own && is_fate fate.Stranger its) 1 0 + s
    → length others ≡ i + l + r + c + s
    → length (cond own (message ∷ others) others) ≡ i' + l' + r' + c' + s'
one_fate false its message others i l r c s i' l' r' c' s' a b d e f sum = omega (arith, a, b, d, e, f, sum)
one_fate true fate.Stranger message others i l r c s i' l' r' c' s' a b d e f sum = omega (arith, a, b, d, e, f, sum)
one_fate true fate.Changed message others i l r c s i' l' r' c' s' a b d e f sum = omega (arith, a, b, d, e, f, sum)
one_fate true fate.Repeat message others i l r c s i' l' r' c' s' a b d e f sum = omega (arith, a, b, d, e, f, sum)
one_fate true fate.Late message others i l r c s i' l' r' c' s' a b d e f sum = omega (arith, a, b, d, e, f, sum)
one_fate true fate.InOrder message others i l r c s i' l' r' c' s' a b d e f sum = omega (arith, a, b, d, e, f, sum)

came_by : (hart : ℕ) (sent before messages : List Message)
    → length (of_hart hart messages)
    ≡ counted_in hart fate.InOrder (judged_behind sent before messages)
    + counted_in hart fate.Late (judged_behind sent before messages)
    + counted_in hart fate.Repeat (judged_behind sent before messages)
    + counted_in hart fate.Changed (judged_behind sent before messages)
    + counted_in hart fate.Stranger (judged_behind sent before messages)
came_by hart sent before [] = refl
came_by hart sent before (message ∷ messages) =
    let rest = judged_behind sent (before ++ message ∷ []) messages in
    one_fate (eqb message.hart hart) (fate_of sent before message) message (of_hart hart messages)
    (counted_in hart fate.InOrder rest) (counted_in hart fate.Late rest) (counted_in hart fate.Repeat rest)
    (counted_in hart fate.Changed rest) (counted_in hart fate.Stranger rest) _ _ _ _ _
    (split fate.InOrder) (split fate.Late) (split fate.Repeat) (split fate.Changed) (split fate.Stranger)
    (came_by hart sent (before ++ message ∷ []) messages)
  where
    split : (f : Fate)
        → counted_in hart f (judged_one sent before message ∷ judged_behind sent (before ++ message ∷ []) messages)
        ≡ cond (eqb message.hart hart && is_fate f (fate_of sent before message)) 1 0
        + counted_in hart f (judged_behind sent (before ++ message ∷ []) messages)
    split f =
        sum_by-cons (λ (one : Judged). cond (eqb one.message.hart hart && is_fate f one.fate) 1 0)
        (judged_one sent before message) (judged_behind sent (before ++ message ∷ []) messages)

pub came_adds : (hart : ℕ) (sent received : List Message)
    → length (of_hart hart received)
    ≡ fates_counted sent received hart fate.InOrder + fates_counted sent received hart fate.Late
    + fates_counted sent received hart fate.Repeat + fates_counted sent received hart fate.Changed
    + fates_counted sent received hart fate.Stranger
came_adds hart sent received = came_by hart sent [] received

-- What was sent and is not lost is what came and is no repeat, not changed and no stranger.
pub balances : (harts hart : ℕ) (sent received : List Message) → AreInTurn harts [] sent
    → length (of_hart hart sent) - length (lost_numbers sent received hart)
    ≡ length (of_hart hart received) - fates_counted sent received hart fate.Repeat
    - fates_counted sent received hart fate.Changed - fates_counted sent received hart fate.Stranger
balances harts hart sent received turn =
    let was_sent = sent_adds harts hart sent received turn in
    let came = came_adds hart sent received in
    omega (arith, was_sent, came)

-- The numbers that are skipped are the late ones and those that are lost below the greatest.
pub skips_add : (harts hart : ℕ) (sent received : List Message) → AreInTurn harts [] sent
    → skips_in sent received hart
    ≡ fates_counted sent received hart fate.Late + length (lost_below sent received hart)
skips_add harts hart sent received turn =
    let has = adds_up harts hart sent received turn in
    let skips = has.skips in
    let came = has.came in
    let below = below_are has (greatest_number (true_ones sent received) hart) has.stands.past_is in
    omega (arith, skips, came, below)
  where
    below_are : (has : AddsUp sent received hart) (greatest : Option ℕ) → has.own.past ≡ number_after greatest
        → length (filter (is_below greatest) (lost_numbers sent received hart)) + set_in has.own.came ≡ has.own.past
    below_are has None past =
        let none = none_set has.own.came (λ place. has.above place (omega (arith, past))) in
        ap (λ n. length (filter (is_below None) (lost_numbers sent received hart)) + n) none
        ∙ ap (λ n. n + 0) (filters_none (lost_numbers sent received hart))
        ∙ sym past
      where
        filters_none : (numbers : List ℕ) → length (filter (is_below None) numbers) ≡ 0
        filters_none [] = refl
        filters_none (number ∷ numbers) = filters_none numbers
    below_are has (Some greatest) past =
        ap (λ numbers. length (filter (λ number. ltb number greatest) numbers) + set_in has.own.came)
        (sym (lost_are sent received hart has.own has.stands))
        ∙ below_and_set 0 greatest has.own.came
        (λ place above. has.above place (omega (arith, past, above)))
        (λ place at. has.last place (omega (arith, past, at)))
        ∙ minus_zero (greatest + 1)
        ∙ sym past
      where
        minus_zero : (n : ℕ) → n - 0 ≡ n
        minus_zero n = omega arith
