-- Whether a hart is whole, as an audit counts it.
use Rattle.std.proofs.Common.{◌≡◌, ℕ, ◌+◌, ◌^◌, ◌<◌, ◌≤◌, map, Bool, true, false, cond, eqb, List, [], ◌∷◌}
use Rattle.std.proofs.Common.{length, refl, sym, ap, ◌∙◌, arith}
use Rattle.std.specs.Bool.{Decides}
use Rattle.std.specs.Prelude.{◌&&◌, not}
use Rattle.std.specs.List.{count_by, list_any, range_with_len}
use Rattle.std.specs.Str.{bytes_eq}
use Rattle.std.proofs.lemmas.Bool.{and_from, and_parts, eq-eqb, eqb-true, or_from, or_parts, true≢false}
use Rattle.std.proofs.lemmas.Bool.Decides.{same_from_decides}
use Rattle.std.proofs.lemmas.List.{length-map, nil_from_length}
use Rattle.std.proofs.lemmas.List.Sums.{sum_by-cons}
use Rattle.std.proofs.lemmas.Slice.Eq.{bytes_eq-Decides, slice_eq-Decides}
use Rattle.message.specs.OfHart.{of_hart}
use Rattle.message.specs.declared.message.Message.{Message}
use Rattle.auditing.proofs.Moves.{exchanged_is}
use Rattle.auditing.proofs.TallyLemmas.{came_exact, fates_exact, lost_counted, runs_are}
use Rattle.auditing.proofs.WholeLemmas.{same_again, untouched}
use Rattle.auditing.specs.Audits.{AuditsHart, capped, counts_of}
use Rattle.auditing.specs.Exchanged.{first_exchanged, moved}
use Rattle.auditing.specs.Fates.{is_same}
use Rattle.auditing.specs.HartRows.{longest_of, row_of}
use Rattle.auditing.specs.Judged.{Judged, fates_counted, is_fate, judged}
use Rattle.auditing.specs.Ledger.{HartLedger}
use Rattle.auditing.specs.Losing.{lost_numbers}
use Rattle.auditing.specs.Tallies.{is_whole, tally_of}
use Rattle.auditing.specs.Untouched.{IsUntouched, is_touched}
use Rattle.auditing.specs.declared.fate.Fate.{Fate}
use Rattle.auditing.specs.declared.fate.Fate.TheVariants as fate
use Rattle.auditing.specs.declared.tally.Counts.{Counts}
use Rattle.auditing.specs.steps.Taking.{is_whole_by, row_in, tally_in}

-- Messages with the same hart, number and payload are equal.
same-Decides : (a b : Message) → Decides (is_same a b) (a ≡ b)
same-Decides a b = (one_way, other_way)
  where
    one_way : is_same a b ≡ true → a ≡ b
    one_way is =
        let parts = and_parts (eqb b.hart a.hart && eqb b.number a.number) (bytes_eq a.payload b.payload) is in
        let numbers = and_parts (eqb b.hart a.hart) (eqb b.number a.number) parts.0 in
        let hart = sym (eqb-true b.hart a.hart numbers.0) in
        let number = sym (eqb-true b.number a.number numbers.1) in
        let payload = (bytes_eq-Decides a.payload b.payload).0 parts.1 in
        λ i. record { hart = hart i; number = number i; payload = payload i }

    other_way : a ≡ b → is_same a b ≡ true
    other_way same =
        and_from _ _
        (and_from _ _ (eq-eqb b.hart a.hart (ap (λ (m : Message). m.hart) (sym same)))
        (eq-eqb b.number a.number (ap (λ (m : Message). m.number) (sym same))))
        ((bytes_eq-Decides a.payload b.payload).1 (ap (λ (m : Message). m.payload) same))

-- A hart is whole exactly where what came of it is the list that was sent.
pub whole-Decides : (sent received : List Message) (hart : ℕ)
    → Decides (is_whole sent received hart) (of_hart hart received ≡ of_hart hart sent)
whole-Decides sent received hart =
    slice_eq-Decides same-Decides (of_hart hart received) (of_hart hart sent) (is_whole sent received hart) refl

-- A message of the hart has this fate.
abbrev has_fate : ℕ → Fate → Judged → Bool
has_fate hart fate one = eqb one.message.hart hart && is_fate fate one.fate

-- Where none has another fate than in order, none of these is counted.
none_counted : (hart : ℕ) (its : Fate) (all : List Judged)
    → ((one : Judged) → is_touched hart one ≡ false → has_fate hart its one ≡ false)
    → list_any (is_touched hart) all ≡ false → count_by (has_fate hart its) all ≡ 0
none_counted hart its [] each none = refl
none_counted hart its (one ∷ all) each none =
    let parts = or_parts (is_touched hart one) (list_any (is_touched hart) all) none in
    sum_by-cons (λ (j : Judged). cond (has_fate hart its j) 1 0) one all
    ∙ ap (λ b. cond b 1 0 + count_by (has_fate hart its) all) (each one parts.0)
    ∙ ap (λ n. 0 + n) (none_counted hart its all each parts.1)

-- What is not touched has none of these fates.
not_fate : (its : Fate) → is_fate fate.InOrder its ≡ false → (hart : ℕ) (one : Judged) → is_touched hart one ≡ false
    → has_fate hart its one ≡ false
not_fate its other hart one none = go (eqb one.message.hart hart) one.fate its other none
  where
    go : (own : Bool) (f its : Fate) → is_fate fate.InOrder its ≡ false → (own && not (is_fate fate.InOrder f)) ≡ false
        → (own && is_fate its f) ≡ false
    go false f its other none = refl
    go true fate.Stranger its other none = absurd (true≢false none)
    go true fate.Changed its other none = absurd (true≢false none)
    go true fate.Repeat its other none = absurd (true≢false none)
    go true fate.Late its other none = absurd (true≢false none)
    go true fate.InOrder fate.Stranger other none = refl
    go true fate.InOrder fate.Changed other none = refl
    go true fate.InOrder fate.Repeat other none = refl
    go true fate.InOrder fate.Late other none = refl
    go true fate.InOrder fate.InOrder other none = absurd (true≢false other)

-- Where none of these fates is counted, nothing is touched.
none_touched_by : (hart : ℕ) (all : List Judged)
    → count_by (has_fate hart fate.Stranger) all ≡ 0 → count_by (has_fate hart fate.Changed) all ≡ 0
    → count_by (has_fate hart fate.Repeat) all ≡ 0 → count_by (has_fate hart fate.Late) all ≡ 0
    → list_any (is_touched hart) all ≡ false
none_touched_by hart [] a b c d = refl
none_touched_by hart (one ∷ all) a b c d =
    or_from (is_touched hart one) (list_any (is_touched hart) all)
    (go (eqb one.message.hart hart) one.fate (first fate.Stranger a) (first fate.Changed b) (first fate.Repeat c)
    (first fate.Late d))
    (none_touched_by hart all (rest fate.Stranger a) (rest fate.Changed b) (rest fate.Repeat c) (rest fate.Late d))
  where
    split : (its : Fate) → count_by (has_fate hart its) (one ∷ all) ≡ 0
        → cond (has_fate hart its one) 1 0 + count_by (has_fate hart its) all ≡ 0
    split its none = sym (sum_by-cons (λ (j : Judged). cond (has_fate hart its j) 1 0) one all) ∙ none

    rest : (its : Fate) → count_by (has_fate hart its) (one ∷ all) ≡ 0 → count_by (has_fate hart its) all ≡ 0
    rest its none = let both = split its none in omega (arith, both)

    first : (its : Fate) → count_by (has_fate hart its) (one ∷ all) ≡ 0 → has_fate hart its one ≡ false
    first its none = at (has_fate hart its one) (split its none)
      where
        at : (b : Bool) → cond b 1 0 + count_by (has_fate hart its) all ≡ 0 → b ≡ false
        at true both = absurd (omega (arith, both))
        at false both = refl

    go : (own : Bool) (f : Fate) → (own && is_fate fate.Stranger f) ≡ false → (own && is_fate fate.Changed f) ≡ false
        → (own && is_fate fate.Repeat f) ≡ false → (own && is_fate fate.Late f) ≡ false
        → (own && not (is_fate fate.InOrder f)) ≡ false
    go false f a b c d = refl
    go true fate.Stranger a b c d = a
    go true fate.Changed a b c d = b
    go true fate.Repeat a b c d = c
    go true fate.Late a b c d = d
    go true fate.InOrder a b c d = refl

module _ (sent received : List Message) (hart : ℕ) (own : HartLedger) (stands : AuditsHart sent received hart own)
    (few : length received < 2 ^ 64) where
  -- What is counted is exact.
  field_is : (field : Counts → ℕ) → field own.counts ≡ field (counts_of sent received hart)
  field_is field = ap field stands.counts

  came_is : own.counts.came ≡ length (of_hart hart received)
  came_is = field_is (λ (c : Counts). c.came) ∙ came_exact received hart few

  strange_is : own.counts.strange ≡ fates_counted sent received hart fate.Stranger
  strange_is = field_is (λ (c : Counts). c.strange) ∙ fates_exact sent received hart fate.Stranger few

  changed_is : own.counts.changed ≡ fates_counted sent received hart fate.Changed
  changed_is = field_is (λ (c : Counts). c.changed) ∙ fates_exact sent received hart fate.Changed few

  repeated_is : own.counts.repeated ≡ fates_counted sent received hart fate.Repeat
  repeated_is = field_is (λ (c : Counts). c.repeated) ∙ fates_exact sent received hart fate.Repeat few

  late_is : own.counts.late ≡ fates_counted sent received hart fate.Late
  late_is = field_is (λ (c : Counts). c.late) ∙ fates_exact sent received hart fate.Late few

  lost_is : count_by not own.came ≡ length (lost_numbers sent received hart)
  lost_is = lost_counted sent received hart own stands

  -- All of them are 0 exactly where nothing is touched.
  counted-Decides : Decides (is_whole_by own.counts (count_by not own.came)) (of_hart hart received ≡ of_hart hart sent)
  counted-Decides = (one_way, other_way)
    where
      one_way : is_whole_by own.counts (count_by not own.came) ≡ true → of_hart hart received ≡ of_hart hart sent
      one_way is =
          let a = and_parts _ _ is in
          let b = and_parts _ _ a.0 in
          let c = and_parts _ _ b.0 in
          let d = and_parts _ _ c.0 in
          same_again sent hart own.payloads stands.payloads received (record {
            none_lost =
                nil_from_length (lost_numbers sent received hart) (sym lost_is ∙ eqb-true (count_by not own.came) 0 d.0);
            in_order =
                none_touched_by hart (judged sent received)
                (sym strange_is ∙ eqb-true own.counts.strange 0 d.1)
                (sym changed_is ∙ eqb-true own.counts.changed 0 c.1)
                (sym repeated_is ∙ eqb-true own.counts.repeated 0 b.1)
                (sym late_is ∙ eqb-true own.counts.late 0 a.1);
          })

      none : (its : Fate) → is_fate fate.InOrder its ≡ false → IsUntouched sent received hart
          → fates_counted sent received hart its ≡ 0
      none its other is = none_counted hart its (judged sent received) (not_fate its other hart) is.in_order

      other_way : of_hart hart received ≡ of_hart hart sent → is_whole_by own.counts (count_by not own.came) ≡ true
      other_way same =
          let is = untouched sent hart own.payloads stands.payloads received same in
          and_from _ _
          (and_from _ _
          (and_from _ _
          (and_from _ _
          (eq-eqb (count_by not own.came) 0 (lost_is ∙ ap length is.none_lost))
          (eq-eqb own.counts.strange 0 (strange_is ∙ none fate.Stranger refl is)))
          (eq-eqb own.counts.changed 0 (changed_is ∙ none fate.Changed refl is)))
          (eq-eqb own.counts.repeated 0 (repeated_is ∙ none fate.Repeat refl is)))
          (eq-eqb own.counts.late 0 (late_is ∙ none fate.Late refl is))

  whole_is : is_whole_by own.counts (count_by not own.came) ≡ is_whole sent received hart
  whole_is = same_from_decides _ _ counted-Decides (whole-Decides sent received hart)

  -- The tally is the one of the definition.
  pub tally_is : tally_in own ≡ tally_of sent received hart
  tally_is = λ i. record {
    sent = sent_is i;
    came = came_is i;
    lost = lost_is i;
    repeated = repeated_is i;
    late = late_is i;
    changed = changed_is i;
    whole = whole_is i;
  }
    where
      sent_is : length own.came ≡ length (of_hart hart sent)
      sent_is = ap length stands.came ∙ length-map (of_hart hart sent) _

  -- The row is the one of the definition, by the counts that are kept.
  pub row_is : (harts : ℕ) → ((other : ℕ) → harts ≤ other → of_hart other sent ≡ [])
      → row_in own (map (λ other. capped (moved sent received hart other)) (range_with_len 0 harts))
      ≡ row_of sent received hart
  row_is harts others = λ i. record {
    tally = tally_is i;
    strange = strange_is i;
    runs = length (runs_are sent received hart own stands i);
    longest = longest_of (runs_are sent received hart own stands i);
    latest = stands.latest i;
    exchanged =
        ((λ j. first_exchanged 0 (changed_is j + strange_is j)
        (map (λ other. capped (moved sent received hart other)) (range_with_len 0 harts)))
        ∙ exchanged_is sent received hart harts others few) i;
  }
