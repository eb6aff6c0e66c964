-- How many of a hart's messages are treated in a way, by the rows of its numbers.
use Rattle.std.proofs.Common.{◌≡◌, ◌⊎◌, inl, inr, ℕ, zero, suc, ◌+◌, ◌<◌, ◌≤◌, Bool, true, false, cond, List}
use Rattle.std.proofs.Common.{[], ◌∷◌, Some, length, slice_get, take, refl, sym, ap, subst, ◌∙◌, arith}
use Rattle.std.specs.Prelude.{count_by}
use Rattle.std.proofs.lemmas.Bool.{cases_lt}
use Rattle.std.proofs.lemmas.List.Elements.{All-contains}
use Rattle.std.proofs.lemmas.List.Sums.{sum_by-cons}
use Rattle.std.proofs.lemmas.Option.{same_Some, slice_get_within}
use Rattle.message.proofs.Elements.{slice_get-some}
use Rattle.message.specs.declared.message.Message.{Message}
use Rattle.losses.specs.Apart.{AreRising}
use Rattle.losses.specs.WholeStretches.{NumberCame}
use Rattle.salvaging.specs.Entries.{Entry, Used, Doubtful, AreEntries, IsEntryOf, IsUsed, entry_number}
use Rattle.salvaging.specs.Treatments.{IsTreated, Row, copy, own_row, rows}
use Rattle.salvaging.specs.declared.treatment.Treated.{Treated}
use Rattle.salvaging.specs.declared.treatment.Treatment.{Treatment}
use Rattle.salvaging.proofs.MarkedPlaces.{before_it, rows_least}
use Rattle.salvaging.proofs.Members.{IsIn, contains_of_in, in_of_contains}
use Rattle.salvaging.proofs.NoRepeats.{NoRepeat, no_more, rising_no_repeat}
use Rattle.salvaging.proofs.OneHart.{in_at}
use Rattle.salvaging.proofs.OrderedEntries.{Rise, rise_least}
use Rattle.salvaging.proofs.RisingNumbers.{AreAmong}
use Rattle.salvaging.proofs.TreatedAt.{in_front}

-- One more where a test is true.
pub count_cons : {X : Type 0} (p : X → Bool) (x : X) (xs : List X) → count_by p (x ∷ xs)
    ≡ cond (p x) (suc (count_by p xs)) (count_by p xs)
count_cons {X} p x xs = sum_by-cons (λ y. cond (p y) 1 0) x xs ∙ by_test (p x)
  where
    by_test : (b : Bool) → cond b 1 0 + count_by p xs ≡ cond b (suc (count_by p xs)) (count_by p xs)
    by_test true = omega arith
    by_test false = omega arith

-- What is done with each of a hart's messages, by the rows of its numbers.
pub record AreTreatedBy (messages : List Message) (all : List Row) (treated : List Treated) : Type 0 where
  pub long : length treated ≡ length messages
  pub each : (k : ℕ) (message : Message) (one : Treated) → slice_get messages k ≡ Some message
      → slice_get treated k ≡ Some one → IsTreated messages all k message one

-- Rows have different numbers.
pub one_row : (far : Entry → Bool) (from : ℕ) (entries : List Entry) (treatments : List Treatment) → Rise from entries
    → (row other : Row)
    → IsIn row (rows far entries treatments) → IsIn other (rows far entries treatments) → row.number ≡ other.number
    → row ≡ other
one_row far from [] treatments rises row other one two same = absurd one
one_row far from (entry ∷ entries) [] rises row other one two same = absurd one
one_row far from (entry ∷ entries) (first ∷ treatments) rises row other (inl is) (inl too) same = is ∙ sym too
one_row far from (entry ∷ entries) (first ∷ treatments) rises row other (inl is) (inr two) same =
    let above = rows_least far (entry_number entry + 1) entries treatments rises.1 other two in
    let own = ap (λ (r : Row). r.number) is in
    absurd (omega (arith, above, own, same))
one_row far from (entry ∷ entries) (first ∷ treatments) rises row other (inr one) (inl too) same =
    let above = rows_least far (entry_number entry + 1) entries treatments rises.1 row one in
    let own = ap (λ (r : Row). r.number) too in
    absurd (omega (arith, above, own, same))
one_row far from (entry ∷ entries) (first ∷ treatments) rises row other (inr one) (inr two) same =
    one_row far (entry_number entry + 1) entries treatments rises.1 row other one two same

-- No doubtful number passes a test.
abbrev pub NoneDoubtful : (Treated → Bool) → List Entry → List Treatment → Type 0
NoneDoubtful p [] treatments = Unit {0}
NoneDoubtful p (entry ∷ entries) [] = Unit {0}
NoneDoubtful p (Used number place payload ∷ entries) (one ∷ treatments) = NoneDoubtful p entries treatments
NoneDoubtful p (Doubtful number first second ∷ entries) (one ∷ treatments) =
    (p (record { treatment = one; far = false; late = false }) ≡ false) × NoneDoubtful p entries treatments

module _ (p : Treated → Bool) (far : Entry → Bool) where
  -- The places of those that pass a test, the first of which is at this place.
  abbrev pub places_of : ℕ → List Treated → List ℕ
  places_of at [] = []
  places_of at (one ∷ treated) = cond (p one) (at ∷ places_of (suc at) treated) (places_of (suc at) treated)

  places_counted : (at : ℕ) (treated : List Treated) → length (places_of at treated) ≡ count_by p treated
  places_counted at [] = refl
  places_counted at (one ∷ treated) =
      by_test (p one) (places_counted (suc at) treated) ∙ sym (count_cons p one treated)
    where
      by_test : (b : Bool) → length (places_of (suc at) treated) ≡ count_by p treated
          → length (cond b (at ∷ places_of (suc at) treated) (places_of (suc at) treated))
          ≡ cond b (suc (count_by p treated)) (count_by p treated)
      by_test true same = ap suc same
      by_test false same = same

  places_rise : (at from : ℕ) (treated : List Treated) → from ≤ at → AreRising from (places_of at treated)
  places_rise at from [] least = tt
  places_rise at from (one ∷ treated) least =
      by_test (p one) (places_rise (suc at) (at + 1) treated (omega arith))
      (places_rise (suc at) from treated (omega (arith, least)))
    where
      by_test : (b : Bool) → AreRising (at + 1) (places_of (suc at) treated)
          → AreRising from (places_of (suc at) treated)
          → AreRising from (cond b (at ∷ places_of (suc at) treated) (places_of (suc at) treated))
      by_test true above same = (least, above)
      by_test false above same = same

  -- One at a place passes the test.
  abbrev PassesAt : ℕ → List Treated → ℕ → Type 0
  PassesAt at treated place =
      (k : ℕ) × (one : Treated) × (place ≡ at + k) × (slice_get treated k ≡ Some one) × (p one ≡ true)

  passes_there : (at : ℕ) (treated : List Treated) (place : ℕ) → NumberCame place (places_of at treated)
      → PassesAt at treated place
  passes_there at [] place came = absurd came
  passes_there at (one ∷ treated) place came = by_test (p one) refl (passes_there (suc at) treated place) came
    where
      behind : PassesAt (suc at) treated place → PassesAt at (one ∷ treated) place
      behind (k, other, is, here, passes) = (suc k, other, omega (arith, is), here, passes)

      by_test : (b : Bool) → p one ≡ b
          → (NumberCame place (places_of (suc at) treated) → PassesAt (suc at) treated place)
          → NumberCame place (cond b (at ∷ places_of (suc at) treated) (places_of (suc at) treated))
          → PassesAt at (one ∷ treated) place
      by_test true passes again (inl is) = (0, one, omega (arith, is), refl, passes)
      by_test true passes again (inr later) = behind (again later)
      by_test false fails again later = behind (again later)

  there_passes : (at : ℕ) (treated : List Treated) (k : ℕ) (one : Treated) → slice_get treated k ≡ Some one
      → p one ≡ true → NumberCame (at + k) (places_of at treated)
  there_passes at [] k one here passes = cc
  there_passes at (first ∷ treated) zero one here passes =
      let same : p first ≡ true = ap p (same_Some first one here) ∙ passes in
      let is : at + 0 ≡ at = omega arith in
      subst (λ b. NumberCame (at + 0) (cond b (at ∷ places_of (suc at) treated) (places_of (suc at) treated)))
      (sym same) (inl is)
  there_passes at (first ∷ treated) (suc k) one here passes =
      let next : suc at + k ≡ at + suc k = omega arith in
      by_test (p first) (subst (λ n. NumberCame n (places_of (suc at) treated)) next
      (there_passes (suc at) treated k one here passes))
    where
      by_test : (b : Bool) → NumberCame (at + suc k) (places_of (suc at) treated)
          → NumberCame (at + suc k) (cond b (at ∷ places_of (suc at) treated) (places_of (suc at) treated))
      by_test true later = inr later
      by_test false later = later

  -- The place of an entry's first message.
  abbrev place_of : Entry → ℕ
  place_of (Used number place payload) = place
  place_of (Doubtful number first second) = first

  -- The places of the entries whose rows pass the test.
  abbrev used_places : List Entry → List Treatment → List ℕ
  used_places [] treatments = []
  used_places (entry ∷ entries) [] = []
  used_places (entry ∷ entries) (one ∷ treatments) =
      cond (p (own_row far entry entries one treatments).treated)
      (place_of entry ∷ used_places entries treatments) (used_places entries treatments)

  rows_counted : (entries : List Entry) (treatments : List Treatment)
      → length (used_places entries treatments) ≡ count_by (λ (row : Row). p row.treated) (rows far entries treatments)
  rows_counted [] treatments = refl
  rows_counted (entry ∷ entries) [] = refl
  rows_counted (entry ∷ entries) (one ∷ treatments) =
      by_test (p (own_row far entry entries one treatments).treated) (rows_counted entries treatments)
      ∙ sym (count_cons (λ (row : Row). p row.treated) (own_row far entry entries one treatments)
      (rows far entries treatments))
    where
      by_test : (b : Bool) → length (used_places entries treatments)
          ≡ count_by (λ (row : Row). p row.treated) (rows far entries treatments)
          → length (cond b (place_of entry ∷ used_places entries treatments) (used_places entries treatments))
          ≡ cond b (suc (count_by (λ (row : Row). p row.treated) (rows far entries treatments)))
          (count_by (λ (row : Row). p row.treated) (rows far entries treatments))
      by_test true same = ap suc same
      by_test false same = same

  -- The entry of a row that passes the test, and the row of an entry at such a place.
  pub record HasUsed (entries : List Entry) (treatments : List Treatment) (row : Row) (place : ℕ) : Type 0 where
    pub payload : List ℕ
    pub among : IsIn (Used row.number place payload) entries
    pub row_among : IsIn row (rows far entries treatments)
    pub place_among : NumberCame place (used_places entries treatments)
    pub passes : p row.treated ≡ true

  used_later : (entry : Entry) (entries : List Entry) (one : Treatment) (treatments : List Treatment) (row : Row)
      (place : ℕ) → HasUsed entries treatments row place → HasUsed (entry ∷ entries) (one ∷ treatments) row place
  used_later entry entries one treatments row place has = record {
    payload = has.payload;
    among = inr has.among;
    row_among = inr has.row_among;
    place_among = by_test (p (own_row far entry entries one treatments).treated);
    passes = has.passes;
  }
    where
      by_test : (b : Bool) → NumberCame place
          (cond b (place_of entry ∷ used_places entries treatments) (used_places entries treatments))
      by_test true = inr has.place_among
      by_test false = has.place_among

  used_here : (entry : Entry) (entries : List Entry) (one : Treatment) (treatments : List Treatment)
      → NoneDoubtful p (entry ∷ entries) (one ∷ treatments)
      → p (own_row far entry entries one treatments).treated ≡ true
      → HasUsed (entry ∷ entries) (one ∷ treatments) (own_row far entry entries one treatments) (place_of entry)
  used_here (Used number place payload) entries one treatments none passes = record {
    payload = payload;
    among = inl refl;
    row_among = inl refl;
    place_among =
        subst (λ b. NumberCame place (cond b (place ∷ used_places entries treatments) (used_places entries treatments)))
        (sym passes) (inl refl);
    passes = passes;
  }
  used_here (Doubtful number first second) entries one treatments none passes =
      let never : true ≡ false = sym passes ∙ none.0 in cc

  none_later : (entry : Entry) (entries : List Entry) (one : Treatment) (treatments : List Treatment)
      → NoneDoubtful p (entry ∷ entries) (one ∷ treatments) → NoneDoubtful p entries treatments
  none_later (Used number place payload) entries one treatments none = none
  none_later (Doubtful number first second) entries one treatments none = none.1

  by_row : (entries : List Entry) (treatments : List Treatment) → NoneDoubtful p entries treatments → (row : Row)
      → IsIn row (rows far entries treatments) → p row.treated ≡ true
      → (place : ℕ) × HasUsed entries treatments row place
  by_row [] treatments none row there passes = absurd there
  by_row (entry ∷ entries) [] none row there passes = absurd there
  by_row (entry ∷ entries) (one ∷ treatments) none row (inl is) passes = (
    place_of entry,
    subst (λ r. HasUsed (entry ∷ entries) (one ∷ treatments) r (place_of entry)) (sym is)
        (used_here entry entries one treatments none (sym (ap (λ (r : Row). p r.treated) is) ∙ passes)),
  )
  by_row (entry ∷ entries) (one ∷ treatments) none row (inr there) passes =
      let found = by_row entries treatments (none_later entry entries one treatments none) row there passes in
      (found.0, used_later entry entries one treatments row found.0 found.1)

  by_place : (entries : List Entry) (treatments : List Treatment) → NoneDoubtful p entries treatments → (place : ℕ)
      → NumberCame place (used_places entries treatments) → (row : Row) × HasUsed entries treatments row place
  by_place [] treatments none place came = absurd came
  by_place (entry ∷ entries) [] none place came = absurd came
  by_place (entry ∷ entries) (one ∷ treatments) none place came =
      by_test (p (own_row far entry entries one treatments).treated) refl
      (by_place entries treatments (none_later entry entries one treatments none) place) came
    where
      behind : (row : Row) × HasUsed entries treatments row place
          → (row : Row) × HasUsed (entry ∷ entries) (one ∷ treatments) row place
      behind found = (found.0, used_later entry entries one treatments found.0 place found.1)

      by_test : (b : Bool) → p (own_row far entry entries one treatments).treated ≡ b
          → (NumberCame place (used_places entries treatments) → (row : Row) × HasUsed entries treatments row place)
          → NumberCame place (cond b (place_of entry ∷ used_places entries treatments) (used_places entries treatments))
          → (row : Row) × HasUsed (entry ∷ entries) (one ∷ treatments) row place
      by_test true passes again (inl is) = (
        own_row far entry entries one treatments,
        subst (λ n. HasUsed (entry ∷ entries) (one ∷ treatments) (own_row far entry entries one treatments) n) (sym is)
            (used_here entry entries one treatments none passes),
      )
      by_test true passes again (inr later) = behind (again later)
      by_test false fails again later = behind (again later)

  module _ (messages : List Message) (entries : List Entry) (treatments : List Treatment)
      (are : AreEntries messages entries) (none : NoneDoubtful p entries treatments) where
    used_of : (number place : ℕ) (payload : List ℕ) → IsIn (Used number place payload) entries
        → IsUsed messages number place payload
    used_of number place payload there =
        All-contains (IsEntryOf messages) entries (Used number place payload) are.each
        (contains_of_in entries (Used number place payload) there)

    -- Different entries have different places.
    no_repeat : (from : ℕ) (some : List Entry) (done : List Treatment) → Rise from some → NoneDoubtful p some done
        → ((entry : Entry) → IsIn entry some → IsIn entry entries) → NoRepeat (used_places some done)
    no_repeat from [] done rises fails among = tt
    no_repeat from (entry ∷ some) [] rises fails among = tt
    no_repeat from (entry ∷ some) (one ∷ done) rises fails among =
        by_test (p (own_row far entry some one done).treated) refl
        (no_repeat (entry_number entry + 1) some done rises.1 (none_later entry some one done fails)
        (λ other there. among other (inr there)))
      where
        apart : p (own_row far entry some one done).treated ≡ true
            → ¬ NumberCame (place_of entry) (used_places some done)
        apart passes came =
            let own = used_here entry some one done fails passes in
            let found = by_place some done (none_later entry some one done fails) (place_of entry) came in
            let mine = used_of (entry_number entry) (place_of entry) own.payload
            (among (Used (entry_number entry) (place_of entry) own.payload) own.among) in
            let other = used_of found.0.number (place_of entry) found.1.payload
            (among (Used found.0.number (place_of entry) found.1.payload) (inr found.1.among)) in
            let same = same_Some mine.message other.message (sym mine.here ∙ other.here) in
            let number = sym mine.number_here ∙ ap (λ (m : Message). m.number) same ∙ other.number_here in
            let above = rise_least (entry_number entry + 1) some rises.1
            (Used found.0.number (place_of entry) found.1.payload) found.1.among in
            omega (arith, number, above)

        by_test : (b : Bool) → p (own_row far entry some one done).treated ≡ b → NoRepeat (used_places some done)
            → NoRepeat (cond b (place_of entry ∷ used_places some done) (used_places some done))
        by_test true passes rest = (apart passes, rest)
        by_test false fails_it rest = rest

    module _ (treated : List Treated) (by : AreTreatedBy messages (rows far entries treatments) treated)
        (fails : p copy ≡ false) where
      -- One that passes the test is the first message of its entry.
      passing_used : AreAmong (places_of 0 treated) (used_places entries treatments)
      passing_used place came =
          let found = passes_there 0 treated place came in
          let k = found.0 in
          let one = found.1 in
          let within = slice_get_within treated k one found.3 in
          let long = by.long in
          let at = slice_get-some messages k (omega (arith, within, long)) in
          let is : place ≡ k = let same = found.2 in omega (arith, same) in
          subst (λ n. NumberCame n (used_places entries treatments)) (sym is)
          (by_treated k at.0 one at.1 found.4 (by.each k at.0 one at.1 found.3))
        where
          by_treated : (k : ℕ) (message : Message) (one : Treated) → slice_get messages k ≡ Some message
              → p one ≡ true → IsTreated messages (rows far entries treatments) k message one
              → NumberCame k (used_places entries treatments)
          by_treated k message one here passes (inl copied) =
              let never : true ≡ false = sym passes ∙ ap p copied.1 ∙ fails in cc
          by_treated k message one here passes (inr (first, contains)) =
              let row : Row = record { number = message.number; treated = one } in
              let found = by_row entries treatments none row
              (in_of_contains (rows far entries treatments) row contains) passes in
              let used = used_of message.number found.0 found.1.payload found.1.among in
              let payload = All-contains (λ (m : Message). m.number ≡ message.number → m.payload ≡ found.1.payload)
              messages message used.alone (contains_of_in messages message (in_at messages k message here)) refl in
              subst (λ n. NumberCame n (used_places entries treatments))
              (one_place found.0 used payload (cases_lt k found.0) (cases_lt found.0 k)) found.1.place_among
            where
              one_place : (place : ℕ) {bytes : List ℕ} → IsUsed messages message.number place bytes
                  → message.payload ≡ bytes → (k < place) ⊎ (place ≤ k) → (place < k) ⊎ (k ≤ place) → place ≡ k
              one_place place used payload (inl below) other = absurd (used.first k message below here refl)
              one_place place used payload (inr upto) (inl below) =
                  absurd (first (
                    used.message,
                    contains_of_in (take k messages) used.message
                        (in_front messages k place used.message used.here below),
                    (sym used.number_here, payload ∙ sym used.payload_here),
                  ))
              one_place place used payload (inr upto) (inr least) = omega (arith, upto, least)

      -- And the first message of an entry whose row passes it does.
      used_passing : AreAmong (used_places entries treatments) (places_of 0 treated)
      used_passing place came =
          let found = by_place entries treatments none place came in
          let row = found.0 in
          let used = used_of row.number place found.1.payload found.1.among in
          let within = slice_get_within messages place used.message used.here in
          let long = by.long in
          let at = slice_get-some treated place (omega (arith, within, long)) in
          let zero_on : 0 + place ≡ place = omega arith in
          subst (λ n. NumberCame n (places_of 0 treated)) zero_on
          (there_passes 0 treated place at.0 at.1
          (by_treated row found.1 used at.0 (by.each place used.message at.0 used.here at.1)))
        where
          by_treated : (row : Row) (has : HasUsed entries treatments row place)
              (used : IsUsed messages row.number place has.payload) (one : Treated)
              → IsTreated messages (rows far entries treatments) place used.message one → p one ≡ true
          by_treated row has used one (inl ((like, contains, alike), is)) =
              let before = before_it place messages like
              (in_of_contains (take place messages) like contains) in
              absurd (used.first before.0 like before.1 before.2 (sym alike.0 ∙ used.number_here))
          by_treated row has used one (inr (first, contains)) =
              let own : Row = record { number = used.message.number; treated = one } in
              let same = one_row far 0 entries treatments are.rising own row
              (in_of_contains (rows far entries treatments) own contains) has.row_among used.number_here in
              ap (λ (r : Row). p r.treated) same ∙ has.passes

      -- So as many messages pass the test as rows do.
      pub as_many : count_by p treated ≡ count_by (λ (row : Row). p row.treated) (rows far entries treatments)
      as_many =
          let few = no_more (places_of 0 treated) (used_places entries treatments)
          (rising_no_repeat 0 (places_of 0 treated) (places_rise 0 0 treated (omega arith))) passing_used in
          let many = no_more (used_places entries treatments) (places_of 0 treated)
          (no_repeat 0 entries treatments are.rising none (λ entry there. there)) used_passing in
          let one = places_counted 0 treated in
          let other = rows_counted entries treatments in
          omega (arith, few, many, one, other)
