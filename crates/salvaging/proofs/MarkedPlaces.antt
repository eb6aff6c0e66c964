-- The messages of bad, doubtful and alone numbers are treated as such.
use Rattle.std.proofs.Common.{◌≡◌, ◌≢◌, ◌⊎◌, inl, inr, ℕ, zero, suc, ◌+◌, ◌<◌, ◌≤◌, All, List, []}
use Rattle.std.proofs.Common.{◌∷◌, Bool, Some, map, refl, sym, ap, subst, ◌∙◌, arith, slice_get, take}
use Rattle.std.proofs.lemmas.List.Elements.{All-append, All-cons, All-contains, All-head, All-nil, All-tail}
use Rattle.std.proofs.lemmas.Option.{same_Some}
use Rattle.message.specs.declared.message.Message.{Message}
use Rattle.salvaging.specs.AlikeParts.{AreAlikeParts, AreAlikeReasons}
use Rattle.salvaging.specs.Copies.{HasLike}
use Rattle.salvaging.specs.Entries.{AreEntries, Entry, Used, Doubtful, IsEntryOf, IsDoubtful, entry_number}
use Rattle.salvaging.specs.LeftParts.{LeftPart, Missing, Events, BadNumber, DoubtfulNumber, AloneNumber}
use Rattle.salvaging.specs.Shares.{Share, Adds, Passes, Spoils, StandsAlone, Doubts}
use Rattle.salvaging.specs.TreatedParts.{IsBadFor, IsMarkedAt, IsTreatedSo, mark_of, marks_in, marks_of}
use Rattle.salvaging.specs.Treatments.{IsTreated, Row, rows, treatment_of}
use Rattle.salvaging.specs.declared.reason.Reason.{Reason}
use Rattle.salvaging.specs.declared.reason.Reason.TheVariants as reason
use Rattle.salvaging.specs.declared.treatment.Treated.{Treated}
use Rattle.salvaging.specs.declared.treatment.Treatment.{Treatment}
use Rattle.salvaging.specs.declared.treatment.Treatment.TheVariants as treatment
use Rattle.salvaging.proofs.Members.{IsIn, contains_of_in, in_of_contains}
use Rattle.salvaging.proofs.OrderedEntries.{Rise, rise_least}

-- The entry does this.
abbrev pub IsPair : Entry → Share → List Entry → List Share → Type 0
IsPair entry share [] shares = ⊥
IsPair entry share (first ∷ entries) [] = ⊥
IsPair entry share (first ∷ entries) (one ∷ shares) =
    ((entry ≡ first) × (share ≡ one)) ⊎ IsPair entry share entries shares

pair_in : (entry : Entry) (share : Share) (entries : List Entry) (shares : List Share)
    → IsPair entry share entries shares → IsIn entry entries
pair_in entry share [] shares pair = absurd pair
pair_in entry share (first ∷ entries) [] pair = absurd pair
pair_in entry share (first ∷ entries) (one ∷ shares) (inl same) = inl same.0
pair_in entry share (first ∷ entries) (one ∷ shares) (inr pair) = inr (pair_in entry share entries shares pair)

-- Rows have the numbers of their entries.
pub rows_least : (far : Entry → Bool) (from : ℕ) (entries : List Entry) (treatments : List Treatment)
    → Rise from entries → (row : Row)
    → IsIn row (rows far entries treatments) → from ≤ row.number
rows_least far from [] treatments rises row one = absurd one
rows_least far from (entry ∷ entries) [] rises row one = absurd one
rows_least far from (entry ∷ entries) (first ∷ treatments) rises row (inl is) =
    let least = rises.0 in
    let same = ap (λ (r : Row). r.number) is in
    omega (arith, least, same)
rows_least far from (entry ∷ entries) (first ∷ treatments) rises row (inr one) =
    let least = rises.0 in
    let more = rows_least far (entry_number entry + 1) entries treatments rises.1 row one in
    omega (arith, least, more)

-- The row of an entry says what the entry does.
row_says : (far : Entry → Bool) (from : ℕ) (entries : List Entry) (shares : List Share) → Rise from entries
    → (row : Row) (entry : Entry)
    (share : Share) → IsIn row (rows far entries (map treatment_of shares)) → IsPair entry share entries shares
    → row.number ≡ entry_number entry → row.treated.treatment ≡ treatment_of share
row_says far from [] shares rises row entry share one pair numbered = absurd pair
row_says far from (first ∷ entries) [] rises row entry share one pair numbered = absurd pair
row_says far from (first ∷ entries) (done ∷ shares) rises row entry share (inl is) (inl same) numbered =
    ap (λ (r : Row). r.treated.treatment) is ∙ sym (ap treatment_of same.1)
row_says far from (first ∷ entries) (done ∷ shares) rises row entry share (inl is) (inr pair) numbered =
    let own = ap (λ (r : Row). r.number) is in
    let above = rise_least (entry_number first + 1) entries rises.1 entry (pair_in entry share entries shares pair) in
    absurd (omega (arith, own, numbered, above))
row_says far from (first ∷ entries) (done ∷ shares) rises row entry share (inr one) (inl same) numbered =
    let above = rows_least far (entry_number first + 1) entries (map treatment_of shares) rises.1 row one in
    let own = ap entry_number same.0 in
    absurd (omega (arith, own, numbered, above))
row_says far from (first ∷ entries) (done ∷ shares) rises row entry share (inr one) (inr pair) numbered =
    row_says far (entry_number first + 1) entries shares rises.1 row entry share one pair numbered

-- A message among the first ones has a place before.
pub before_it : (n : ℕ) (messages : List Message) (message : Message) → IsIn message (take n messages)
    → (k : ℕ) × (k < n) × (slice_get messages k ≡ Some message)
before_it zero [] message one = absurd one
before_it (suc n) [] message one = absurd one
before_it zero (first ∷ messages) message one = absurd one
before_it (suc n) (first ∷ messages) message (inl is) = (0, omega arith, ap Some (sym is))
before_it (suc n) (first ∷ messages) message (inr one) =
    let found = before_it n messages message one in
    let below = found.1 in
    (suc found.0, omega (arith, below), found.2)

module _ (far : Entry → Bool) (messages : List Message) (entries : List Entry) (shares : List Share)
    (are : AreEntries messages entries)
  where
    -- The message at a place that no other is like before it has what its entry does.
    so_treated : (entry : Entry) (share : Share) → IsPair entry share entries shares → (place : ℕ) (message : Message)
        → (treated : Treated) → IsTreated messages (rows far entries (map treatment_of shares)) place message treated
        → message.number ≡ entry_number entry → ¬ HasLike (take place messages) message
        → treated.treatment ≡ treatment_of share
    so_treated entry share pair place message treated (inl copied) numbered first = absurd (first copied.0)
    so_treated entry share pair place message treated (inr own) numbered first =
        row_says far 0 entries shares are.rising (record { number = message.number; treated = treated }) entry share
        (in_of_contains (rows far entries (map treatment_of shares))
        (record { number = message.number; treated = treated })
        own.1) pair numbered

    -- A message has none like it before it where none before it has its number, or none its payload.
    not_like : (place : ℕ) (message : Message)
        → ((before : ℕ) (other : Message) → before < place → slice_get messages before ≡ Some other
        → other.number ≡ message.number → other.payload ≢ message.payload)
        → ¬ HasLike (take place messages) message
    not_like place message apart (like, contains, alike) =
        let found = before_it place messages like (in_of_contains (take place messages) like contains) in
        apart found.0 like found.1 found.2 (sym alike.0) (sym alike.1)

    used_treated : (number place : ℕ) (payload : List ℕ) (share : Share)
        → IsPair (Used number place payload) share entries shares
        → IsTreatedSo messages (rows far entries (map treatment_of shares)) place (λ t. t ≡ treatment_of share)
    used_treated number place payload share pair message treated here is =
        let entry = Used number place payload in
        let used = All-contains (IsEntryOf messages) entries entry are.each
        (contains_of_in entries entry (pair_in entry share entries shares pair)) in
        let same = same_Some message used.message (sym here ∙ used.here) in
        let numbered = ap (λ (m : Message). m.number) same ∙ used.number_here in
        so_treated entry share pair place message treated is numbered
        (not_like place message (λ before other below at same_number payloads.
        used.first before other below at (same_number ∙ numbered)))

    doubtful_treated : (number first second : ℕ) (share : Share)
        → IsPair (Doubtful number first second) share entries shares
        → IsTreatedSo messages (rows far entries (map treatment_of shares)) first (λ t. t ≡ treatment_of share)
        × IsTreatedSo messages (rows far entries (map treatment_of shares)) second (λ t. t ≡ treatment_of share)
    doubtful_treated number first second share pair = (at_first, at_second)
      where
        entry : Entry
        entry = Doubtful number first second

        doubts : IsDoubtful messages number first second
        doubts = All-contains (IsEntryOf messages) entries entry are.each
            (contains_of_in entries entry (pair_in entry share entries shares pair))

        at_first : IsTreatedSo messages (rows far entries (map treatment_of shares)) first (λ t. t ≡ treatment_of share)
        at_first message treated here is =
            let same = same_Some message doubts.one (sym here ∙ doubts.one_here) in
            let numbered = ap (λ (m : Message). m.number) same ∙ doubts.one_number in
            so_treated entry share pair first message treated is numbered
            (not_like first message (λ before other below at same_number payloads.
            doubts.one_first before other below at (same_number ∙ numbered)))

        at_second : IsTreatedSo messages (rows far entries (map treatment_of shares)) second
            (λ t. t ≡ treatment_of share)
        at_second message treated here is =
            let same = same_Some message doubts.other (sym here ∙ doubts.other_here) in
            let numbered = ap (λ (m : Message). m.number) same ∙ doubts.other_number in
            so_treated entry share pair second message treated is numbered
            (not_like second message (λ before other below at same_number payloads.
            doubts.differ (sym (doubts.other_first before other below at (same_number ∙ numbered)) ∙ payloads
            ∙ ap (λ (m : Message). m.payload) same)))

    abbrev Marked : LeftPart → Type 0
    Marked part = IsMarkedAt messages (rows far entries (map treatment_of shares)) part

    same_reason : (why : Reason) → AreAlikeReasons why why
    same_reason (reason.Packet one) = refl
    same_reason (reason.Decode one) = (λ is. is, λ is. is)
    same_reason (reason.Closing one) = refl

    bad_by : (why : Reason) (t : Treatment) → t ≡ treatment.Bad why → IsBadFor why t
    bad_by why t is = subst (IsBadFor why) (sym is) (same_reason why)

    mark_marked : (entry : Entry) (share : Share) → IsPair entry share entries shares → All Marked (mark_of entry share)
    mark_marked (Used number place payload) (Spoils why) pair =
        All-cons Marked (BadNumber number place why) []
        (λ message treated here is.
        bad_by why treated.treatment (used_treated number place payload (Spoils why) pair message treated here is))
        (All-nil Marked)
    mark_marked (Used number place payload) StandsAlone pair =
        All-cons Marked (AloneNumber number place) [] (used_treated number place payload StandsAlone pair)
        (All-nil Marked)
    mark_marked (Used number place payload) (Adds events) pair = All-nil Marked
    mark_marked (Used number place payload) Passes pair = All-nil Marked
    mark_marked (Used number place payload) Doubts pair = All-nil Marked
    mark_marked (Doubtful number first second) Doubts pair =
        All-cons Marked (DoubtfulNumber number first second) [] (doubtful_treated number first second Doubts pair)
        (All-nil Marked)
    mark_marked (Doubtful number first second) (Adds events) pair = All-nil Marked
    mark_marked (Doubtful number first second) Passes pair = All-nil Marked
    mark_marked (Doubtful number first second) (Spoils why) pair = All-nil Marked
    mark_marked (Doubtful number first second) StandsAlone pair = All-nil Marked

    marks_marked : (some : List Entry) (done : List Share)
        → ((entry : Entry) (share : Share) → IsPair entry share some done → IsPair entry share entries shares)
        → All Marked (marks_of some done)
    marks_marked [] done among = All-nil Marked
    marks_marked (entry ∷ some) [] among = All-nil Marked
    marks_marked (entry ∷ some) (share ∷ done) among =
        All-append Marked (mark_of entry share) (marks_of some done)
        (mark_marked entry share (among entry share (inl (refl, refl))))
        (marks_marked some done (λ own does pair. among own does (inr pair)))

    -- So are those that are alike.
    reason_on : (one two three : Reason) → AreAlikeReasons one two → AreAlikeReasons two three → AreAlikeReasons one three
    reason_on (reason.Packet one) (reason.Packet two) (reason.Packet three) is too = is ∙ too
    reason_on (reason.Decode one) (reason.Decode two) (reason.Decode three) is too =
        (λ a. too.0 (is.0 a), λ a. is.1 (too.1 a))
    reason_on (reason.Closing one) (reason.Closing two) (reason.Closing three) is too = is ∙ too
    reason_on one (reason.Packet two) (reason.Decode three) is too = absurd too
    reason_on one (reason.Packet two) (reason.Closing three) is too = absurd too
    reason_on one (reason.Decode two) (reason.Packet three) is too = absurd too
    reason_on one (reason.Decode two) (reason.Closing three) is too = absurd too
    reason_on one (reason.Closing two) (reason.Packet three) is too = absurd too
    reason_on one (reason.Closing two) (reason.Decode three) is too = absurd too
    reason_on one two three is too = absurd is

    bad_on : (why other : Reason) (t : Treatment) → AreAlikeReasons why other → IsBadFor other t → IsBadFor why t
    bad_on why other (treatment.Bad fault) alike bad = reason_on why other fault alike bad
    bad_on why other t alike bad = absurd bad

    alike_marked : (left others : List LeftPart) → AreAlikeParts left others → All Marked others → All Marked left
    alike_marked [] others alike all = All-nil Marked
    alike_marked (Missing count ∷ left) (Missing other ∷ others) alike all =
        All-cons Marked (Missing count) left tt
        (alike_marked left others alike.1 (All-tail Marked (Missing other) others all))
    alike_marked (Events first last events ∷ left) (Events begun ended stretch ∷ others) alike all =
        All-cons Marked (Events first last events) left tt
        (alike_marked left others alike.3 (All-tail Marked (Events begun ended stretch) others all))
    alike_marked (BadNumber one place why ∷ left) (BadNumber other at fault ∷ others) alike all =
        All-cons Marked (BadNumber one place why) left
        (subst (λ p. IsTreatedSo messages (rows far entries (map treatment_of shares)) p (IsBadFor why)) (sym alike.1)
        (λ message treated here is. bad_on why fault treated.treatment alike.2
        (All-head Marked (BadNumber other at fault) others all message treated here is)))
        (alike_marked left others alike.3 (All-tail Marked (BadNumber other at fault) others all))
    alike_marked (DoubtfulNumber one first second ∷ left) (DoubtfulNumber other place at ∷ others) alike all =
        let head = All-head Marked (DoubtfulNumber other place at) others all in
        All-cons Marked (DoubtfulNumber one first second) left (
          subst (λ p. IsTreatedSo messages (rows far entries (map treatment_of shares)) p (λ t. t ≡ treatment.Doubtful))
              (sym alike.1) head.0,
          subst (λ p. IsTreatedSo messages (rows far entries (map treatment_of shares)) p (λ t. t ≡ treatment.Doubtful))
              (sym alike.2) head.1,
        )
        (alike_marked left others alike.3 (All-tail Marked (DoubtfulNumber other place at) others all))
    alike_marked (AloneNumber one place ∷ left) (AloneNumber other at ∷ others) alike all =
        All-cons Marked (AloneNumber one place) left
        (subst (λ p. IsTreatedSo messages (rows far entries (map treatment_of shares)) p (λ t. t ≡ treatment.Alone))
        (sym alike.1) (All-head Marked (AloneNumber other at) others all))
        (alike_marked left others alike.2 (All-tail Marked (AloneNumber other at) others all))
    alike_marked left others alike all = absurd alike

    -- And the gaps and stretches between them need nothing.
    all_marked : (parts : List LeftPart) → All Marked (marks_in parts) → All Marked parts
    all_marked [] all = All-nil Marked
    all_marked (Missing count ∷ parts) all = All-cons Marked (Missing count) parts tt (all_marked parts all)
    all_marked (Events first last events ∷ parts) all =
        All-cons Marked (Events first last events) parts tt (all_marked parts all)
    all_marked (BadNumber number place why ∷ parts) all =
        All-cons Marked (BadNumber number place why) parts
        (All-head Marked (BadNumber number place why) (marks_in parts) all)
        (all_marked parts (All-tail Marked (BadNumber number place why) (marks_in parts) all))
    all_marked (DoubtfulNumber number first second ∷ parts) all =
        All-cons Marked (DoubtfulNumber number first second) parts
        (All-head Marked (DoubtfulNumber number first second) (marks_in parts) all)
        (all_marked parts (All-tail Marked (DoubtfulNumber number first second) (marks_in parts) all))
    all_marked (AloneNumber number place ∷ parts) all =
        All-cons Marked (AloneNumber number place) parts
        (All-head Marked (AloneNumber number place) (marks_in parts) all)
        (all_marked parts (All-tail Marked (AloneNumber number place) (marks_in parts) all))

    pub marked_parts : (parts : List LeftPart) → AreAlikeParts (marks_in parts) (marks_of entries shares)
        → All Marked parts
    marked_parts parts alike =
        all_marked parts
        (alike_marked (marks_in parts) (marks_of entries shares) alike
        (marks_marked entries shares (λ entry share pair. pair)))
