-- A text that is cut where a record may start has the records of its two parts.
use Rattle.std.proofs.Common.{◌≡◌, ◌==◌, ◌++◌, ◌∙◌, Bool, ℕ, List, [], ◌∷◌, true, false, refl}
use Rattle.std.proofs.Common.{sym, ap}
use Rattle.std.proofs.Common.{inl, inr}
use Rattle.std.proofs.lemmas.Bool.{cases_Bool, eqb-true}
use Rattle.csv.specs.Machine.{field_after, fields_after, is_end, next_record, step}
use Rattle.csv.specs.Reading.{default_config}
use Rattle.csv.specs.declared.parser.State.{State}
use Rattle.csv.specs.declared.parser.State.TheVariants as st
use Rattle.retire.specs.PlainText.{is_line_end}
use Rattle.retire.specs.steps.Place.{next_place, place_after}
use Rattle.retire.specs.steps.RowsLeft.{MayStartRecord, records_left}
use Rattle.retire.specs.declared.boundary.Place.{Place}
use Rattle.retire.specs.declared.boundary.Place.TheVariants as place
use Rattle.retire.proofs.PlainLemmas.{left-byte, left-end, left-within, records_within}
use Rattle.retire.proofs.RecordsLemmas.{records_left-none, step-end}

-- The place of a state of the machine. Two states do not come with the settings that are used.
abbrev place_of : State → Place
place_of st.StartRecord = place.Start
place_of st.AfterCr = place.Start
place_of st.StartField = place.Field
place_of st.InField = place.Inside
place_of st.InQuoted = place.Quoted
place_of st.AfterQuote = place.Quote
place_of st.InEscape = place.Quoted
place_of st.InComment = place.Inside

abbrev comes : State → Bool
comes st.StartRecord = true
comes st.AfterCr = true
comes st.StartField = true
comes st.InField = true
comes st.InQuoted = true
comes st.AfterQuote = true
comes st.InEscape = false
comes st.InComment = false

-- What holds of the four bytes with a meaning and of any other holds of each byte.
by_byte : (P : ℕ → Type 0) → P 10 → P 13 → P 34 → P 44
    → ((c : ℕ) → (c == 10) ≡ false → (c == 13) ≡ false → (c == 34) ≡ false → (c == 44) ≡ false → P c) → (c : ℕ) → P c
by_byte P feed return quote comma others c = elim (cases_Bool (c == 10)) [
  | inl y ↦ rw (eqb-true c 10 y) feed
  | inr n10 ↦ elim (cases_Bool (c == 13)) [
    | inl y ↦ rw (eqb-true c 13 y) return
    | inr n13 ↦ elim (cases_Bool (c == 34)) [
      | inl y ↦ rw (eqb-true c 34 y) quote
      | inr n34 ↦ elim (cases_Bool (c == 44)) [
        | inl y ↦ rw (eqb-true c 44 y) comma
        | inr n44 ↦ others c n10 n13 n34 n44
      ]
    ]
  ]
]

-- The machine goes from place to place.
abbrev Goes : State → ℕ → Type 0
Goes s c =
    (place_of (step default_config s c).0 ≡ next_place (place_of s) c) × (comes (step default_config s c).0 ≡ true)

goes : (s : State) (c : ℕ) → comes s ≡ true → Goes s c
goes st.StartRecord c k =
    by_byte (Goes st.StartRecord) (refl, refl) (refl, refl) (refl, refl) (refl, refl)
    (λ b f r q m. rw (f, r, q, m) (refl, refl)) c
goes st.AfterCr c k =
    by_byte (Goes st.AfterCr) (refl, refl) (refl, refl) (refl, refl) (refl, refl)
    (λ b f r q m. rw (f, r, q, m) (refl, refl)) c
goes st.StartField c k =
    by_byte (Goes st.StartField) (refl, refl) (refl, refl) (refl, refl) (refl, refl)
    (λ b f r q m. rw (f, r, q, m) (refl, refl)) c
goes st.InField c k =
    by_byte (Goes st.InField) (refl, refl) (refl, refl) (refl, refl) (refl, refl)
    (λ b f r q m. rw (f, r, m) (refl, refl)) c
goes st.InQuoted c k =
    by_byte (Goes st.InQuoted) (refl, refl) (refl, refl) (refl, refl) (refl, refl)
    (λ b f r q m. rw q (refl, refl)) c
goes st.AfterQuote c k =
    by_byte (Goes st.AfterQuote) (refl, refl) (refl, refl) (refl, refl) (refl, refl)
    (λ b f r q m. rw (f, r, q, m) (refl, refl)) c
goes st.InEscape c k = cc k
goes st.InComment c k = cc k

-- A byte that ends no record and leads to where one may start is passed over there.
abbrev Passes : State → ℕ → Type 0
Passes s c =
    is_end (step default_config s c).1 ≡ false → place_of (step default_config s c).0 ≡ place.Start
    → (place_of s ≡ place.Start) × ((fields : List (List ℕ)) (field : List ℕ)
    → (fields_after (step default_config s c).1 fields field ≡ fields)
    × (field_after (step default_config s c).1 c field ≡ field))

passes : (s : State) (c : ℕ) → comes s ≡ true → Passes s c
passes st.StartRecord c k =
    by_byte (Passes st.StartRecord) (λ e p. (refl, λ x y. (refl, refl))) (λ e p. (refl, λ x y. (refl, refl)))
    (λ e p. cc p) (λ e p. cc p)
    (λ b f r q m. λ e p. (let h = rw (f, r, q, m) at p in cc h)) c
passes st.AfterCr c k =
    by_byte (Passes st.AfterCr) (λ e p. (refl, λ x y. (refl, refl))) (λ e p. (refl, λ x y. (refl, refl)))
    (λ e p. cc p) (λ e p. cc p)
    (λ b f r q m. λ e p. (let h = rw (f, r, q, m) at p in cc h)) c
passes st.StartField c k =
    by_byte (Passes st.StartField) (λ e p. cc e) (λ e p. cc e) (λ e p. cc p) (λ e p. cc p)
    (λ b f r q m. λ e p. (let h = rw (f, r, q, m) at p in cc h)) c
passes st.InField c k =
    by_byte (Passes st.InField) (λ e p. cc e) (λ e p. cc e) (λ e p. cc p) (λ e p. cc p)
    (λ b f r q m. λ e p. (let h = rw (f, r, m) at p in cc h)) c
passes st.InQuoted c k =
    by_byte (Passes st.InQuoted) (λ e p. cc p) (λ e p. cc p) (λ e p. cc p) (λ e p. cc p)
    (λ b f r q m. λ e p. (let h = rw q at p in cc h)) c
passes st.AfterQuote c k =
    by_byte (Passes st.AfterQuote) (λ e p. cc e) (λ e p. cc e) (λ e p. cc p) (λ e p. cc p)
    (λ b f r q m. λ e p. (let h = rw (f, r, q, m) at p in cc h)) c
passes st.InEscape c k = cc k
passes st.InComment c k = cc k

starts : (s : State) → comes s ≡ true → place_of s ≡ place.Start → MayStartRecord s
starts st.StartRecord k p = inl refl
starts st.AfterCr k p = inr refl
starts st.StartField k p = cc p
starts st.InField k p = cc p
starts st.InQuoted k p = cc p
starts st.AfterQuote k p = cc p
starts st.InEscape k p = cc k
starts st.InComment k p = cc k

-- Where a record may start, the records are the same in either state.
pub left-any : (s : State) (text : List ℕ) → MayStartRecord s → records_left s text ≡ records_left st.StartRecord text
unfolding next_record
left-any s [] (inl e) = rw e refl
left-any s [] (inr e) = rw e (records_left-none st.AfterCr [] refl ∙ sym (records_left-none st.StartRecord [] refl))
left-any s (c ∷ text) start = elim (cases_Bool (is_line_end c)) [
  | inl y ↦ left-within s (c ∷ text) start ∙ left-end c text s start y
      ∙ sym (left-end c text st.StartRecord (inl refl) y) ∙ sym (left-within st.StartRecord (c ∷ text) (inl refl))
  | inr n ↦ left-within s (c ∷ text) start ∙ left-byte c text s start n
      ∙ sym (left-byte c text st.StartRecord (inl refl) n) ∙ sym (left-within st.StartRecord (c ∷ text) (inl refl))
]

-- The record at hand ends with this byte, or goes on behind it.
within-end : (s : State) (c : ℕ) (text : List ℕ) (fields : List (List ℕ)) (field : List ℕ)
    → is_end (step default_config s c).1 ≡ true
    → records_within s fields field (c ∷ text)
    ≡ fields_after (step default_config s c).1 fields field ∷ records_left (step default_config s c).0 text
unfolding next_record
within-end s c text fields field e = rw e refl

within-on : (s : State) (c : ℕ) (text : List ℕ) (fields : List (List ℕ)) (field : List ℕ)
    → is_end (step default_config s c).1 ≡ false
    → records_within s fields field (c ∷ text)
    ≡ records_within (step default_config s c).0 (fields_after (step default_config s c).1 fields field)
    (field_after (step default_config s c).1 c field) text
unfolding next_record
within-on s c text fields field e = rw e refl

pub left-none : records_left st.StartRecord [] ≡ []
unfolding next_record
left-none = records_left-none st.StartRecord [] refl

abbrev Empty : Place → List (List ℕ) → List ℕ → Type 0
Empty at fields field = at ≡ place.Start → (fields ≡ []) × (field ≡ [])

empty-after : (s : State) (c : ℕ) (fields : List (List ℕ)) (field : List ℕ) → comes s ≡ true
    → is_end (step default_config s c).1 ≡ false → Empty (place_of s) fields field
    → Empty (place_of (step default_config s c).0) (fields_after (step default_config s c).1 fields field)
    (field_after (step default_config s c).1 c field)
empty-after s c fields field k e none = λ p.
    let (start, same) = passes s c k e p in
    let (x, y) = same fields field in
    let (a, b) = none start in
    (x ∙ a, y ∙ b)

within-split : (a b : List ℕ) (s : State) (fields : List (List ℕ)) (field : List ℕ) → comes s ≡ true
    → place_after (place_of s) a ≡ place.Start → Empty (place_of s) fields field
    → records_within s fields field (a ++ b) ≡ records_within s fields field a ++ records_left st.StartRecord b
unfolding place_after
within-split [] b s fields field k p none =
    let (x, y) = none p in
    let start = starts s k p in
    rw (x, y) (sym (left-within s b start) ∙ left-any s b start
    ∙ ap (λ t. t ++ records_left st.StartRecord b) (sym (sym (left-within s [] start) ∙ left-any s [] start
    ∙ left-none)))
within-split (c ∷ a) b s fields field k p none = elim (cases_Bool (is_end (step default_config s c).1)) [
  | inl e ↦
      let next = (step default_config s c).0 in
      let at = goes s c k in
      let start = step-end s c e in
      let more = within-split a b next [] [] at.1 (rw at.0 p) (λ q. (refl, refl)) in
      within-end s c (a ++ b) fields field e
      ∙ ap (λ t. fields_after (step default_config s c).1 fields field ∷ t)
      (left-within next (a ++ b) start ∙ more
      ∙ ap (λ t. t ++ records_left st.StartRecord b) (sym (left-within next a start)))
      ∙ ap (λ t. t ++ records_left st.StartRecord b) (sym (within-end s c a fields field e))
  | inr e ↦
      let at = goes s c k in
      within-on s c (a ++ b) fields field e
      ∙ within-split a b (step default_config s c).0 _ _ at.1 (rw at.0 p) (empty-after s c fields field k e none)
      ∙ ap (λ t. t ++ records_left st.StartRecord b) (sym (within-on s c a fields field e))
]

-- A text that is cut where a record may start.
pub left-split : (a b : List ℕ) → place_after place.Start a ≡ place.Start
    → records_left st.StartRecord (a ++ b) ≡ records_left st.StartRecord a ++ records_left st.StartRecord b
left-split a b p =
    left-within st.StartRecord (a ++ b) (inl refl)
    ∙ within-split a b st.StartRecord [] [] refl p (λ q. (refl, refl))
    ∙ ap (λ t. t ++ records_left st.StartRecord b) (sym (left-within st.StartRecord a (inl refl)))
