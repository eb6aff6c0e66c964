-- The records of a text with no quote are its lines, each parted at its commas.
use Rattle.std.proofs.Common.{◌≡◌, ◌==◌, ◌++◌, ◌∙◌, ◌⊎◌, ℕ, List, [], ◌∷◌, true, false, not, Option, Some}
use Rattle.std.proofs.Common.{None, map, refl, sym, ap, inl, inr, append_assoc, append-nil}
use Rattle.std.specs.List.{filter, onto_first, slice_split}
use Rattle.std.proofs.lemmas.Bool.{cases_Bool, eqb-true, and_parts, not-true}
use Rattle.csv.specs.Machine.{Read, next_record}
use Rattle.csv.specs.Reading.{default_config, is_bom, records_next, strip_bom}
use Rattle.csv.specs.declared.parser.State.{State}
use Rattle.csv.specs.declared.parser.State.TheVariants as st
use Rattle.retire.specs.PlainText.{PlainIsParted, is_filled_line, is_line_end, is_plain, lines_parted, parted}
use Rattle.retire.specs.steps.RowsLeft.{MayStartRecord, records_left}
use Rattle.retire.proofs.RecordsLemmas.{records_left-none, records_left-some}

-- The records from the middle of one: its fields so far, and the bytes of the field at hand.
abbrev pub records_within : State → List (List ℕ) → List ℕ → List ℕ → List (List (List ℕ))
records_within s fields field text = records_next records_left (next_record default_config s fields field text)

within-none : (s : State) (text : List ℕ) (o : Option Read) → MayStartRecord s
    → next_record default_config s [] [] text ≡ o
    → records_left s text ≡ records_next records_left o
within-none s text None start e = records_left-none s text e
within-none s text (Some p) start e = records_left-some s text p start e

-- The records that are left are those from the start of one.
pub left-within : (s : State) (text : List ℕ) → MayStartRecord s → records_left s text ≡ records_within s [] [] text
left-within s text start = within-none s text (next_record default_config s [] [] text) start refl

-- A field's bytes so far go before the first part.
abbrev attach : List ℕ → List (List ℕ) → List (List ℕ)
attach field [] = field ∷ []
attach field (part ∷ parts) = (field ++ part) ∷ parts

-- The record at hand ends with the first line, and the other lines follow.
abbrev row : List (List ℕ) → List ℕ → List (List ℕ) → List (List (List ℕ))
row fields field [] = (fields ++ field ∷ []) ∷ []
row fields field (first ∷ others) = (fields ++ attach field (parted first)) ∷ map parted (filter is_filled_line others)

attach-nil-onto : (c : ℕ) (parts : List (List ℕ)) → attach [] (onto_first c parts) ≡ onto_first c parts
attach-nil-onto c [] = refl
attach-nil-onto c (part ∷ parts) = refl

attach-nil : (line : List ℕ) → attach [] (parted line) ≡ parted line
attach-nil [] = refl
attach-nil (c ∷ line) = elim (cases_Bool (c == 44)) [
  | inl y ↦ rw y refl
  | inr n ↦ rw n (attach-nil-onto c (parted line))
]

attach-onto : (field : List ℕ) (c : ℕ) (parts : List (List ℕ))
    → attach field (onto_first c parts) ≡ attach (field ++ c ∷ []) parts
attach-onto field c [] = refl
attach-onto field c (part ∷ parts) = ap (λ t. t ∷ parts) (sym (append_assoc field (c ∷ []) part))

-- A comma ends the field at hand.
row-comma : (fields : List (List ℕ)) (field : List ℕ) (lines : List (List ℕ))
    → row fields field (onto_first 44 lines) ≡ row (fields ++ field ∷ []) [] lines
row-comma fields field [] = rw (append-nil field, append_assoc fields (field ∷ []) ([] ∷ [])) refl
row-comma fields field (first ∷ others) =
    rw (append-nil field, attach-nil first, append_assoc fields (field ∷ []) (parted first)) refl

-- Any other byte joins it.
row-byte : (fields : List (List ℕ)) (field : List ℕ) (c : ℕ) (lines : List (List ℕ)) → (c == 44) ≡ false
    → row fields field (onto_first c lines) ≡ row fields (field ++ c ∷ []) lines
row-byte fields field c [] n = rw n refl
row-byte fields field c (first ∷ others) n = rw (n, attach-onto field c (parted first)) refl

-- A first line with a byte in it is no empty one.
row-first : (c : ℕ) (lines : List (List ℕ))
    → row [] [] (onto_first c lines) ≡ map parted (filter is_filled_line (onto_first c lines))
row-first c [] = rw (attach-nil (c ∷ [])) refl
row-first c (first ∷ others) = rw (attach-nil (c ∷ first)) refl

abbrev Within : List ℕ → Type 0
Within text =
    (s : State) (fields : List (List ℕ)) (field : List ℕ) → (s ≡ st.StartField) ⊎ (s ≡ st.InField)
    → records_within s fields field text ≡ row fields field (slice_split is_line_end text)

abbrev Left : List ℕ → Type 0
Left text = (s : State) → MayStartRecord s → records_left s text ≡ lines_parted text

left-nil : Left []
unfolding next_record
left-nil s (inl e) = records_left-none s [] (rw e refl)
left-nil s (inr e) = records_left-none s [] (rw e refl)

within-nil : Within []
unfolding next_record
within-nil s fields field (inl e) = rw (e, append-nil field, left-nil st.StartRecord (inl refl)) refl
within-nil s fields field (inr e) = rw (e, append-nil field, left-nil st.StartRecord (inl refl)) refl

-- A byte inside a record.
within-comma : (c : ℕ) (text : List ℕ) (s : State) (fields : List (List ℕ)) (field : List ℕ)
    → (s ≡ st.StartField) ⊎ (s ≡ st.InField) → (c == 34) ≡ false → (c == 44) ≡ true
    → records_within s fields field (c ∷ text) ≡ records_within st.StartField (fields ++ field ∷ []) [] text
unfolding next_record
within-comma c text s fields field (inl e) q y = rw (e, q, y) refl
within-comma c text s fields field (inr e) q y = rw (e, y) refl

within-end : (c : ℕ) (text : List ℕ) (s : State) (fields : List (List ℕ)) (field : List ℕ)
    → (s ≡ st.StartField) ⊎ (s ≡ st.InField) → (c == 34) ≡ false → (c == 44) ≡ false → is_line_end c ≡ true
    → Left text → records_within s fields field (c ∷ text) ≡ (fields ++ field ∷ []) ∷ lines_parted text
unfolding next_record
within-end c text s fields field at q n y left = elim (cases_Bool (c == 13)) [
  | inl r ↦ elim at [
    | inl e ↦ rw (e, q, n, r) (ap (λ t. (fields ++ field ∷ []) ∷ t) (left st.AfterCr (inr refl)))
    | inr e ↦ rw (e, n, r) (ap (λ t. (fields ++ field ∷ []) ∷ t) (left st.AfterCr (inr refl)))
  ]
  | inr r ↦
      let f : (c == 10) ≡ true = rw r at y in
      elim at [
        | inl e ↦ rw (e, q, n, r, f) (ap (λ t. (fields ++ field ∷ []) ∷ t) (left st.StartRecord (inl refl)))
        | inr e ↦ rw (e, n, r, f) (ap (λ t. (fields ++ field ∷ []) ∷ t) (left st.StartRecord (inl refl)))
      ]
]

within-byte : (c : ℕ) (text : List ℕ) (s : State) (fields : List (List ℕ)) (field : List ℕ)
    → (s ≡ st.StartField) ⊎ (s ≡ st.InField) → (c == 34) ≡ false → (c == 44) ≡ false → is_line_end c ≡ false
    → records_within s fields field (c ∷ text) ≡ records_within st.InField fields (field ++ c ∷ []) text
unfolding next_record
within-byte c text s fields field (inl e) q n y = rw (e, q, n, y) refl
within-byte c text s fields field (inr e) q n y = rw (e, n, y) refl

comma-no_end : (c : ℕ) → (c == 44) ≡ true → is_line_end c ≡ false
comma-no_end c y = rw (eqb-true c 44 y) refl

within-more : (c : ℕ) (text : List ℕ) → (c == 34) ≡ false → Left text → Within text → Within (c ∷ text)
within-more c text q left within s fields field at = elim (cases_Bool (c == 44)) [
  | inl y ↦
      rw (comma-no_end c y, eqb-true c 44 y)
      (within-comma 44 text s fields field at refl refl ∙ within st.StartField (fields ++ field ∷ []) [] (inl refl)
      ∙ sym (row-comma fields field (slice_split is_line_end text)))
  | inr n ↦ elim (cases_Bool (is_line_end c)) [
    | inl y ↦ rw (y, append-nil field) (within-end c text s fields field at q n y left)
    | inr m ↦
        rw m (within-byte c text s fields field at q n m ∙ within st.InField fields (field ++ c ∷ []) (inr refl)
        ∙ sym (row-byte fields field c (slice_split is_line_end text) n))
  ]
]

no_feed : (c : ℕ) → is_line_end c ≡ false → (c == 10) ≡ false
no_feed c n = elim (cases_Bool (c == 10)) [
  | inl y ↦ let h = rw (eqb-true c 10 y) at n in cc h
  | inr m ↦ m
]

no_return : (c : ℕ) → is_line_end c ≡ false → (c == 13) ≡ false
no_return c n = elim (cases_Bool (c == 13)) [
  | inl y ↦ let h = rw (eqb-true c 13 y) at n in cc h
  | inr m ↦ m
]

-- A byte where a record may start.
pub left-end : (c : ℕ) (text : List ℕ) (s : State) → MayStartRecord s → is_line_end c ≡ true
    → records_within s [] [] (c ∷ text) ≡ records_within st.StartRecord [] [] text
unfolding next_record
left-end c text s start y = elim (cases_Bool (c == 13)) [
  | inl r ↦ elim start [ inl e ↦ rw (e, r) refl | inr e ↦ rw (e, eqb-true c 13 r) refl ]
  | inr r ↦ let f : (c == 10) ≡ true = rw r at y in elim start [ inl e ↦ rw (e, r, f) refl | inr e ↦ rw (e, f) refl ]
]

pub left-byte : (c : ℕ) (text : List ℕ) (s : State) → MayStartRecord s → is_line_end c ≡ false
    → records_within s [] [] (c ∷ text) ≡ records_within st.StartField [] [] (c ∷ text)
unfolding next_record
left-byte c text s (inl e) n = rw (e, no_return c n, no_feed c n) refl
left-byte c text s (inr e) n = rw (e, no_feed c n, no_return c n) refl

left-more : (c : ℕ) (text : List ℕ) → Left text → Within (c ∷ text) → Left (c ∷ text)
left-more c text left within s start = elim (cases_Bool (is_line_end c)) [
  | inl y ↦ left-within s (c ∷ text) start ∙ left-end c text s start y
      ∙ sym (left-within st.StartRecord text (inl refl)) ∙ rw y (left st.StartRecord (inl refl))
  | inr n ↦ left-within s (c ∷ text) start ∙ left-byte c text s start n ∙ within st.StartField [] [] (inl refl)
      ∙ rw n (row-first c (slice_split is_line_end text))
]

both : (text : List ℕ) → is_plain text ≡ true → Left text × Within text
both [] h = (left-nil, within-nil)
both (c ∷ text) h =
    let parts = and_parts (not (c == 34)) (is_plain text) h in
    let more = both text parts.1 in
    let within = within-more c text (not-true (c == 34) parts.0) more.0 more.1 in
    (left-more c text more.0 within, within)

-- From where a record may start.
pub left-plain : (text : List ℕ) (s : State) → is_plain text ≡ true → MayStartRecord s
    → records_left s text ≡ lines_parted text
left-plain text s h start = (both text h).0 s start

is_plain-tail : (c : ℕ) (text : List ℕ) → is_plain (c ∷ text) ≡ true → is_plain text ≡ true
is_plain-tail c text h = (and_parts (not (c == 34)) (is_plain text) h).1

is_plain-strip : (text : List ℕ) → is_plain text ≡ true → is_plain (strip_bom text) ≡ true
unfolding strip_bom
is_plain-strip [] h = h
is_plain-strip (a ∷ []) h = h
is_plain-strip (a ∷ b ∷ []) h = h
is_plain-strip (a ∷ b ∷ c ∷ rest) h = elim (cases_Bool (is_bom a b c)) [
  | inl y ↦ rw y (is_plain-tail c rest (is_plain-tail b (c ∷ rest) (is_plain-tail a (b ∷ c ∷ rest) h)))
  | inr n ↦ rw n h
]

pub plain_is_parted : PlainIsParted
plain_is_parted text h = left-plain (strip_bom text) st.StartRecord (is_plain-strip text h) (inl refl)
