-- Rows of fields that call for no quotes are read back.
use Rattle.std.proofs.Common.{◌≡◌, ◌∙◌, ℕ, zero, suc, ◌+◌, ◌/◌, ◌%◌, ◌==◌, ◌++◌, List, [], ◌∷◌, Bool, true, false, Option}
use Rattle.std.proofs.Common.{Some, None, arith, codes, inl, inr, nat_lt, refl, subst, sym, append-nil}
use Rattle.std.proofs.lemmas.Bool.{cases_Bool, ne_eqb}
use Rattle.std.specs.Prelude.{◌||◌}
use Rattle.std.proofs.lemmas.List.{append_assoc}
use Rattle.std.proofs.lemmas.List.Folds.{list_any-append}
use Rattle.std.specs.Fmt.{decimal, digit_glyph, digits, digits_onto}
use Rattle.std.specs.List.{list_any}
use Rattle.csv.proofs.RoundTrip.{read-write-many}
use Rattle.csv.specs.Machine.{next_record}
use Rattle.csv.specs.Quoting.{needs_byte}
use Rattle.csv.specs.Reading.{default_config}
use Rattle.csv.specs.Writing.{default_writer, fields_text, is_blank, row_body, row_text}
use Rattle.csv.specs.declared.parser.State.TheVariants.{StartRecord}
use Rattle.output.specs.Fields.{byte_text, bytes_text, fields_line, number_field}
use Rattle.output.specs.ReadBack.{IsReadBack}

-- No byte of a field calls for quotes.
abbrev pub IsPlain : List ℕ → Type 0
IsPlain field = list_any (needs_byte default_writer) field ≡ false

-- And of none of these fields.
abbrev pub ArePlain : List (List ℕ) → Type 0
ArePlain [] = Unit {0}
ArePlain (field ∷ more) = IsPlain field × ArePlain more

-- Such fields are written as `csv` writes them.
pub line_is : (field : List ℕ) (more : List (List ℕ)) → ArePlain (field ∷ more)
    → fields_line (field ∷ more) ≡ row_body default_writer (field ∷ more) ++ codes "\n"
unfolding fields_text
line_is field [] (plain, none) = rw (plain, append-nil) refl
line_is field (next ∷ more) (plain, others) =
    rw (plain, line_is next more others)
    (sym (append_assoc field (codes "," ++ row_body default_writer (next ∷ more)) (codes "\n")))

row_is : (first next : List ℕ) (more : List (List ℕ)) → ArePlain (first ∷ next ∷ more)
    → row_text default_writer (first ∷ next ∷ more) ≡ fields_line (first ∷ next ∷ more)
unfolding is_blank
row_is first next more plain = sym (line_is first (next ∷ more) plain)

-- So they are read back.
read_back : (first next : List ℕ) (more : List (List ℕ)) → ArePlain (first ∷ next ∷ more)
    → IsReadBack (first ∷ next ∷ more)
read_back first next more plain rest =
    subst
    (λ text. next_record default_config StartRecord [] [] (text ++ rest) ≡ Some (first ∷ next ∷ more, StartRecord, rest))
    (row_is first next more plain) (read-write-many first next more rest)

or_left : (a b : Bool) → (a || b) ≡ false → a ≡ false
or_left false b none = refl
or_left true b none = cc none

or_right : (a b : Bool) → (a || b) ≡ false → b ≡ false
or_right false b none = none
or_right true b none = cc none

-- A field has a byte that calls for quotes.
abbrev pub is_marked : List ℕ → Bool
is_marked field = list_any (needs_byte default_writer) field

pub are_plain : (fields : List (List ℕ)) → list_any is_marked fields ≡ false → ArePlain fields
are_plain [] none = tt
are_plain (field ∷ more) none = (
  or_left (is_marked field) (list_any is_marked more) none,
  are_plain more (or_right (is_marked field) (list_any is_marked more) none),
)

-- A row has two fields or more.
abbrev pub HasTwo : List (List ℕ) → Type 0
HasTwo [] = ⊥
HasTwo (field ∷ []) = ⊥
HasTwo (first ∷ next ∷ more) = Unit {0}

pub plain_read : (fields : List (List ℕ)) → HasTwo fields → list_any is_marked fields ≡ false → IsReadBack fields
plain_read [] two none = absurd two
plain_read (field ∷ []) two none = absurd two
plain_read (first ∷ next ∷ more) two none = read_back first next more (are_plain (first ∷ next ∷ more) none)

-- A digit is no mark.
glyph_above : (digit : ℕ) → needs_byte default_writer (48 + digit) ≡ false
glyph_above digit =
    rw (
      ne_eqb (48 + digit) 44 (λ e. absurd (omega (arith, e))),
      ne_eqb (48 + digit) 34 (λ e. absurd (omega (arith, e))),
      ne_eqb (48 + digit) 13 (λ e. absurd (omega (arith, e))),
      ne_eqb (48 + digit) 10 (λ e. absurd (omega (arith, e))),
    ) refl

letter_above : (digit : ℕ) → needs_byte default_writer (87 + digit) ≡ false
letter_above digit =
    rw (
      ne_eqb (87 + digit) 44 (λ e. absurd (omega (arith, e))),
      ne_eqb (87 + digit) 34 (λ e. absurd (omega (arith, e))),
      ne_eqb (87 + digit) 13 (λ e. absurd (omega (arith, e))),
      ne_eqb (87 + digit) 10 (λ e. absurd (omega (arith, e))),
    ) refl

glyph_plain : (digit : ℕ) → needs_byte default_writer (digit_glyph false digit) ≡ false
glyph_plain digit = elim (cases_Bool (nat_lt digit 10)) [
  | inl low ↦ rw low (glyph_above digit)
  | inr high ↦ rw high (letter_above digit)
]

onto_plain : (turns base n : ℕ) (back : List ℕ) → IsPlain back → IsPlain (digits_onto turns base false n back)
onto_plain zero base n back plain = plain
onto_plain (suc turns) base n back plain =
    let more : IsPlain (digit_glyph false (n % base) ∷ back) = rw (glyph_plain (n % base), plain) refl in
    elim (cases_Bool (n / base == 0)) [
      | inl last ↦ rw last more
      | inr left ↦ rw left (onto_plain turns base (n / base) (digit_glyph false (n % base) ∷ back) more)
    ]

pub digits_plain : (base n : ℕ) → IsPlain (digits base false n)
unfolding digits
digits_plain base n = onto_plain 64 base n [] refl

pub decimal_plain : (n : ℕ) → IsPlain (decimal n)
decimal_plain n = digits_plain 10 n

pub both_plain : (front back : List ℕ) → IsPlain front → IsPlain back → IsPlain (front ++ back)
both_plain front back first then = list_any-append (needs_byte default_writer) front back ∙ rw (first, then) refl

pub byte_plain : (byte : ℕ) → IsPlain (byte_text byte)
byte_plain byte =
    both_plain (digits 16 false (byte / 16)) (digits 16 false (byte % 16)) (digits_plain 16 (byte / 16))
    (digits_plain 16 (byte % 16))

pub bytes_plain : (bytes : List ℕ) → IsPlain (bytes_text bytes)
bytes_plain [] = refl
bytes_plain (byte ∷ more) = both_plain (byte_text byte) (bytes_text more) (byte_plain byte) (bytes_plain more)

pub number_plain : (number : Option ℕ) → IsPlain (number_field number)
number_plain None = refl
number_plain (Some number) = decimal_plain number
