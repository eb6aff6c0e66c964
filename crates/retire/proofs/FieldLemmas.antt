-- The field at the front of a text is the one that ends where fields end.
use Rattle.std.proofs.Common.{◌≡◌, ◌≤◌, ◌<◌, ◌==◌, ◌&&◌, ◌||◌, ◌++◌, ◌∙◌, ◌-◌, Bool, ℕ, zero, suc, List, [], ◌∷◌}
use Rattle.std.proofs.Common.{Option, None, take, drop, get_or, length, nat_le, nat_lt, true, false, arith, refl, subst}
use Rattle.std.proofs.Common.{sym, ap, inl, inr, rules}
use Rattle.std.specs.List.{list_all, list_any}
use Rattle.std.proofs.Math.Seq.{drop-append_seam}
use Rattle.std.proofs.lemmas.List.{append_cancel_right, length-append, length-drop, take_all}
use Rattle.std.proofs.lemmas.Bool.{cases_Bool, eqb-true, false≢true, and_parts}
use Rattle.csv.specs.Quoting.{needs_byte}
use Rattle.csv.specs.Writing.{default_writer}
use Rattle.retire.specs.Number.{is_hex_digit, is_numeral, is_prefix, number_of, without_prefix}
use Rattle.retire.specs.Row.{is_garbled}
use Rattle.retire.specs.steps.PlainRow.{EndsField, HasCell, HasField, Spells, digit_count}
use Rattle.retire.proofs.HexLemmas.{needs_byte-digit}
use Rattle.retire.proofs.NumberLemmas.{digit_below_16}

-- A byte that ends a field is no digit.
end-no_digit : (byte : ℕ) → needs_byte default_writer byte ≡ true → is_hex_digit byte ≡ false
end-no_digit byte e = elim (cases_Bool (is_hex_digit byte)) [
  | inl digit ↦ absurd (false≢true (sym (needs_byte-digit byte (digit_below_16 byte digit)) ∙ e))
  | inr none ↦ none
]

-- The digits are counted up to a byte that is none.
pub digit_count-at : (text : List ℕ) (i : ℕ) → i < length text → list_all is_hex_digit (take i text) ≡ true
    → is_hex_digit (get_or text i 0) ≡ false → digit_count text ≡ i
unfolding digit_count
digit_count-at [] i n all none = absurd (omega arith)
digit_count-at (c ∷ text) zero n all none = rw none refl
digit_count-at (c ∷ text) (suc i) n all none =
    let both = and_parts (is_hex_digit c) (list_all is_hex_digit (take i text)) all in
    rw (both.0, digit_count-at text i (omega arith) both.1 none) (omega arith)

-- They go on past one.
pub digit_count-past : (text : List ℕ) (i : ℕ) → i < length text → list_all is_hex_digit (take i text) ≡ true
    → is_hex_digit (get_or text i 0) ≡ true → i < digit_count text
unfolding digit_count
digit_count-past [] i n all digit = absurd (omega arith)
digit_count-past (c ∷ text) zero n all digit = rw digit (omega arith)
digit_count-past (c ∷ text) (suc i) n all digit =
    let both = and_parts (is_hex_digit c) (list_all is_hex_digit (take i text)) all in
    let more = digit_count-past text i (omega arith) both.1 digit in
    rw both.0 (omega (arith, more))

digit_count-none : (rest : List ℕ) → EndsField rest → digit_count rest ≡ 0
unfolding digit_count
digit_count-none [] end = refl
digit_count-none (c ∷ rest) end = rw (end-no_digit c end) refl

pub digit_count-field : (digits rest : List ℕ) → list_all is_hex_digit digits ≡ true → EndsField rest
    → digit_count (digits ++ rest) ≡ length digits
unfolding digit_count
digit_count-field [] rest all end = digit_count-none rest end
digit_count-field (c ∷ digits) rest all end =
    let both = and_parts (is_hex_digit c) (list_all is_hex_digit digits) all in
    rw (both.0, digit_count-field digits rest both.1 end) (omega arith)

-- Digits alone.
pub digit_count-all : (text : List ℕ) → list_all is_hex_digit text ≡ true → digit_count text ≡ length text
unfolding digit_count
digit_count-all [] all = refl
digit_count-all (c ∷ text) all =
    let both = and_parts (is_hex_digit c) (list_all is_hex_digit text) all in
    rw (both.0, digit_count-all text both.1) (omega arith)

numeral-size : (text : List ℕ) → is_numeral text ≡ true → (0 < length text) × (length text ≤ 16)
numeral-size text e =
    let sized = and_parts (nat_lt 0 (length text) && nat_le (length text) 16) (list_all is_hex_digit text) e in
    let sizes = and_parts (nat_lt 0 (length text)) (nat_le (length text) 16) sized.0 in
    let some = sizes.0 in
    let few = sizes.1 in
    (search (rules, arith), search (rules, arith))

numeral-digits : (text : List ℕ) → is_numeral text ≡ true → list_all is_hex_digit text ≡ true
numeral-digits text e =
    (and_parts (nat_lt 0 (length text) && nat_le (length text) 16) (list_all is_hex_digit text) e).1

-- A numeral up to the end of its field is all that is counted, and what follows it is the rest.
pub numeral-front : (text field rest : List ℕ) (count : ℕ) → text ≡ field ++ rest → is_numeral field ≡ true
    → EndsField rest → count ≡ digit_count text
    → (0 < count) × (count ≤ 16) × (drop count text ≡ rest)
numeral-front text field rest count e numeral end c =
    let size = numeral-size field numeral in
    let same : count ≡ length field = c ∙ ap digit_count e
    ∙ digit_count-field field rest (numeral-digits field numeral) end in
    (rw same size.0, rw same size.1, rw (same, e) (drop-append_seam field rest))

-- What a field with a number spells, without its prefix, is a numeral.
spelt-numeral : (field : List ℕ) (number : Option ℕ) → Spells field number → 0 < length field
    → is_numeral (without_prefix field) ≡ true
spelt-numeral field number (spells, filled, plain) some = elim (cases_Bool (is_numeral (without_prefix field))) [
  | inl numeral ↦ numeral
  | inr none ↦
      let nothing : None ≡ number = rw none at spells in
      let garbled : is_garbled field None ≡ false = subst (λ n. is_garbled field n ≡ false) (sym nothing) filled in
      let more : nat_lt 0 (length field) ≡ true = search (rules, arith) in
      cc (rw more at garbled)
]

end-no_prefix : (a c : ℕ) → needs_byte default_writer c ≡ true → is_prefix a c ≡ false
end-no_prefix a c e = elim (cases_Bool (is_prefix a c)) [
  | inl y ↦
      let parts = and_parts (a == 48) ((c == 120) || (c == 88)) y in
      elim (cases_Bool (c == 120)) [
        | inl x ↦ cc (rw (eqb-true c 120 x) at e)
        | inr n ↦ cc (rw (eqb-true c 88 (rw n at parts.1)) at e)
      ]
  | inr n ↦ n
]

-- A prefix stands before the end of the field.
without_prefix-front : (field rest : List ℕ) → 0 < length field → EndsField rest
    → without_prefix (field ++ rest) ≡ without_prefix field ++ rest
without_prefix-front [] rest some end = absurd (omega arith)
without_prefix-front (a ∷ []) [] some end = refl
without_prefix-front (a ∷ []) (c ∷ rest) some end = rw (end-no_prefix a c end) refl
without_prefix-front (a ∷ b ∷ field) rest some end =
    elim (cases_Bool (is_prefix a b)) [ inl y ↦ rw y refl | inr n ↦ rw n refl ]

field-some : (field rest text : List ℕ) → text ≡ field ++ rest → length rest < length text → 0 < length field
field-some [] rest text e n = absurd (let same = ap length e in omega (arith, same))
field-some (c ∷ field) rest text e n = omega arith

-- A field that is not empty is a numeral behind its prefix.
pub field-numeral : (text : List ℕ) (number : Option ℕ) (rest : List ℕ) → HasField text number rest → EndsField rest
    → length rest < length text
    → (digits : List ℕ) × (is_numeral digits ≡ true) × (without_prefix text ≡ digits ++ rest)
field-numeral text number rest (field, e, spells) end n =
    let some = field-some field rest text e n in (
      without_prefix field,
      spelt-numeral field number spells some,
      ap without_prefix e
          ∙ without_prefix-front field rest some end,
    )

-- A text of the same length has no prefix.
pub no_prefix-same : (text digits : List ℕ) → digits ≡ without_prefix text → length digits ≡ length text
    → digits ≡ text
no_prefix-same [] digits e n = e
no_prefix-same (a ∷ []) digits e n = e
no_prefix-same (a ∷ b ∷ rest) digits e n = elim (cases_Bool (is_prefix a b)) [
  | inl y ↦ let f : digits ≡ rest = rw y at e in let m = ap length f in absurd (omega (arith, n, m))
  | inr m ↦ rw m at e
]

-- Where a digit does, it is not.
pub field-filled : (text : List ℕ) (number : Option ℕ) (rest : List ℕ) → HasField text number rest → EndsField rest
    → 0 < length text → is_hex_digit (get_or text 0 0) ≡ true
    → length rest < length text
field-filled text number [] ([], e, spells) end some digit = let same = ap length e in omega (arith, some, same)
field-filled text number (c ∷ rest) ([], e, spells) end some digit =
    absurd (false≢true (sym (end-no_digit c end) ∙ rw e at digit))
field-filled text number rest (c ∷ field, e, spells) end some digit =
    let same : length text ≡ length ((c ∷ field) ++ rest) = ap length e in let both = length-append (c ∷ field) rest in
    omega (arith, same, both)

-- A digit with a comma behind it is the field.
pub field-one : (text : List ℕ) (number : Option ℕ) (rest more : List ℕ) → HasField text number rest → EndsField rest
    → 0 < length text → is_hex_digit (get_or text 0 0) ≡ true
    → take (length text - 1) (drop 1 text) ≡ 44 ∷ more → take (length text - 1) (drop 1 text) ≡ rest
field-one text number rest more h end some digit comma =
    let size = length-drop 1 text in
    let whole : take (length text - 1) (drop 1 text) ≡ drop 1 text =
    take_all (length text - 1) (drop 1 text) (omega (arith, size)) in
    whole ∙ after-one h (sym whole ∙ comma)
  where
    or-second : (x y z : Bool) → (x || (y || z)) ≡ false → y ≡ false
    or-second false false z h = refl
    or-second false true z h = cc h
    or-second true y z h = cc h

    after-one : HasField text number rest → drop 1 text ≡ 44 ∷ more → drop 1 text ≡ rest
    after-one ([], e, spells) mark =
        let n = field-filled text number rest ([], e, spells) end some digit in
        let same = ap length e in
        absurd (omega (arith, n, same))
    after-one (c ∷ [], e, spells) mark = rw e refl
    after-one (c ∷ b ∷ field, e, spells) mark =
        let second : b ∷ (field ++ rest) ≡ 44 ∷ more = rw e at mark in
        let is : b ≡ 44 = cc second in
        let plain : list_any (needs_byte default_writer) (c ∷ b ∷ field) ≡ false = spells.2 in
        absurd
        (false≢true
        (sym
        (or-second (needs_byte default_writer c) (needs_byte default_writer b)
        (list_any (needs_byte default_writer) field) plain) ∙ rw is refl))

-- The fields that end alike are one.
pub same_number : (text : List ℕ) (m n : Option ℕ) (rest more : List ℕ) → HasField text m rest → HasField text n more
    → rest ≡ more → m ≡ n
same_number text m n rest more (field, e, spells) (other, f, spelt) same =
    let fields : field ≡ other = append_cancel_right field other more (rw same at (sym e) ∙ f) in
    sym spells.0 ∙ ap number_of fields ∙ spelt.0

pub same_cell : (text : List ℕ) (m n : Option ℕ) (rest more : List ℕ) → HasCell text m rest → HasCell text n more
    → rest ≡ more → m ≡ n
same_cell text m n rest more cell other same =
    same_number text m n (44 ∷ rest) (44 ∷ more) cell other (ap (λ t. 44 ∷ t) same)
