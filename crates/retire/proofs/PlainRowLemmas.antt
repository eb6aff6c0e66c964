-- A row at the front of a text.
use Rattle.std.proofs.Common.{◌≡◌, ◌≤◌, ◌<◌, ◌==◌, ◌||◌, ◌++◌, ◌∙◌, ◌-◌, get_or, ℕ, List, [], ◌∷◌}
use Rattle.std.proofs.Common.{Option, Some, None, Ok, Err, nat_eq, take, drop, length, true, false, codes}
use Rattle.std.proofs.Common.{arith, refl, subst, sym, ap, inl, inr, rules, append_assoc, append-nil, Bool}
use Rattle.std.specs.List.{list_any}
use Rattle.std.specs.Str.Parse.{digits_value}
use Rattle.std.proofs.lemmas.Bool.{cases_Bool, eqb-true, false≢true, and_parts, or_parts}
use Rattle.std.proofs.lemmas.List.{length-drop, length-take, take-append-drop, take_all}
use Rattle.csv.specs.Machine.{Read, next_record}
use Rattle.csv.specs.Quoting.{needs_byte}
use Rattle.csv.specs.Reading.{default_config, strip_bom}
use Rattle.csv.specs.Writing.{default_writer}
use Rattle.csv.specs.declared.parser.State.TheVariants as st
use Rattle.csv.proofs.RoundTrip.{after-quote-same, plain-run, record-same, start-same}
use Rattle.retire.specs.Number.{hex_value, is_prefix, number_of, digits_number}
use Rattle.retire.specs.PlainLog.{EndsLine}
use Rattle.retire.specs.steps.Header.{AreNames, HasHeader, IsHeaderBefore}
use Rattle.retire.specs.steps.PlainRow.{EndsField, EndsLineIn, HasCell, HasDigits, HasField, HasRecord, HasRow}
use Rattle.retire.specs.steps.PlainRow.{HasWritten, IsWritten, Spells}
use Rattle.retire.specs.Row.{is_garbled, numbers_event, row_event}
use Rattle.retire.specs.Log.{events_up_to, header, log_up_to, records_of}
use Rattle.retire.specs.steps.RowsLeft.{MayFollow, records_left}
use Rattle.retire.specs.declared.event.Event.{Event}
use Rattle.retire.specs.declared.fault.LogFault.{LogFault}
use Rattle.std.specs.Cmp.Lexicographic.{pointwise, same_text}
use Rattle.retire.proofs.PlainLemmas.{left-end, left-within}
use Rattle.retire.proofs.HexLemmas.{all-AllDigits, digits_number-numeral, list_any-AllDigits}
use Rattle.retire.proofs.HexLemmas.{without_prefix-AllDigits}
use Rattle.retire.proofs.NumberLemmas.{digits_value-digit_more, list_all-digit_more}
use Rattle.retire.proofs.RecordsLemmas.{records_left-none, records_left-some}

other : (b mark : ℕ) → needs_byte default_writer b ≡ false → needs_byte default_writer mark ≡ true
    → (b == mark) ≡ false
other b mark e m = elim (cases_Bool (b == mark)) [
  | inl y ↦ absurd (false≢true (sym (rw (eqb-true b mark y) at e) ∙ m))
  | inr n ↦ n
]

-- A byte that calls for no quotes is no mark.
plain-byte : (b : ℕ) → needs_byte default_writer b ≡ false
    → ((b == 44) ≡ false) × ((b == 34) ≡ false) × ((b == 13) ≡ false) × ((b == 10) ≡ false)
plain-byte b e = (other b 44 e refl, other b 34 e refl, other b 13 e refl, other b 10 e refl)

length-front : (count : ℕ) (text : List ℕ) → count ≤ length text → length (take count text) ≡ count
length-front count text h = let e = length-take count text in omega (arith, e)

-- So many digits are a number.
digits-number : (text : List ℕ) (value count : ℕ) → HasDigits text value count → 0 < count
    → digits_number (take count text) ≡ Some value
digits-number text value count (few, within, digits, e) some =
    let n = length-front count text within in
    rw (
      digits_number-numeral (take count text) (omega (arith, n, some)) (omega (arith, n, few))
          (all-AllDigits (take count text) digits),
      e,
    ) refl

pub no_garbled : (field : List ℕ) (value : ℕ) → is_garbled field (Some value) ≡ false
no_garbled [] value = refl
no_garbled (b ∷ field) value = search rules

pub field-some : (text rest : List ℕ) (value count : ℕ) → HasDigits text value count → 0 < count
    → rest ≡ drop count text → HasField text (Some value) rest
field-some text rest value count h some e =
    let all = all-AllDigits (take count text) h.2 in (
      take count text,
      rw e (sym (take-append-drop count text)),
      (
        rw (without_prefix-AllDigits (take count text) all) (digits-number text value count h some),
        no_garbled (take count text) value,
        list_any-AllDigits (take count text) all,
      ),
    )

pub field-none : (text rest : List ℕ) (count : ℕ) → count ≡ 0 → rest ≡ drop count text → HasField text None rest
field-none text rest count none e = ([], rw (e, none) refl, (refl, refl, refl))

pub needs_prefix : (a b : ℕ) → is_prefix a b ≡ true
    → (needs_byte default_writer a ≡ false) × (needs_byte default_writer b ≡ false)
needs_prefix a b h = let parts = and_parts (a == 48) ((b == 120) || (b == 88)) h in (
  rw (eqb-true a 48 parts.0) refl,
  elim (cases_Bool (b == 120)) [
    | inl y ↦ rw (eqb-true b 120 y) refl
    | inr n ↦ rw (eqb-true b 88 (rw n at parts.1)) refl
  ],
)

pub field-prefixed : (a b : ℕ) (digits rest : List ℕ) (value count : ℕ) → is_prefix a b ≡ true
    → HasDigits digits value count → 0 < count → rest ≡ drop count digits
    → HasField (a ∷ b ∷ digits) (Some value) rest
field-prefixed a b digits rest value count prefix h some e =
    let all = all-AllDigits (take count digits) h.2 in
    let needs = needs_prefix a b prefix in (
      a ∷ b ∷ take count digits,
      rw e (ap (λ t. a ∷ b ∷ t) (sym (take-append-drop count digits))),
      (
        rw prefix (digits-number digits value count h some),
        no_garbled (a ∷ b ∷ take count digits) value,
        rw (needs.0, needs.1) (list_any-AllDigits (take count digits) all),
      ),
    )

-- No byte of a field calls for quotes.
abbrev IsPlainField : List ℕ → Type 0
IsPlainField field = list_any (needs_byte default_writer) field ≡ false

-- The bytes of a field between its quotes, and the quote that ends it.
quoted-bytes : (fields : List (List ℕ)) (field x tail : List ℕ) → IsPlainField x
    → next_record default_config st.InQuoted fields field (x ++ 34 ∷ tail) ≡ next_record default_config st.AfterQuote
    fields (field ++ x) tail
unfolding next_record
quoted-bytes fields field [] tail p = rw (append-nil field) refl
quoted-bytes fields field (b ∷ x) tail p =
    let q = plain-byte b (or_parts _ _ p).0 in
    rw q.1 (quoted-bytes fields (field ++ b ∷ []) x tail (or_parts _ _ p).1
    ∙ ap (λ f. next_record default_config st.AfterQuote fields f tail) (append_assoc field (b ∷ []) x))

-- A field in quotes, from its start.
quoted-start : (fields : List (List ℕ)) (x tail : List ℕ) → IsPlainField x
    → next_record default_config st.StartField fields [] ((34 ∷ (x ++ 34 ∷ [])) ++ tail) ≡ next_record default_config
    st.AfterQuote fields x tail
unfolding next_record
quoted-start fields x tail p =
    ap (next_record default_config st.InQuoted fields []) (append_assoc x (34 ∷ []) tail)
    ∙ quoted-bytes fields [] x tail p

-- A field up to the byte after it, which is no quote.
written-start : (fields : List (List ℕ)) (x written : List ℕ) (c : ℕ) (tail : List ℕ) → (c == 34) ≡ false
    → IsPlainField x → IsWritten x written
    → next_record default_config st.StartField fields [] (written ++ c ∷ tail) ≡ next_record default_config st.InField
    fields x (c ∷ tail)
written-start fields [] written c tail n p (inl e) = rw e (start-same fields [] c tail n)
written-start fields (b ∷ x) written c tail n p (inl e) =
    let q = plain-byte b (or_parts _ _ p).0 in
    rw e (start-same fields [] b (x ++ c ∷ tail) q.1 ∙ plain-run fields [] (b ∷ x) (c ∷ tail) p)
written-start fields x written c tail n p (inr e) =
    rw e (quoted-start fields x (c ∷ tail) p ∙ after-quote-same fields x c tail n)

-- A field with a comma after it.
field-comma : (fields : List (List ℕ)) (x written tail : List ℕ) → IsPlainField x → IsWritten x written
    → next_record default_config st.StartField fields [] (written ++ 44 ∷ tail) ≡ next_record default_config
    st.StartField (fields ++ x ∷ []) [] tail
unfolding next_record
field-comma fields x written tail p w = written-start fields x written 44 tail refl p w

-- The first field of a record.
field-first : (x written tail : List ℕ) → IsPlainField x → IsWritten x written
    → next_record default_config st.StartRecord [] [] (written ++ 44 ∷ tail) ≡ next_record default_config st.StartField
    [] [] (written ++ 44 ∷ tail)
field-first [] written tail p (inl e) = rw e (record-same [] [] 44 tail refl refl)
field-first (b ∷ x) written tail p (inl e) =
    let q = plain-byte b (or_parts _ _ p).0 in rw e (record-same [] [] b (x ++ 44 ∷ tail) q.2 q.3)
field-first x written tail p (inr e) = rw e (record-same [] [] 34 ((x ++ 34 ∷ []) ++ 44 ∷ tail) refl refl)

-- A carriage return ends a record, and the line feed behind it belongs to no record.
left-feed : (rest : List ℕ) → records_left st.AfterCr (10 ∷ rest) ≡ records_left st.StartRecord rest
left-feed rest =
    left-within st.AfterCr (10 ∷ rest) (inr refl) ∙ left-end 10 rest st.AfterCr (inr refl) refl
    ∙ sym (left-within st.StartRecord rest (inl refl))

-- The last field of a record, and what is left behind its line.
abbrev EndsRecord : List (List ℕ) → List ℕ → Option Read → Type 0
EndsRecord fields rest found =
    (p : Read) × (found ≡ Some p) × (p.0 ≡ fields) × (records_left p.1 p.2 ≡ records_left st.StartRecord rest)

field-last : (fields : List (List ℕ)) (x written end rest : List ℕ) → IsPlainField x → IsWritten x written
    → EndsLine end rest
    → EndsRecord (fields ++ x ∷ []) rest (next_record default_config st.StartField fields [] (written ++ end))
unfolding next_record
field-last fields x written end rest p w (inl e) =
    ((fields ++ x ∷ [], st.StartRecord, rest), rw e (written-start fields x written 10 rest refl p w), refl, refl)
field-last fields x written end rest p w (inr (inl e)) = (
  (fields ++ x ∷ [], st.AfterCr, 10 ∷ rest),
  rw e (written-start fields x written 13 (10 ∷ rest) refl p w),
  refl,
  left-feed rest,
)
field-last fields [] written end rest p (inl w) (inr (inr e)) =
    ((fields ++ [] ∷ [], st.StartRecord, []), rw (w, e.0) refl, refl, rw e.1 refl)
field-last fields (b ∷ more) written end rest p (inl w) (inr (inr e)) =
    let q = plain-byte b (or_parts _ _ p).0 in (
      (fields ++ (b ∷ more) ∷ [], st.StartRecord, []),
      rw (w, e.0) (start-same fields [] b (more ++ []) q.1 ∙ plain-run fields [] (b ∷ more) [] p),
      refl,
      rw e.1 refl,
    )
field-last fields x written end rest p (inr w) (inr (inr e)) =
    ((fields ++ x ∷ [], st.StartRecord, []), rw (w, e.0) (quoted-start fields x [] p), refl, rw e.1 refl)

-- Five fields and the end of their line are a record, and what follows the line is left.
line-record : (f1 f2 f3 f4 f5 w1 w2 w3 w4 w5 end rest : List ℕ) → IsPlainField f1 → IsPlainField f2 → IsPlainField f3
    → IsPlainField f4 → IsPlainField f5 → IsWritten f1 w1 → IsWritten f2 w2 → IsWritten f3 w3 → IsWritten f4 w4
    → IsWritten f5 w5 → EndsLine end rest
    → records_left st.StartRecord (w1 ++ 44 ∷ (w2 ++ 44 ∷ (w3 ++ 44 ∷ (w4 ++ 44 ∷ (w5 ++ end))))) ≡
    (f1 ∷ f2 ∷ f3 ∷ f4 ∷ f5 ∷ []) ∷ records_left st.StartRecord rest
line-record f1 f2 f3 f4 f5 w1 w2 w3 w4 w5 end rest p1 p2 p3 p4 p5 k1 k2 k3 k4 k5 ends =
    let (p, found, fields, left) = field-last (f1 ∷ f2 ∷ f3 ∷ f4 ∷ []) f5 w5 end rest p5 k5 ends in
    let read = field-first f1 w1 _ p1 k1 ∙ field-comma [] f1 w1 _ p1 k1 ∙ field-comma (f1 ∷ []) f2 w2 _ p2 k2
    ∙ field-comma (f1 ∷ f2 ∷ []) f3 w3 _ p3 k3
    ∙ field-comma (f1 ∷ f2 ∷ f3 ∷ []) f4 w4 _ p4 k4 ∙ found in
    records_left-some st.StartRecord _ p (inl refl) read ∙ rw (fields, left) refl

-- A line ends in a longer text as it does in this one.
ends-more : (ended : Bool) (end rest more : List ℕ) → EndsLineIn ended end rest → MayFollow ended more
    → EndsLine (end ++ more) (rest ++ more)
ends-more ended end rest more (inl e) follows = inl (ap (λ t. t ++ more) e)
ends-more ended end rest more (inr (inl e)) follows = inr (inl (ap (λ t. t ++ more) e))
ends-more ended end rest more (inr (inr (over, e, r))) follows =
    let none = follows over in inr (inr (rw (e, none) refl, rw (r, none) refl))

pub ends-line : (ended : Bool) (end rest : List ℕ) → EndsLineIn ended end rest → EndsLine end rest
ends-line ended end rest (inl e) = inl e
ends-line ended end rest (inr (inl e)) = inr (inl e)
ends-line ended end rest (inr (inr (over, e, r))) = inr (inr (e, r))

-- So does a cell.
cell-more : (text w t more u : List ℕ) → text ≡ w ++ 44 ∷ t → t ++ more ≡ u → text ++ more ≡ w ++ 44 ∷ u
cell-more text w t more u e r =
    ap (λ x. x ++ more) e ∙ append_assoc w (44 ∷ t) more ∙ ap (λ x. w ++ 44 ∷ x) r

-- The event of fields with known numbers.
row_event-known : (row a b c : ℕ) (f1 f2 f3 f4 f5 : List ℕ) (n4 n5 : Option ℕ) (event : Event) → number_of f1 ≡ Some a
    → number_of f2 ≡ Some b → number_of f3 ≡ Some c
    → Spells f4 n4 → Spells f5 n5 → numbers_event row a b c n4 n5 ≡ Ok event
    → row_event row (f1 ∷ f2 ∷ f3 ∷ f4 ∷ f5 ∷ []) ≡ Ok event
row_event-known row a b c f1 f2 f3 f4 f5 n4 n5 event e1 e2 e3 s4 s5 known =
    let g4 : is_garbled f4 (number_of f4) ≡ false = rw s4.0 s4.1 in
    let g5 : is_garbled f5 (number_of f5) ≡ false = rw s5.0 s5.1 in
    rw (g4, g5, e1, e2, e3, s4.0, s5.0) known

-- Five fields and the end of their line are a row.
pub row-fields : (ended : Bool) (row a b c : ℕ) (text t1 t2 t3 t4 t5 rest : List ℕ) (n1 n2 n3 n4 n5 : Option ℕ)
    (event : Event) → HasWritten text n1 (44 ∷ t1) → HasWritten t1 n2 (44 ∷ t2) → HasWritten t2 n3 (44 ∷ t3)
    → HasWritten t3 n4 (44 ∷ t4) → HasWritten t4 n5 t5
    → EndsLineIn ended t5 rest
    → n1 ≡ Some a → n2 ≡ Some b → n3 ≡ Some c → numbers_event row a b c n4 n5 ≡ Ok event
    → HasRow ended row text event rest
row-fields ended row a b c text t1 t2 t3 t4 t5 rest n1 n2 n3 n4 n5 event (f1, w1, e1, k1, s1) (f2, w2, e2, k2, s2)
    (f3, w3, e3, k3, s3) (f4, w4, e4, k4, s4) (f5, w5, e5, k5, s5) end x1 x2 x3 known = (
      f1 ∷ f2 ∷ f3 ∷ f4 ∷ f5 ∷ [],
      row_event-known row a b c f1 f2 f3 f4 f5 n4 n5 event (s1.0 ∙ x1) (s2.0 ∙ x2) (s3.0 ∙ x3) s4 s5 known,
      λ more follows.
          let last : t4 ++ more ≡ w5 ++ (t5 ++ more) = ap (λ x. x ++ more) e5 ∙ append_assoc w5 t5 more in
          ap (records_left st.StartRecord)
          (cell-more text w1 t1 more _ e1 (cell-more t1 w2 t2 more _ e2 (cell-more t2 w3 t3 more _ e3 (cell-more t3 w4
          t4 more _ e4 last))))
          ∙ line-record f1 f2 f3 f4 f5 w1 w2 w3 w4 w5 (t5 ++ more) (rest ++ more) s1.2 s2.2 s3.2 s4.2 s5.2 k1 k2 k3 k4
          k5 (ends-more ended t5 rest more end follows),
    )

-- A field that is written as it is, and one in quotes.
pub as-written : {text : List ℕ} {number : Option ℕ} {rest : List ℕ} → HasField text number rest
    → HasWritten text number rest
as-written {text} {number} {rest} (field, e, spells) = (field, field, e, inl refl, spells)

pub in-quotes : {text inside : List ℕ} {number : Option ℕ} {rest : List ℕ} → text ≡ 34 ∷ inside
    → HasField inside number (34 ∷ rest) → HasWritten text number rest
in-quotes {text} {inside} {number} {rest} opens (field, e, spells) =
    (field, 34 ∷ (field ++ 34 ∷ []), opens ∙ ap (λ t. 34 ∷ t) (e ∙ sym (append_assoc field (34 ∷ []) rest)), inr refl, spells)

pub records_left-empty : (rest : List ℕ) → length rest ≡ 0 → records_left st.StartRecord rest ≡ []
unfolding next_record
records_left-empty [] e = records_left-none st.StartRecord [] refl
records_left-empty (c ∷ rest) e = absurd (omega (arith, e))

-- The names of the header are its record, as they are or in quotes.
names-record : (names end rest : List ℕ) → AreNames names → EndsLine end rest
    → records_left st.StartRecord (names ++ end) ≡ header ∷ records_left st.StartRecord rest
names-record names end rest (inl e) ends =
    rw e (line-record (codes "addr") (codes "itype") (codes "priv") (codes "cause") (codes "tval") (codes "addr")
    (codes "itype") (codes "priv") (codes "cause") (codes "tval") end rest refl refl refl refl refl (inl refl)
    (inl refl) (inl refl) (inl refl) (inl refl) ends)
names-record names end rest (inr e) ends =
    rw e (line-record (codes "addr") (codes "itype") (codes "priv") (codes "cause") (codes "tval") _ _ _ _ _ end rest
    refl refl refl refl refl (inr refl) (inr refl) (inr refl) (inr refl) (inr refl) ends)

-- A text that begins with the header's line has the header's record, and then those of what follows.
pub header-record : (ended : Bool) (text rest : List ℕ) → HasHeader ended text rest
    → HasRecord ended text header rest
header-record ended text rest (end, (names, whole, are), ends) = λ more follows.
    ap (λ t. records_left st.StartRecord (t ++ more)) whole
    ∙ ap (records_left st.StartRecord) (append_assoc names end more)
    ∙ names-record names (end ++ more) (rest ++ more) are (ends-more ended end rest more ends follows)

names-strip : (names end : List ℕ) → AreNames names → strip_bom (names ++ end) ≡ names ++ end
unfolding strip_bom
names-strip names end (inl e) = rw e refl
names-strip names end (inr e) = rw e refl

pub header-log : (most : ℕ) (text rest : List ℕ) → HasHeader true text rest
    → log_up_to most (records_of text) ≡ events_up_to most 1 (records_left st.StartRecord rest)
header-log most text rest (end, (names, whole, are), ends) =
    ap (λ t. log_up_to most (records_of t)) whole
    ∙ ap (λ t. log_up_to most (records_left st.StartRecord t)) (names-strip names end are)
    ∙ ap (log_up_to most) (names-record names end rest are (ends-line true end rest ends))

pub names-are : (text line rest : List ℕ) → pointwise nat_eq (take (length line) text) line ≡ true
    → rest ≡ drop (length line) text → AreNames line → IsHeaderBefore text rest
names-are text line rest e r are = (
  line,
  sym (take-append-drop (length line) text)
      ∙ ap (λ t. t ++ drop (length line) text) (same_text (take (length line) text) line (sym e))
      ∙ ap (λ t. line ++ t) (sym r),
  are,
)

-- One digit is a field.
pub field-digit : (text : List ℕ) (value digit : ℕ) → 0 < length text → value ≡ digit
    → digit ≡ hex_value (get_or text 0 0) → (digit ≡ 16 → ⊥)
    → HasField text (Some value) (take (length text - 1) (drop 1 text))
field-digit text value digit some same is unlike =
    let other : (hex_value (get_or text 0 0) ≡ 16 → ⊥) = rw is at unlike in
    let all = list_all-digit_more text 0 some other refl in
    let more = digits_value-digit_more text 0 some other in
    let none : digits_value 16 (take 0 text) ≡ 0 = refl in
    let whole : value ≡ digits_value 16 (take 1 text) = omega (arith, more, none, same, is) in
    let size = length-drop 1 text in
    field-some text (take (length text - 1) (drop 1 text)) value 1 (omega arith, omega arith, all, whole) (omega arith)
    (take_all (length text - 1) (drop 1 text) (omega (arith, size)))

-- What holds of a text holds of the same text.
pub cell-on : {t u : List ℕ} {number : Option ℕ} {rest : List ℕ} → t ≡ u → HasCell u number rest
    → HasCell t number rest
cell-on {t} {u} {number} {rest} e h = subst (λ x. HasCell x number rest) (sym e) h

pub field-on : {t u : List ℕ} {number : Option ℕ} {rest : List ℕ} → t ≡ u → HasField u number rest
    → HasField t number rest
field-on {t} {u} {number} {rest} e h = subst (λ x. HasField x number rest) (sym e) h

pub line-on : {t u rest : List ℕ} → t ≡ u → EndsLine u rest → EndsLine t rest
line-on {t} {u} {rest} e h = subst (λ x. EndsLine x rest) (sym e) h

-- A field ends where its line does.
pub line-ends : {end rest : List ℕ} → EndsLine end rest → EndsField end
line-ends {end} {rest} (inl e) = subst EndsField (sym e) refl
line-ends {end} {rest} (inr (inl e)) = subst EndsField (sym e) refl
line-ends {end} {rest} (inr (inr e)) = subst EndsField (sym e.0) tt

-- The numbers of an event have no fault.
pub no_fault : (row a b c x y z : ℕ) (d e v w : Option ℕ) (event : Event) (fault : LogFault) → Some a ≡ Some x
    → Some b ≡ Some y → Some c ≡ Some z → d ≡ v → e ≡ w
    → numbers_event row x y z v w ≡ Ok event → numbers_event row a b c d e ≡ Err fault → ⊥
no_fault row a b c x y z d e v w event fault is_a is_b is_c is_d is_e known wrong =
    let first : a ≡ x = cc is_a in
    let second : b ≡ y = cc is_b in
    let third : c ≡ z = cc is_c in
    let same : numbers_event row a b c d e ≡ numbers_event row x y z v w = rw (first, second, third, is_d, is_e) refl in
    cc (sym wrong ∙ same ∙ known)
