-- The rows of a plain log, one at a time, and that a log is written plain.
use Rattle.std.proofs.Common.{◌≡◌, ◌≤◌, ◌<◌, ◌||◌, ◌==◌, ◌++◌, ◌∙◌, ◌+◌, Bool, ℕ, List, [], ◌∷◌, Option, Some}
use Rattle.std.proofs.Common.{None, Ok, map, nat_lt, Bor, IfSome, length, true, false, arith}
use Rattle.std.proofs.Common.{refl, sym, ap, inl, inr, rules, append_assoc, append-nil}
use Rattle.std.specs.List.{flat_map, join_with_byte, list_all, list_any}
use Rattle.std.proofs.lemmas.Bool.{cases_Bool, and_parts, eqb-true, or_parts}
use Rattle.csv.specs.Quoting.{needs_byte}
use Rattle.csv.specs.Writing.{default_writer}
use Rattle.retire.specs.Log.{events_up_to, log_of_records, most_rows, records_of}
use Rattle.retire.specs.steps.ReadsRows.{ReadsFront}
use Rattle.retire.specs.steps.RowsLeft.{records_left, with_events}
use Rattle.csv.specs.declared.parser.State.TheVariants.{StartRecord}
use Rattle.retire.specs.LogText.{event_fields, event_line}
use Rattle.retire.specs.Number.{is_hex_digit, is_numeral, is_prefix, number_of, without_prefix}
use Rattle.retire.specs.PlainLog.{ArePlainRows, AreLines, EndsLine, IsLine, WrittenIsPlain}
use Rattle.retire.specs.Row.{is_garbled, known_event, row_event}
use Rattle.retire.specs.declared.event.Event.{Event}
use Rattle.retire.specs.steps.Header.{HasHeader, IsHeaderBefore}
use Rattle.retire.specs.steps.PlainRow.{EndsLineIn, IsPlainRow, Spells}
use Rattle.retire.proofs.HexLemmas.{all-AllDigits, list_any-AllDigits}
use Rattle.retire.proofs.PlainRowLemmas.{header-log, needs_prefix, no_garbled, records_left-empty}
use Rattle.retire.proofs.EventsLemmas.{with_event-ok, with_events-end}
use Rattle.retire.proofs.RoundTrip.{events-fields}

numeral-plain : (text : List ℕ) → is_numeral text ≡ true → list_any (needs_byte default_writer) text ≡ false
numeral-plain text e = list_any-AllDigits text (all-AllDigits text (and_parts _ (list_all is_hex_digit text) e).1)

spelling-plain : (field : List ℕ) → is_numeral (without_prefix field) ≡ true
    → list_any (needs_byte default_writer) field ≡ false
spelling-plain [] e = refl
spelling-plain (a ∷ []) e = numeral-plain (a ∷ []) e
spelling-plain (a ∷ b ∷ rest) e = elim (cases_Bool (is_prefix a b)) [
  | inl y ↦
      let needs = needs_prefix a b y in
      let numeral : is_numeral rest ≡ true = rw y at e in
      rw (needs.0, needs.1) (numeral-plain rest numeral)
  | inr n ↦ numeral-plain (a ∷ b ∷ rest) (rw n at e)
]

-- A field that spells a number calls for no quotes.
number-spells : (field : List ℕ) (n : ℕ) → number_of field ≡ Some n → Spells field (Some n)
number-spells field n e = (
  e,
  no_garbled field n,
  elim (cases_Bool (is_numeral (without_prefix field))) [
    | inl numeral ↦ spelling-plain field numeral
    | inr none ↦ cc (rw none at e)
  ],
)

-- Nor does one that is empty or spells one.
clean-spells : (field : List ℕ) (number : Option ℕ) → number_of field ≡ number → is_garbled field number ≡ false
    → Spells field number
clean-spells field (Some n) e clean = number-spells field n e
clean-spells [] None e clean = (e, clean, refl)
clean-spells (c ∷ field) None e clean =
    let some : nat_lt 0 (length (c ∷ field)) ≡ true = search (rules, arith) in cc (rw some at clean)

-- The numbers of a row that has an event.
known-numbers : (row : ℕ) (a b c d e : Option ℕ) (event : Event) → known_event row a b c d e ≡ Ok event
    → (x : ℕ) × (y : ℕ) × (z : ℕ) × (a ≡ Some x) × (b ≡ Some y) × (c ≡ Some z)
known-numbers row (Some x) (Some y) (Some z) d e event known = (x, y, z, refl, refl, refl)
known-numbers row None b c d e event known = cc known
known-numbers row (Some x) None c d e event known = cc known
known-numbers row (Some x) (Some y) None d e event known = cc known

joined : (a b c d e end : List ℕ)
    → join_with_byte 44 (a ∷ b ∷ c ∷ d ∷ e ∷ []) ++ end ≡ a ++ 44 ∷ (b ++ 44 ∷ (c ++ 44 ∷ (d ++ 44 ∷ (e ++ end))))
joined a b c d e end = append_assoc a (44 ∷ (b ++ 44 ∷ (c ++ 44 ∷ (d ++ 44 ∷ e)))) end
    ∙ ap (λ t. a ++ 44 ∷ t) (append_assoc b (44 ∷ (c ++ 44 ∷ (d ++ 44 ∷ e))) end)
    ∙ ap (λ t. a ++ 44 ∷ (b ++ 44 ∷ t)) (append_assoc c (44 ∷ (d ++ 44 ∷ e)) end)
    ∙ ap (λ t. a ++ 44 ∷ (b ++ 44 ∷ (c ++ 44 ∷ t))) (append_assoc d (44 ∷ e) end)

-- A line whose row has an event is five numbers, of which two may be missing.
five-numbers : (row x y z : ℕ) (a b c d e text end rest : List ℕ) (event : Event)
    → text ≡ join_with_byte 44 (a ∷ b ∷ c ∷ d ∷ e ∷ []) ++ end → EndsLine end rest
    → number_of a ≡ Some x → number_of b ≡ Some y → number_of c ≡ Some z → is_garbled d (number_of d) ≡ false
    → is_garbled e (number_of e) ≡ false
    → known_event row (number_of a) (number_of b) (number_of c) (number_of d) (number_of e) ≡ Ok event
    → IsPlainRow row text rest
five-numbers row x y z a b c d e text end rest event whole ends is_x is_y is_z clean_d clean_e known = record {
  addr = x;
  itype = y;
  privilege = z;
  cause = number_of d;
  tval = number_of e;
  event = event;
  after_addr = b ++ 44 ∷ (c ++ 44 ∷ (d ++ 44 ∷ (e ++ end)));
  after_itype = c ++ 44 ∷ (d ++ 44 ∷ (e ++ end));
  after_privilege = d ++ 44 ∷ (e ++ end);
  after_cause = e ++ end;
  after_tval = end;
  first = (a, whole ∙ joined a b c d e end, number-spells a x is_x);
  second = (b, refl, number-spells b y is_y);
  third = (c, refl, number-spells c z is_z);
  fourth = (d, refl, clean-spells d (number_of d) refl clean_d);
  fifth = (e, refl, clean-spells e (number_of e) refl clean_e);
  ends = ends;
  known = rw (is_x, is_y, is_z) at known;
}

five-fields : (row : ℕ) (a b c d e text end rest : List ℕ) (event : Event)
    → text ≡ join_with_byte 44 (a ∷ b ∷ c ∷ d ∷ e ∷ []) ++ end → EndsLine end rest
    → row_event row (a ∷ b ∷ c ∷ d ∷ e ∷ []) ≡ Ok event → IsPlainRow row text rest
five-fields row a b c d e text end rest event whole ends known =
    elim (cases_Bool (is_garbled d (number_of d) || is_garbled e (number_of e))) [
      | inl garbled ↦ cc (rw garbled at known)
      | inr clean ↦
          let good : known_event row (number_of a) (number_of b) (number_of c) (number_of d) (number_of e) ≡ Ok event =
          rw clean at known in
          let (x, y, z, is_x, is_y, is_z) =
          known-numbers row (number_of a) (number_of b) (number_of c) (number_of d) (number_of e) event good in
          let cleans = or_parts (is_garbled d (number_of d)) (is_garbled e (number_of e)) clean in
          five-numbers row x y z a b c d e text end rest event whole ends is_x is_y is_z cleans.0 cleans.1 good
    ]

plain-row : (row : ℕ) (fields : List (List ℕ)) (text rest : List ℕ) (event : Event) → IsLine fields text rest
    → row_event row fields ≡ Ok event → IsPlainRow row text rest
plain-row row (a ∷ b ∷ c ∷ d ∷ e ∷ []) text rest event (end, whole, ends) known =
    five-fields row a b c d e text end rest event whole ends known
plain-row row [] text rest event line known = cc known
plain-row row (a ∷ []) text rest event line known = cc known
plain-row row (a ∷ b ∷ []) text rest event line known = cc known
plain-row row (a ∷ b ∷ c ∷ []) text rest event line known = cc known
plain-row row (a ∷ b ∷ c ∷ d ∷ []) text rest event line known = cc known
plain-row row (a ∷ b ∷ c ∷ d ∷ f ∷ g ∷ more) text rest event line known = cc known

-- Where a text of plain rows goes on, a plain row stands in front, of a number within the limit, and plain rows follow.
pub plain-next : (most row : ℕ) (text : List ℕ) → ArePlainRows most row text → 0 < length text
    → (row ≤ most) × ((rest : List ℕ) × IsPlainRow row text rest × ArePlainRows most (row + 1) rest)
unfolding events_up_to AreLines
plain-next most row text ([], events, empty, all) some =
    let none = ap length empty in absurd (omega (arith, none, some))
plain-next most row text (fields ∷ rows, events, (rest, line, lines), all) some = elim (cases_Bool (nat_lt most row)) [
  | inl long ↦ cc (rw long at all)
  | inr short ↦
      let (event, more, first, others, whole) =
      with_event-ok (row_event row fields) (events_up_to most (row + 1) rows) events (rw short at all) in
      (search (rules, arith), (rest, plain-row row fields text rest event line first, (rows, more, lines, others)))
]

lines-written : (events : List Event) → AreLines (map event_fields events) (flat_map event_line events)
unfolding AreLines
lines-written [] = refl
lines-written (event ∷ events) =
    let rest = flat_map event_line events in (
      rest,
      (10 ∷ rest, append_assoc (join_with_byte 44 (event_fields event)) (10 ∷ []) rest, inl refl),
      lines-written events,
    )

pub written_is_plain : WrittenIsPlain
written_is_plain events ranged few =
    let rest = flat_map event_line events in (
      rest,
      (10 ∷ rest, refl, inl refl),
      (map event_fields events, events, lines-written events, events-fields most_rows 1 events ranged (omega arith)),
    )

-- A list that is not empty, by its test.
pub not_empty : (text : List ℕ) (empty : Bool) → empty ≡ (length text == 0) → empty ≡ false → 0 < length text
not_empty text empty e none = search (rules, arith)

-- Behind the last row that a log may have nothing is left of plain rows.
pub plain-all : (most row : ℕ) (text : List ℕ) → most < row → ArePlainRows most row text → text ≡ []
plain-all most row [] past plain = refl
plain-all most row (c ∷ text) past plain =
    let next = plain-next most row (c ∷ text) plain (omega arith) in
    absurd (let within = next.0 in omega (arith, within, past))

pub header-ended : (found : Option (Bor (List ℕ))) (ended : Bool) (text end : List ℕ) → IsHeaderBefore text end
    → IfSome found (λ r. EndsLineIn ended end r.now) → IfSome found (λ r. HasHeader ended text r.now)
header-ended None ended text end names ends = tt
header-ended (Some rest) ended text end names ends = (end, names, ends)

-- A plain log is the header's line and its rows.
pub log-plain : (text rows rest : List ℕ) (before after : List Event) (count : ℕ) (empty : Bool)
    → HasHeader true text rows → ReadsFront most_rows 0 true rows before after count rest
    → before ≡ [] → empty ≡ (length rest == 0) → empty ≡ true → log_of_records (records_of text) ≡ Ok after
log-plain text rows rest before after count empty line r none e all =
    let ended : length (rest ++ []) ≡ 0 = ap length (append-nil rest) ∙ eqb-true (length rest) 0 (sym e ∙ all) in
    header-log most_rows text rows line
    ∙ ap (λ t. events_up_to most_rows 1 (records_left StartRecord t)) (sym (append-nil rows)) ∙ r.read [] (λ x. refl)
    ∙ ap (λ t. with_events r.piece (events_up_to most_rows (count + 1) t)) (records_left-empty (rest ++ []) ended)
    ∙ with_events-end r.piece most_rows (count + 1) ∙ ap Ok (sym (r.appended ∙ ap (λ t. t ++ r.piece) none))
