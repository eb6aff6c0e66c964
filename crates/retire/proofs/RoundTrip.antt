-- What is written is read back.
use Rattle.std.proofs.Common.{◌≡◌, ◌≢◌, ◌⊎◌, ◌≤◌, ◌<◌, ◌^◌, ◌%◌, ◌==◌, ◌+◌, ◌++◌, ◌∙◌, ℕ, List, [], ◌∷◌, All}
use Rattle.std.proofs.Common.{true, false, None, Ok, lit<, codes, length, map, nat_lt, arith, rules, refl, ap}
use Rattle.std.proofs.Common.{inl, inr, append-nil}
use Rattle.std.proofs.lemmas.Bool.{ne_eqb}
use Rattle.std.proofs.lemmas.List.Elements.{All-head, All-tail}
use Rattle.std.specs.List.{flat_map, join_with_byte, list_any}
use Rattle.std.proofs.Math.Bool.{and-false}
use Rattle.isa.specs.Address.{IsAddress}
use Rattle.isa.specs.Privilege.{IsPrivilege, is_privilege}
use Rattle.csv.proofs.RoundTrip.{read-write}
use Rattle.csv.specs.Machine.{next_record}
use Rattle.csv.specs.Quoting.{needs_byte}
use Rattle.csv.specs.Reading.{strip_bom}
use Rattle.csv.specs.Writing.{default_writer, fields_text, is_blank, row_body, row_text}
use Rattle.csv.specs.declared.parser.State.TheVariants.{StartRecord}
use Rattle.retire.specs.Log.{events_up_to, log_up_to, most_rows, records_of}
use Rattle.retire.specs.LogText.{event_fields, event_line, hex, line_of_fields, log_text}
use Rattle.retire.specs.Number.{number_of}
use Rattle.retire.specs.InRange.{IsInRange, IsRetirementType}
use Rattle.retire.specs.ReadBack.{ReadsBack}
use Rattle.retire.specs.Row.{is_garbled, numbers_event, row_event}
use Rattle.retire.specs.steps.RowsLeft.{records_left}
use Rattle.retire.specs.declared.event.Event.{Event}
use Rattle.retire.specs.declared.event.Event.TheVariants.{Retire, Trap}
use Rattle.retire.proofs.HexLemmas.{list_any-hex, number_of-hex}
use Rattle.retire.proofs.EventsLemmas.{events-event}
use Rattle.retire.proofs.RecordsLemmas.{records_left-none, records_left-some}

-- No byte of these fields calls for quotes.
pub data ArePlain : List (List ℕ) → Type 0 where
  plain-nil : ArePlain []
  plain-cons : (field : List ℕ) (rest : List (List ℕ)) → list_any (needs_byte default_writer) field ≡ false
      → ArePlain rest → ArePlain (field ∷ rest)

-- Such fields are written with commas between them.
row_body-plain : (field : List ℕ) (rest : List (List ℕ)) → ArePlain (field ∷ rest)
    → row_body default_writer (field ∷ rest) ≡ join_with_byte 44 (field ∷ rest)
unfolding fields_text
row_body-plain field [] (plain-cons f r plain p) = rw (plain, append-nil) refl
row_body-plain field (next ∷ rest) (plain-cons f r plain p) = rw (plain, row_body-plain next rest p) refl

row_text-plain : (a b : List ℕ) (rest : List (List ℕ)) → ArePlain (a ∷ b ∷ rest)
    → row_text default_writer (a ∷ b ∷ rest) ≡ line_of_fields (a ∷ b ∷ rest)
unfolding is_blank
row_text-plain a b rest p = rw (row_body-plain a (b ∷ rest) p) refl

small_privilege : (priv : ℕ) → IsPrivilege priv → priv < 2 ^ 64
small_privilege priv level = omega (arith, level.0)

small_type : (itype : ℕ) → IsRetirementType itype → itype < 2 ^ 64
small_type itype (inl e) = omega (arith, e)
small_type itype (inr h) = omega (arith, h.1)

small_cause : (cause : ℕ) → cause < 64 → cause < 2 ^ 64
small_cause cause h = omega arith

-- The first record of a line and what follows it.
records_left-line : (a b : List ℕ) (fields : List (List ℕ)) (rest : List ℕ) → ArePlain (a ∷ b ∷ fields)
    → records_left StartRecord (line_of_fields (a ∷ b ∷ fields) ++ rest)
    ≡ (a ∷ b ∷ fields) ∷ records_left StartRecord rest
records_left-line a b fields rest p =
    let first = rw (row_text-plain a b fields p) at (read-write (a ∷ b ∷ fields) rest) in
    records_left-some StartRecord _ _ (inl refl) first

records_left-event : (event : Event) (rest : List ℕ) → IsInRange event
    → records_left StartRecord (event_line event ++ rest) ≡ event_fields event ∷ records_left StartRecord rest
records_left-event (Retire addr itype priv) rest (address, type, privilege) =
    records_left-line (hex addr) (hex itype) _ rest (
    plain-cons _ _ (list_any-hex addr address.0) (plain-cons _ _ (list_any-hex itype (small_type itype type)) (
    plain-cons _ _ (list_any-hex priv (small_privilege priv privilege))
    (plain-cons _ _ refl (plain-cons _ _ refl plain-nil)))))
records_left-event (Trap priv true cause epc tval) rest (address, privilege, below, value, none) =
    records_left-line (hex epc) (hex 2) _ rest (
    plain-cons _ _ (list_any-hex epc address.0) (plain-cons _ _ (list_any-hex 2 (lit< tt)) (
    plain-cons _ _ (list_any-hex priv (small_privilege priv privilege))
    (plain-cons _ _ (list_any-hex cause (small_cause cause below)) (plain-cons _ _ refl plain-nil)))))
records_left-event (Trap priv false cause epc tval) rest (address, privilege, below, value, none) =
    records_left-line (hex epc) (hex 1) _ rest (
    plain-cons _ _ (list_any-hex epc address.0) (plain-cons _ _ (list_any-hex 1 (lit< tt)) (
    plain-cons _ _ (list_any-hex priv (small_privilege priv privilege))
    (plain-cons _ _ (list_any-hex cause (small_cause cause below)) (
    plain-cons _ _ (list_any-hex tval value) plain-nil)))))

records_left-events : (events : List Event) → All IsInRange events
    → records_left StartRecord (flat_map event_line events) ≡ map event_fields events
unfolding next_record
records_left-events [] h = records_left-none StartRecord [] refl
records_left-events (event ∷ rest) h =
    records_left-event event (flat_map event_line rest) (All-head IsInRange event rest h)
    ∙ ap (λ t. event_fields event ∷ t) (records_left-events rest (All-tail IsInRange event rest h))

is_privilege-IsPrivilege : (priv : ℕ) → IsPrivilege priv → is_privilege priv ≡ true
is_privilege-IsPrivilege priv level =
    let low : priv ≤ 3 = level.0 in
    let known : priv ≢ 2 = level.1 in
    let one_of : (priv ≡ 0) ⊎ ((priv ≡ 1) ⊎ (priv ≡ 3)) = grind arith in
    elim one_of [ inl e ↦ rw e refl | inr other ↦ elim other [ inl e ↦ rw e refl | inr e ↦ rw e refl ] ]

is_even : (addr : ℕ) → IsAddress addr → (addr % 2 == 1) ≡ false
is_even addr (small, even) = rw even refl

is_garbled-hex : (n : ℕ) → n < 2 ^ 64 → is_garbled (hex n) (number_of (hex n)) ≡ false
is_garbled-hex n small = rw (number_of-hex n small) (and-false _)

is_low_cause : (cause : ℕ) → cause < 64 → nat_lt 63 cause ≡ false
is_low_cause cause below = search (rules, arith)

-- The numbers of a retirement.
numbers_event-Retire : (row addr itype priv : ℕ) → IsInRange (Retire addr itype priv)
    → numbers_event row addr itype priv None None ≡ Ok (Retire addr itype priv)
numbers_event-Retire row addr itype priv (address, inl e, privilege) =
    rw (is_even addr address, e, is_privilege-IsPrivilege priv privilege) refl
numbers_event-Retire row addr itype priv (address, inr (low, high), privilege) =
    let known : nat_lt 6 itype ≡ false = search (rules, arith) in
    let no_exception : (itype == 1) ≡ false = ne_eqb itype 1 (λ e. absurd (omega (arith, e))) in
    let no_interrupt : (itype == 2) ≡ false = ne_eqb itype 2 (λ e. absurd (omega (arith, e))) in
    rw (is_even addr address, known, is_privilege-IsPrivilege priv privilege, no_exception, no_interrupt) refl

-- The row of an event holds it.
row_event-fields : (row : ℕ) (event : Event) → IsInRange event → row_event row (event_fields event) ≡ Ok event
row_event-fields row (Retire addr itype priv) h =
    rw (
      number_of-hex addr h.0.0,
      number_of-hex itype (small_type itype h.1),
      number_of-hex priv (small_privilege priv h.2),
    )
    (numbers_event-Retire row addr itype priv h)
row_event-fields row (Trap priv true cause epc tval) (address, privilege, below, value, none) =
    rw (
      is_garbled-hex cause (small_cause cause below),
      number_of-hex epc address.0,
      number_of-hex 2 (lit< tt),
      number_of-hex priv (small_privilege priv privilege),
      number_of-hex cause (small_cause cause below),
      is_even epc address,
      is_privilege-IsPrivilege priv privilege,
      is_low_cause cause below,
      none refl,
    ) refl
row_event-fields row (Trap priv false cause epc tval) (address, privilege, below, value, none) =
    rw (
      is_garbled-hex cause (small_cause cause below),
      is_garbled-hex tval value,
      number_of-hex epc address.0,
      number_of-hex 1 (lit< tt),
      number_of-hex priv (small_privilege priv privilege),
      number_of-hex cause (small_cause cause below),
      number_of-hex tval value,
      is_even epc address,
      is_privilege-IsPrivilege priv privilege,
      is_low_cause cause below,
    ) refl

pub events-fields : (most row : ℕ) (events : List Event) → All IsInRange events → row + length events ≤ most + 1
    → events_up_to most row (map event_fields events) ≡ Ok events
unfolding events_up_to
events-fields most row [] h n = refl
events-fields most row (event ∷ rest) h n =
    let one =
    events-event most row (event_fields event) (map event_fields rest) event (omega arith)
    (row_event-fields row event (All-head IsInRange event rest h)) in
    let more = events-fields most (row + 1) rest (All-tail IsInRange event rest h) (omega arith) in
    one ∙ rw more refl

pub reads_back_up_to : (most : ℕ) (events : List Event) → All IsInRange events → length events ≤ most
    → log_up_to most (records_of (log_text events)) ≡ Ok events
unfolding strip_bom
reads_back_up_to most events h n =
    let first =
    records_left-line (codes "addr") (codes "itype") (codes "priv" ∷ codes "cause" ∷ codes "tval" ∷ [])
    (flat_map event_line events)
    (plain-cons _ _ refl
    (plain-cons _ _ refl (plain-cons _ _ refl (plain-cons _ _ refl (plain-cons _ _ refl plain-nil))))) in
    rw (first, records_left-events events h) (events-fields most 1 events h (omega arith))

pub reads_back : ReadsBack
reads_back = reads_back_up_to most_rows
