-- What is counted of a hart is what an audit of the whole captures counts.
use Rattle.std.proofs.Common.{◌≡◌, ℕ, ◌+◌, ◌^◌, ◌<◌, ◌≤◌, Bool, true, false, cond, eqb, not, ◌&&◌, max}
use Rattle.std.proofs.Common.{List, [], ◌∷◌, ◌++◌, Option, length, map, refl, sym, ap, ◌∙◌, arith, zero-add}
use Rattle.std.specs.List.{count_by, filter, sum_by}
use Rattle.std.proofs.lemmas.Bool.{eqb-true}
use Rattle.std.proofs.lemmas.List.Sums.{sum_by-cons}
use Rattle.payload.specs.declared.by.By.{By}
use Rattle.message.specs.OfHart.{of_hart}
use Rattle.message.specs.declared.message.Message.{Message}
use Rattle.auditing.proofs.AddingUp.{came_adds, sent_adds}
use Rattle.auditing.proofs.KnownLemmas.{known-more, known-turn}
use Rattle.auditing.specs.Fates.{fate_of, has_number}
use Rattle.auditing.specs.Findings.{fate_of_finding, finding_by, found_after, found_one, late_by, latest_of, own_skips, skips_in, skips_of}
use Rattle.auditing.specs.HartRows.{row_of}
use Rattle.auditing.specs.Judged.{Judged, fates_counted, is_fate, judged_behind, judged_one}
use Rattle.auditing.specs.Known.{known_all, known_one}
use Rattle.auditing.specs.Losing.{lost_numbers}
use Rattle.auditing.specs.Sent.{AreInTurn}
use Rattle.auditing.specs.declared.fate.Fate.{Fate}
use Rattle.auditing.specs.declared.fate.Fate.TheVariants as fate
use Rattle.auditing.specs.declared.finding.Finding.{Finding}
use Rattle.auditing.specs.declared.finding.Finding.TheVariants as finding
use Rattle.auditing.specs.declared.lost.Lost.{Lost}
use Rattle.live.specs.AsAudited.{AreClear, SameCounts, audit_lines, given_in, line_of, lines_after, lines_of, placed_from}
use Rattle.live.specs.AsAudited.{skipped_by}
use Rattle.live.specs.Compared.{known_finding, known_trues}
use Rattle.live.specs.Lines.{Line, Decided, TooLate, GivenUp, Missing}
use Rattle.live.specs.Live.{held, live}
use Rattle.live.specs.Rows.{counted, counts_after, counts_in, found_counts, given_counts, hart_of, late_counts, no_counts, row_in}
use Rattle.live.specs.declared.arrived.Arrived.{Arrived}
use Rattle.live.specs.declared.held.SentMessage.{SentMessage}
use Rattle.live.specs.declared.rows.LineCounts.{LineCounts}
use Rattle.live.proofs.AddingUp.{rows_add}
use Rattle.live.proofs.GivenLines.{given_alike}
use Rattle.live.proofs.HartLines.{found_alike}
use Rattle.live.proofs.WholeLines.{fates, fates_more}

-- A test counts one or none.
one_counted : (b : Bool) → cond b 1 0 ≤ 1
one_counted true = omega arith
one_counted false = omega arith

-- A count that each line of the hart adds one to that passes a test, as long as it is not too great.
count_field : (hart : ℕ) (field : LineCounts → ℕ) (test : Line → Bool)
    → ((line : Line) (own : LineCounts) → field own + 1 < 2 ^ 64 → field (counted line own) ≡ field own + cond (test line) 1 0)
    → (lines : List Line) (own : LineCounts) → field own + length lines < 2 ^ 64
    → field (counts_after hart own lines) ≡ field own + count_by (λ line. eqb (hart_of line) hart && test line) lines
count_field hart field test each [] own less = omega arith
count_field hart field test each (line ∷ lines) own less =
    let first = go (eqb (hart_of line) hart) in
    let few = one_counted (eqb (hart_of line) hart && test line) in
    let rest = count_field hart field test each lines (cond (eqb (hart_of line) hart) (counted line own) own)
    (omega (arith, first, few, less)) in
    let split = sum_by-cons (λ (l : Line). cond (eqb (hart_of l) hart && test l) 1 0) line lines in
    omega (arith, first, rest, split)
  where
    go : (its : Bool) → field (cond its (counted line own) own) ≡ field own + cond (its && test line) 1 0
    go true = each line own (omega (arith, less))
    go false = omega arith

-- The lines of a hart's messages that pass a test.
count_own : (hart : ℕ) (test : Line → Bool) → ((slot : SentMessage) → test (GivenUp slot) ≡ false)
    → ((other : ℕ) (lost : Lost) → test (Missing other lost) ≡ false) → (lines : List Line)
    → count_by (λ line. eqb (hart_of line) hart && test line) lines ≡ count_by test (lines_of hart lines)
count_own hart test given missing [] = refl
count_own hart test given missing (line ∷ lines) =
    sum_by-cons (λ (l : Line). cond (eqb (hart_of l) hart && test l) 1 0) line lines
    ∙ ap (λ n. cond (eqb (hart_of line) hart && test line) 1 0 + n) (count_own hart test given missing lines)
    ∙ go line
  where
    by : (line : Line) (own : Bool) → cond (own && test line) 1 0 + count_by test (lines_of hart lines)
        ≡ count_by test (cond own (line ∷ lines_of hart lines) (lines_of hart lines))
    by line true = sym (sum_by-cons (λ (l : Line). cond (test l) 1 0) line (lines_of hart lines))
    by line false = zero-add (count_by test (lines_of hart lines))

    passed : (own its : Bool) → its ≡ false → cond (own && its) 1 0 + count_by test (lines_of hart lines)
        ≡ count_by test (lines_of hart lines)
    passed true its is = ap (λ b. cond b 1 0 + count_by test (lines_of hart lines)) is ∙ zero-add (count_by test (lines_of hart lines))
    passed false its is = zero-add (count_by test (lines_of hart lines))

    go : (line : Line) → cond (eqb (hart_of line) hart && test line) 1 0 + count_by test (lines_of hart lines)
        ≡ count_by test (lines_of hart (line ∷ lines))
    go (Decided one its sent) = by (Decided one its sent) (eqb one.message.hart hart)
    go (TooLate one) = by (TooLate one) (eqb one.message.hart hart)
    go (GivenUp slot) = passed (eqb slot.message.hart hart) (test (GivenUp slot)) (given slot)
    go (Missing other lost) = passed (eqb other hart) (test (Missing other lost)) (missing other lost)

-- The count of each fate but that of a message in order.
abbrev field_of : Fate → LineCounts → ℕ
field_of fate.Stranger own = own.strange
field_of fate.Changed own = own.changed
field_of fate.Repeat own = own.repeated
field_of fate.Late own = own.late
field_of fate.InOrder own = 0

abbrev has_fate : Fate → Line → Bool
has_fate its (Decided one found sent) = is_fate its (fate_of_finding found)
has_fate its other = false

found_field : (its : Fate) → is_fate fate.InOrder its ≡ false → (found : Finding) (own : LineCounts)
    → field_of its own + 1 < 2 ^ 64
    → field_of its (found_counts found own) ≡ field_of its own + cond (is_fate its (fate_of_finding found)) 1 0
found_field fate.InOrder never found own less = cc
found_field fate.Stranger other finding.Stranger own less = omega (arith, less)
found_field fate.Stranger other found own less = omega arith
found_field fate.Changed other finding.Changed own less = omega (arith, less)
found_field fate.Changed other found own less = omega arith
found_field fate.Repeat other finding.Repeat own less = omega (arith, less)
found_field fate.Repeat other found own less = omega arith
found_field fate.Late other (finding.Late by) own less = omega (arith, less)
found_field fate.Late other found own less = omega arith

other_field : (its : Fate) (own : LineCounts)
    → (field_of its (late_counts own) ≡ field_of its own + 0)
    × ((came : Bool) → field_of its (given_counts came own) ≡ field_of its own + 0) × (field_of its own ≡ field_of its own + 0)
other_field fate.Stranger own = (omega arith, given, omega arith)
  where
    given : (came : Bool) → (given_counts came own).strange ≡ own.strange + 0
    given true = omega arith
    given false = omega arith
other_field fate.Changed own = (omega arith, given, omega arith)
  where
    given : (came : Bool) → (given_counts came own).changed ≡ own.changed + 0
    given true = omega arith
    given false = omega arith
other_field fate.Repeat own = (omega arith, given, omega arith)
  where
    given : (came : Bool) → (given_counts came own).repeated ≡ own.repeated + 0
    given true = omega arith
    given false = omega arith
other_field fate.Late own = (omega arith, given, omega arith)
  where
    given : (came : Bool) → (given_counts came own).late ≡ own.late + 0
    given true = omega arith
    given false = omega arith
other_field fate.InOrder own = (omega arith, λ came. omega arith, omega arith)

line_field : (its : Fate) → is_fate fate.InOrder its ≡ false → (line : Line) (own : LineCounts)
    → field_of its own + 1 < 2 ^ 64 → field_of its (counted line own) ≡ field_of its own + cond (has_fate its line) 1 0
line_field its other (Decided one found sent) own less = found_field its other found own less
line_field its other (TooLate one) own less = (other_field its own).0
line_field its other (GivenUp slot) own less = (other_field its own).1 slot.came
line_field its other (Missing hart lost) own less = (other_field its own).2

-- How many came, and how many are lost.
abbrev is_message : Line → Bool
is_message (Decided one found sent) = true
is_message (TooLate one) = true
is_message other = false

line_came : (line : Line) (own : LineCounts) → own.came + 1 < 2 ^ 64
    → (counted line own).came ≡ own.came + cond (is_message line) 1 0
line_came (Decided one finding.Stranger sent) own less = omega (arith, less)
line_came (Decided one found sent) own less = omega (arith, less)
line_came (TooLate one) own less = omega (arith, less)
line_came (GivenUp slot) own less = go slot.came
  where
    go : (came : Bool) → (given_counts came own).came ≡ own.came + 0
    go true = omega arith
    go false = omega arith
line_came (Missing hart lost) own less = omega arith

abbrev is_late_one : Line → Bool
is_late_one (TooLate one) = true
is_late_one other = false

line_too_late : (line : Line) (own : LineCounts) → own.too_late + 1 < 2 ^ 64
    → (counted line own).too_late ≡ own.too_late + cond (is_late_one line) 1 0
line_too_late (Decided one finding.Stranger sent) own less = omega arith
line_too_late (Decided one found sent) own less = omega arith
line_too_late (TooLate one) own less = omega (arith, less)
line_too_late (GivenUp slot) own less = go slot.came
  where
    go : (came : Bool) → (given_counts came own).too_late ≡ own.too_late + 0
    go true = omega arith
    go false = omega arith
line_too_late (Missing hart lost) own less = omega arith

abbrev is_loss : Line → Bool
is_loss (GivenUp slot) = not slot.came
is_loss other = false

line_lost : (line : Line) (own : LineCounts) → own.lost + 1 < 2 ^ 64
    → (counted line own).lost ≡ own.lost + cond (is_loss line) 1 0
line_lost (Decided one finding.Stranger sent) own less = omega arith
line_lost (Decided one found sent) own less = omega arith
line_lost (TooLate one) own less = omega arith
line_lost (GivenUp slot) own less = go slot.came
  where
    go : (came : Bool) → (given_counts came own).lost ≡ own.lost + cond (not came) 1 0
    go true = omega arith
    go false = omega (arith, less)
line_lost (Missing hart lost) own less = omega arith

-- By how much the message of a line is late, and the most by which one is.
abbrev late_in : Line → ℕ
late_in (Decided one its sent) = late_by its
late_in other = 0

abbrev latest_in : List Line → ℕ
latest_in [] = 0
latest_in (line ∷ lines) = max (late_in line) (latest_in lines)

line_latest : (line : Line) (own : LineCounts) → (counted line own).latest ≡ max own.latest (late_in line)
line_latest (Decided one (finding.Late by) sent) own = refl
line_latest (Decided one found sent) own = omega arith
line_latest (TooLate one) own = omega arith
line_latest (GivenUp slot) own = go slot.came
  where
    go : (came : Bool) → (given_counts came own).latest ≡ max own.latest 0
    go true = omega arith
    go false = omega arith
line_latest (Missing hart lost) own = omega arith

latest_lines : (hart : ℕ) (lines : List Line) (own : LineCounts)
    → (counts_after hart own lines).latest ≡ max own.latest (latest_in (lines_of hart lines))
latest_lines hart [] own = omega arith
latest_lines hart (line ∷ lines) own = latest_lines hart lines next ∙ go line
  where
    next : LineCounts
    next = cond (eqb (hart_of line) hart) (counted line own) own

    by : (line : Line) (its : Bool) (rest : List Line) → max (cond its (counted line own) own).latest (latest_in rest)
        ≡ max own.latest (latest_in (cond its (line ∷ rest) rest))
    by line true rest = let first = line_latest line own in omega (arith, first)
    by line false rest = refl

    beside : (line : Line) (its : Bool) → late_in line ≡ 0 → (rest : ℕ)
        → max (cond its (counted line own) own).latest rest ≡ max own.latest rest
    beside line true none rest = let first = line_latest line own in omega (arith, first, none)
    beside line false none rest = refl

    go : (line : Line) → max (cond (eqb (hart_of line) hart) (counted line own) own).latest (latest_in (lines_of hart lines))
        ≡ max own.latest (latest_in (lines_of hart (line ∷ lines)))
    go (Decided one its sent) = by (Decided one its sent) (eqb one.message.hart hart) (lines_of hart lines)
    go (TooLate one) = by (TooLate one) (eqb one.message.hart hart) (lines_of hart lines)
    go (GivenUp slot) = beside (GivenUp slot) (eqb slot.message.hart hart) refl (latest_in (lines_of hart lines))
    go (Missing other lost) = beside (Missing other lost) (eqb other hart) refl (latest_in (lines_of hart lines))

-- What is lost is given up.
lost_given : (hart : ℕ) (lines : List Line)
    → count_by (λ line. eqb (hart_of line) hart && is_loss line) lines
    ≡ count_by (λ (slot : SentMessage). eqb slot.message.hart hart && not slot.came) (given_in lines)
lost_given hart [] = refl
lost_given hart (line ∷ lines) =
    sum_by-cons (λ (l : Line). cond (eqb (hart_of l) hart && is_loss l) 1 0) line lines
    ∙ ap (λ n. cond (eqb (hart_of line) hart && is_loss line) 1 0 + n) (lost_given hart lines) ∙ go line
  where
    rest : ℕ
    rest = count_by (λ (slot : SentMessage). eqb slot.message.hart hart && not slot.came) (given_in lines)

    none : (own : Bool) → cond (own && false) 1 0 + rest ≡ rest
    none true = zero-add rest
    none false = zero-add rest

    go : (line : Line) → cond (eqb (hart_of line) hart && is_loss line) 1 0 + rest
        ≡ count_by (λ (slot : SentMessage). eqb slot.message.hart hart && not slot.came) (given_in (line ∷ lines))
    go (Decided one its sent) = none (eqb one.message.hart hart)
    go (TooLate one) = none (eqb one.message.hart hart)
    go (GivenUp slot) =
        sym (sum_by-cons (λ (s : SentMessage). cond (eqb s.message.hart hart && not s.came) 1 0) slot (given_in lines))
    go (Missing other lost) = none (eqb other hart)

lost_held : (how : By) (trues : List Message) (hart : ℕ) (messages : List Message)
    → count_by (λ (slot : SentMessage). eqb slot.message.hart hart && not slot.came) (map (held trues) messages)
    ≡ length (filter (λ number. not (has_number trues hart number))
    (map (λ (message : Message). message.number) (of_hart hart (known_all how messages))))
lost_held how trues hart [] = refl
lost_held how trues hart (message ∷ messages) =
    sum_by-cons (λ (s : SentMessage). cond (eqb s.message.hart hart && not s.came) 1 0) (held trues message)
    (map (held trues) messages)
    ∙ ap (λ n. cond (eqb message.hart hart && not (has_number trues message.hart message.number)) 1 0 + n)
    (lost_held how trues hart messages)
    ∙ go (eqb message.hart hart) refl
  where
    numbers : List ℕ
    numbers = map (λ (one : Message). one.number) (of_hart hart (known_all how messages))

    lost : List ℕ → List ℕ
    lost all = filter (λ number. not (has_number trues hart number)) all

    by : (came : Bool) → cond (not came) 1 0 + length (lost numbers)
        ≡ length (cond (not came) (message.number ∷ lost numbers) (lost numbers))
    by true = zero-add (length (lost numbers))
    by false = omega arith

    go : (own : Bool) → eqb message.hart hart ≡ own
        → cond (own && not (has_number trues message.hart message.number)) 1 0 + length (lost numbers)
        ≡ length (lost (map (λ (one : Message). one.number)
        (cond own (known_one how message ∷ of_hart hart (known_all how messages)) (of_hart hart (known_all how messages)))))
    go false is = zero-add (length (lost numbers))
    go true is =
        ap (λ h. cond (not (has_number trues h message.number)) 1 0 + length (lost numbers)) (eqb-true message.hart hart is)
        ∙ by (has_number trues hart message.number)

-- The fate of what is found.
fate_back : (its : Fate) (greatest : Option ℕ) (number : ℕ) → fate_of_finding (finding_by its greatest number) ≡ its
fate_back fate.Stranger greatest number = refl
fate_back its greatest number = refl

module _ (how : By) (sent : List Message) (hart : ℕ) where
  abbrev own_lines : ℕ → List Message → List Message → List Line
  own_lines place before messages = lines_of hart (lines_after how sent before (placed_from place messages))

  -- The lines of an audit that have a fate are the messages that have it.
  fates_lines : (its : Fate) (place : ℕ) (before messages : List Message)
      → count_by (has_fate its) (own_lines place before messages)
      ≡ count_by (λ (one : Judged). eqb one.message.hart hart && is_fate its one.fate) (fates how sent before messages)
  fates_lines its place before [] = refl
  fates_lines its place before (message ∷ messages) =
      go (eqb message.hart hart)
      ∙ ap (λ n. cond (eqb message.hart hart && is_fate its found) 1 0 + n)
      (fates_lines its (place + 1) (before ++ message ∷ []) messages
      ∙ sym (ap (count_by test) (fates_more how sent before messages message)))
      ∙ sym (sum_by-cons (λ (one : Judged). cond (test one) 1 0)
      (judged_one (known_all how sent) (known_all how before) (known_one how message))
      (judged_behind (known_all how sent) (known_all how before ++ known_one how message ∷ []) (known_all how messages)))
    where
      test : Judged → Bool
      test one = eqb one.message.hart hart && is_fate its one.fate

      found : Fate
      found = fate_of (known_all how sent) (known_all how before) (known_one how message)

      one : Arrived
      one = record { place = place; message = message }

      later : List Line
      later = own_lines (place + 1) (before ++ message ∷ []) messages

      go : (own : Bool) → count_by (has_fate its) (cond own (line_of how sent before one ∷ later) later)
          ≡ cond (own && is_fate its found) 1 0 + count_by (has_fate its) later
      go true =
          sum_by-cons (λ (l : Line). cond (has_fate its l) 1 0) (line_of how sent before one) later
          ∙ ap (λ f. cond (is_fate its f) 1 0 + count_by (has_fate its) later) (fate_back found _ _)
      go false = sym (zero-add (count_by (has_fate its) later))

  -- Each is a message that came, and none is too late.
  came_lines : (place : ℕ) (before messages : List Message)
      → (count_by is_message (own_lines place before messages) ≡ length (of_hart hart (known_all how messages)))
      × (count_by is_late_one (own_lines place before messages) ≡ 0)
  came_lines place before [] = (refl, refl)
  came_lines place before (message ∷ messages) =
      go (eqb message.hart hart) (came_lines (place + 1) (before ++ message ∷ []) messages)
    where
      one : Arrived
      one = record { place = place; message = message }

      later : List Line
      later = own_lines (place + 1) (before ++ message ∷ []) messages

      rest : List Message
      rest = of_hart hart (known_all how messages)

      go : (own : Bool) → (count_by is_message later ≡ length rest) × (count_by is_late_one later ≡ 0)
          → (count_by is_message (cond own (line_of how sent before one ∷ later) later)
          ≡ length (cond own (known_one how message ∷ rest) rest))
          × (count_by is_late_one (cond own (line_of how sent before one ∷ later) later) ≡ 0)
      go false same = same
      go true same =
          let came = sum_by-cons (λ (l : Line). cond (is_message l) 1 0) (line_of how sent before one) later in
          let late = sum_by-cons (λ (l : Line). cond (is_late_one l) 1 0) (line_of how sent before one) later in
          let count = same.0 in
          let none = same.1 in
          (omega (arith, came, count), omega (arith, late, none))

  -- The numbers that they skip.
  skips_lines : (place : ℕ) (before messages : List Message)
      → sum_by skipped_by (own_lines place before messages)
      ≡ sum_by (own_skips hart) (found_after (known_all how sent) (known_all how before) (known_all how messages))
  skips_lines place before [] = refl
  skips_lines place before (message ∷ messages) =
      go (eqb message.hart hart)
      ∙ ap (λ n. cond (eqb message.hart hart) (skips_of (known_finding how sent before message)) 0 + n)
      (skips_lines (place + 1) (before ++ message ∷ []) messages
      ∙ ap (λ l. sum_by (own_skips hart) (found_after (known_all how sent) l (known_all how messages))) (known-more how before message))
      ∙ sym (sum_by-cons (own_skips hart) (found_one (known_all how sent) (known_all how before) (known_one how message))
      (found_after (known_all how sent) (known_all how before ++ known_one how message ∷ []) (known_all how messages)))
    where
      one : Arrived
      one = record { place = place; message = message }

      later : List Line
      later = own_lines (place + 1) (before ++ message ∷ []) messages

      go : (own : Bool) → sum_by skipped_by (cond own (line_of how sent before one ∷ later) later)
          ≡ cond own (skips_of (known_finding how sent before message)) 0 + sum_by skipped_by later
      go true = sum_by-cons skipped_by (line_of how sent before one) later
      go false = sym (zero-add (sum_by skipped_by later))

  -- The most by which one of them is late.
  latest_found : (place : ℕ) (before messages : List Message)
      → latest_in (own_lines place before messages)
      ≡ latest_of hart (found_after (known_all how sent) (known_all how before) (known_all how messages))
  latest_found place before [] = refl
  latest_found place before (message ∷ messages) =
      go (eqb message.hart hart)
      (latest_found (place + 1) (before ++ message ∷ []) messages
      ∙ ap (λ l. latest_of hart (found_after (known_all how sent) l (known_all how messages))) (known-more how before message))
    where
      one : Arrived
      one = record { place = place; message = message }

      later : List Line
      later = own_lines (place + 1) (before ++ message ∷ []) messages

      rest : ℕ
      rest =
          latest_of hart
          (found_after (known_all how sent) (known_all how before ++ known_one how message ∷ []) (known_all how messages))

      go : (own : Bool) → latest_in later ≡ rest
          → latest_in (cond own (line_of how sent before one ∷ later) later)
          ≡ max (cond own (late_by (known_finding how sent before message)) 0) rest
      go true same = ap (max (late_by (known_finding how sent before message))) same
      go false same = same ∙ omega arith

module _ (harts window : ℕ) (how : By) (sent received : List Message) (turn : AreInTurn harts [] sent)
    (clear : AreClear harts sent (live harts window how sent received)) (hart : ℕ) where
  abbrev said : List Line
  said = live harts window how sent received

  -- As many numbers are skipped.
  pub skips_alike : sum_by skipped_by (lines_of hart said) ≡ skips_in (known_all how sent) (known_all how received) hart
  skips_alike = ap (sum_by skipped_by) (found_alike harts window how sent received turn clear hart) ∙ skips_lines how sent hart 0 [] received

  module _ (few : length said < 2 ^ 64) where
    few_said : 0 + length said < 2 ^ 64
    few_said = omega (arith, few)

    own_count : (test : Line → Bool) → ((slot : SentMessage) → test (GivenUp slot) ≡ false)
        → ((other : ℕ) (lost : Lost) → test (Missing other lost) ≡ false)
        → 0 + count_by (λ line. eqb (hart_of line) hart && test line) said ≡ count_by test (lines_of hart (audit_lines how sent received))
    own_count test given missing =
        zero-add (count_by (λ line. eqb (hart_of line) hart && test line) said)
        ∙ count_own hart test given missing said
        ∙ ap (count_by test) (found_alike harts window how sent received turn clear hart)

    fate_is : (its : Fate) → is_fate fate.InOrder its ≡ false → field_of its no_counts ≡ 0
        → field_of its (counts_in said hart) ≡ fates_counted (known_all how sent) (known_all how received) hart its
    fate_is its other start =
        count_field hart (field_of its) (has_fate its) (line_field its other) said no_counts
        (omega (arith, start, few))
        ∙ ap (λ n. n + count_by (λ line. eqb (hart_of line) hart && has_fate its line) said) start
        ∙ own_count (has_fate its) (λ slot. refl) (λ other lost. refl)
        ∙ fates_lines how sent hart its 0 [] received

    pub counts_alike : SameCounts (row_in said hart) (row_of (known_all how sent) (known_all how received) hart)
    counts_alike = record {
      sent =
          let all = rows_add said hart few in
          let its_sent = sent_adds harts hart (known_all how sent) (known_all how received) (known-turn how harts [] sent turn) in
          let its_came = came_adds hart (known_all how sent) (known_all how received) in
          let came = came_is in
          let lost = lost_is in
          let late = too_late_is in
          let strange = strange_is in
          let changed = changed_is in
          let repeated = repeated_is in
          omega (arith, all, its_sent, its_came, came, lost, late, strange, changed, repeated);
      came = came_is;
      lost = lost_is;
      repeated = repeated_is;
      late = fate_is fate.Late refl refl;
      changed = changed_is;
      strange = strange_is;
      latest =
          latest_lines hart said no_counts
          ∙ ap (max 0)
          (ap latest_in (found_alike harts window how sent received turn clear hart) ∙ latest_found how sent hart 0 [] received)
          ∙ omega arith;
      too_late = too_late_is;
    }
      where
        strange_is : (counts_in said hart).strange ≡ fates_counted (known_all how sent) (known_all how received) hart fate.Stranger
        strange_is = fate_is fate.Stranger refl refl

        changed_is : (counts_in said hart).changed ≡ fates_counted (known_all how sent) (known_all how received) hart fate.Changed
        changed_is = fate_is fate.Changed refl refl

        repeated_is : (counts_in said hart).repeated ≡ fates_counted (known_all how sent) (known_all how received) hart fate.Repeat
        repeated_is = fate_is fate.Repeat refl refl

        came_is : (counts_in said hart).came ≡ length (of_hart hart (known_all how received))
        came_is =
            count_field hart (λ (own : LineCounts). own.came) is_message line_came said no_counts few_said
            ∙ own_count is_message (λ slot. refl) (λ other lost. refl) ∙ (came_lines how sent hart 0 [] received).0

        too_late_is : (counts_in said hart).too_late ≡ 0
        too_late_is =
            count_field hart (λ (own : LineCounts). own.too_late) is_late_one line_too_late said no_counts few_said
            ∙ own_count is_late_one (λ slot. refl) (λ other lost. refl) ∙ (came_lines how sent hart 0 [] received).1

        lost_is : (counts_in said hart).lost ≡ length (lost_numbers (known_all how sent) (known_all how received) hart)
        lost_is =
            count_field hart (λ (own : LineCounts). own.lost) is_loss line_lost said no_counts few_said
            ∙ zero-add (count_by (λ line. eqb (hart_of line) hart && is_loss line) said)
            ∙ lost_given hart said
            ∙ ap (count_by (λ (slot : SentMessage). eqb slot.message.hart hart && not slot.came))
            (given_alike harts window how sent received turn clear)
            ∙ lost_held how (known_trues how sent received) hart sent
