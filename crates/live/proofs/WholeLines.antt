-- Where a live audit says that RECEIVED is whole, an audit of the whole captures does.
use Rattle.std.proofs.Common.{◌≡◌, ◌⊎◌, inl, inr, ℕ, ◌+◌, ◌<◌, ◌≤◌, Bool, true, false, cond, eqb, ltb, not, ◌&&◌, ◌||◌}
use Rattle.std.proofs.Common.{List, [], ◌∷◌, ◌++◌, Option, map, refl, sym, ap, subst, ◌∙◌, arith}
use Rattle.std.specs.List.{AllByRecursion, count_by, filter, list_any}
use Rattle.std.proofs.lemmas.Bool.{and_from, and_parts, cases_lt, eq-eqb, eqb-false, eqb-true, ltb-true, or_parts}
use Rattle.std.proofs.lemmas.List.Sums.{sum_by-cons}
use Rattle.payload.specs.declared.by.By.{By}
use Rattle.message.specs.OfHart.{of_hart}
use Rattle.message.specs.declared.header.Header.{Header}
use Rattle.message.specs.declared.message.Message.{Message}
use Rattle.auditing.proofs.AllWhole.{whole_untouched}
use Rattle.auditing.proofs.KnownLemmas.{known-more, known-turn}
use Rattle.auditing.proofs.SentLemmas.{none_beyond}
use Rattle.auditing.specs.DecodedAgain.{AreAllWhole}
use Rattle.auditing.specs.Fates.{fate_of, has_number}
use Rattle.auditing.specs.Findings.{finding_by}
use Rattle.auditing.specs.Judged.{Judged, is_fate, judged, judged_behind}
use Rattle.auditing.specs.Known.{known_all, known_one}
use Rattle.auditing.specs.Losing.{is_lost, lost_numbers}
use Rattle.auditing.specs.Sent.{AreInTurn}
use Rattle.auditing.specs.Untouched.{is_touched}
use Rattle.auditing.specs.declared.fate.Fate.{Fate}
use Rattle.auditing.specs.declared.fate.Fate.TheVariants as fate
use Rattle.auditing.specs.declared.finding.Finding.{Finding}
use Rattle.auditing.specs.declared.finding.Finding.TheVariants as finding
use Rattle.live.specs.AsAudited.{AreClear, IsClear, SaysWhole, given_in, line_of, lines_after, lines_of}
use Rattle.live.specs.AsAudited.{is_of, placed_from}
use Rattle.live.specs.Compared.{known_trues}
use Rattle.live.specs.Lines.{Line, Decided, TooLate, GivenUp, Missing}
use Rattle.live.specs.Live.{held, live}
use Rattle.live.specs.Rows.{counted, counts_after, counts_in, found_counts, given_counts, hart_of, is_whole, no_counts, one_more}
use Rattle.live.specs.Rows.{others_after}
use Rattle.live.specs.declared.arrived.Arrived.{Arrived}
use Rattle.live.specs.declared.held.SentMessage.{SentMessage}
use Rattle.live.specs.declared.rows.LineCounts.{LineCounts}
use Rattle.live.proofs.GivenLines.{given_alike}
use Rattle.live.proofs.HartLines.{all_filter, found_alike}

-- What is counted that a whole hart has none of.
abbrev pub bad : LineCounts → ℕ
bad own = own.lost + own.strange + own.changed + own.repeated + own.late + own.too_late

pub whole_none : (own : LineCounts) → is_whole own ≡ true → bad own ≡ 0
whole_none own is =
    let a = and_parts (eqb own.lost 0) (eqb own.strange 0 && (eqb own.changed 0 && (eqb own.repeated 0
    && (eqb own.late 0 && eqb own.too_late 0)))) is in
    let b = and_parts (eqb own.strange 0) (eqb own.changed 0 && (eqb own.repeated 0
    && (eqb own.late 0 && eqb own.too_late 0))) a.1 in
    let c = and_parts (eqb own.changed 0) (eqb own.repeated 0 && (eqb own.late 0 && eqb own.too_late 0)) b.1 in
    let d = and_parts (eqb own.repeated 0) (eqb own.late 0 && eqb own.too_late 0) c.1 in
    let e = and_parts (eqb own.late 0) (eqb own.too_late 0) d.1 in
    let lost = eqb-true own.lost 0 a.0 in
    let strange = eqb-true own.strange 0 b.0 in
    let changed = eqb-true own.changed 0 c.0 in
    let repeated = eqb-true own.repeated 0 d.0 in
    let late = eqb-true own.late 0 e.0 in
    let too_late = eqb-true own.too_late 0 e.1 in
    omega (arith, lost, strange, changed, repeated, late, too_late)

pub none_whole : (own : LineCounts) → bad own ≡ 0 → is_whole own ≡ true
none_whole own none =
    and_from _ _ (eq-eqb own.lost 0 (omega (arith, none)))
    (and_from _ _ (eq-eqb own.strange 0 (omega (arith, none)))
    (and_from _ _ (eq-eqb own.changed 0 (omega (arith, none)))
    (and_from _ _ (eq-eqb own.repeated 0 (omega (arith, none)))
    (and_from _ _ (eq-eqb own.late 0 (omega (arith, none))) (eq-eqb own.too_late 0 (omega (arith, none)))))))

-- A message is in order, and a message of SENT came.
abbrev pub is_in_order : Finding → Bool
is_in_order (finding.InOrder skips) = true
is_in_order other = false

abbrev pub is_good : Line → Bool
is_good (Decided one its sent) = is_in_order its
is_good (TooLate one) = false
is_good (GivenUp slot) = slot.came
is_good (Missing hart lost) = true

found_good : (its : Finding) (own : LineCounts) → bad (found_counts its own) ≡ 0 → (bad own ≡ 0) × (is_in_order its ≡ true)
found_good (finding.InOrder skips) own none = (none, refl)
found_good other own none = absurd (omega (arith, none))

given_good : (came : Bool) (own : LineCounts) → bad (given_counts came own) ≡ 0 → (bad own ≡ 0) × (came ≡ true)
given_good true own none = (none, refl)
given_good false own none = absurd (omega (arith, none))

line_good : (line : Line) (own : LineCounts) → bad (counted line own) ≡ 0 → (bad own ≡ 0) × (is_good line ≡ true)
line_good (Decided one its sent) own none = found_good its own none
line_good (TooLate one) own none = absurd (omega (arith, none))
line_good (GivenUp slot) own none = given_good slot.came own none
line_good (Missing hart lost) own none = (none, refl)

lines_good : (hart : ℕ) (lines : List Line) (own : LineCounts) → bad (counts_after hart own lines) ≡ 0
    → (bad own ≡ 0) × AllByRecursion (λ line. hart_of line ≡ hart → is_good line ≡ true) lines
lines_good hart [] own none = (none, tt)
lines_good hart (line ∷ lines) own none =
    let rest = lines_good hart lines (cond (eqb (hart_of line) hart) (counted line own) own) none in
    let first = go (eqb (hart_of line) hart) refl rest.0 in
    (first.0, (first.1, rest.1))
  where
    go : (its : Bool) → eqb (hart_of line) hart ≡ its → bad (cond its (counted line own) own) ≡ 0
        → (bad own ≡ 0) × (hart_of line ≡ hart → is_good line ≡ true)
    go true is none = let good = line_good line own none in (good.0, λ same. good.1)
    go false is none = (none, λ same. absurd (eqb-false (hart_of line) hart is same))

-- A line that is written of a message is of a known hart.
abbrev KnownLine : ℕ → Line → Type 0
KnownLine harts (Decided one its sent) = one.message.hart < harts
KnownLine harts other = Unit {0}

known_lines : (harts : ℕ) (lines : List Line) (others : ℕ) → others_after harts others lines ≡ 0
    → (others ≡ 0) × AllByRecursion (KnownLine harts) lines
known_lines harts [] others none = (none, tt)
known_lines harts (Decided one its sent ∷ lines) others none =
    let rest = known_lines harts lines (cond (ltb one.message.hart harts) others (one_more others)) none in
    let first = go (ltb one.message.hart harts) refl rest.0 in
    (first.0, (first.1, rest.1))
  where
    go : (known : Bool) → ltb one.message.hart harts ≡ known → cond known others (one_more others) ≡ 0
        → (others ≡ 0) × (one.message.hart < harts)
    go true is none = (none, ltb-true one.message.hart harts is)
    go false is none = absurd (omega (arith, none))
known_lines harts (line ∷ lines) others none =
    let rest = known_lines harts lines others none in (rest.0, (tt, rest.1))

-- Each line of a known hart is good, and each message is of one.
abbrev Fine : ℕ → Line → Type 0
Fine harts line = (hart_of line < harts → is_good line ≡ true) × KnownLine harts line

fine_lines : (harts : ℕ) (lines : List Line)
    → ((hart : ℕ) → hart < harts → AllByRecursion (λ line. hart_of line ≡ hart → is_good line ≡ true) lines)
    → AllByRecursion (KnownLine harts) lines → AllByRecursion (Fine harts) lines
fine_lines harts [] good known = tt
fine_lines harts (line ∷ lines) good known = (
  (λ less. (good (hart_of line) less).0 refl, known.0),
  fine_lines harts lines (λ hart less. (good hart less).1) known.1,
)

says_fine : (harts : ℕ) (lines : List Line) → SaysWhole harts lines → AllByRecursion (Fine harts) lines
says_fine harts lines whole =
    fine_lines harts lines
    (λ hart less. (lines_good hart lines no_counts (whole_none (counts_in lines hart) (whole.each hart less))).1)
    (known_lines harts lines 0 whole.none).1

-- What all of a list have gives another thing that all have.
pub all_give : {X : Type 0} (P Q : X → Type 0) → ((x : X) → P x → Q x) → (xs : List X) → AllByRecursion P xs
    → AllByRecursion Q xs
all_give P Q gives [] each = tt
all_give P Q gives (x ∷ xs) each = (gives x each.0, all_give P Q gives xs each.1)

fine_clear : (harts : ℕ) (sent : List Message) (line : Line) → Fine harts line → IsClear harts sent line
fine_clear harts sent (TooLate one) fine = go (cases_lt one.message.hart harts)
  where
    go : (one.message.hart < harts) ⊎ (harts ≤ one.message.hart) → harts ≤ one.message.hart
    go (inr past) = past
    go (inl known) = let never : false ≡ true = fine.0 known in cc
fine_clear harts sent (Decided one finding.Stranger its) fine = let never : false ≡ true = fine.0 fine.1 in cc
fine_clear harts sent line fine = tt

-- A message is in order, if the line is of one.
abbrev pub Ordered : Line → Type 0
Ordered (Decided one its sent) = is_in_order its ≡ true
Ordered other = Unit {0}

fine_ordered : (harts : ℕ) (line : Line) → Fine harts line → Ordered line
fine_ordered harts (Decided one its sent) fine = fine.0 fine.1
fine_ordered harts line fine = tt

-- A message of SENT came, if its hart is known.
abbrev HasCome : ℕ → SentMessage → Type 0
HasCome harts slot = slot.message.hart < harts → slot.came ≡ true

fine_given : (harts : ℕ) (lines : List Line) → AllByRecursion (Fine harts) lines → AllByRecursion (HasCome harts) (given_in lines)
fine_given harts [] fine = tt
fine_given harts (GivenUp slot ∷ lines) fine = (fine.0.0, fine_given harts lines fine.1)
fine_given harts (line ∷ lines) fine = fine_given harts lines fine.1

-- So nothing is lost of a hart.
none_lost : (how : By) (trues : List Message) (harts hart : ℕ) → hart < harts → (messages : List Message)
    → AllByRecursion (HasCome harts) (map (held trues) messages)
    → filter (λ number. not (has_number trues hart number))
    (map (λ (message : Message). message.number) (of_hart hart (known_all how messages))) ≡ []
none_lost how trues harts hart known [] come = refl
none_lost how trues harts hart known (message ∷ messages) come =
    go (eqb message.hart hart) refl (none_lost how trues harts hart known messages come.1)
  where
    rest : List ℕ
    rest = map (λ (one : Message). one.number) (of_hart hart (known_all how messages))

    go : (own : Bool) → eqb message.hart hart ≡ own → filter (λ number. not (has_number trues hart number)) rest ≡ []
        → filter (λ number. not (has_number trues hart number)) (map (λ (one : Message). one.number)
        (cond own (known_one how message ∷ of_hart hart (known_all how messages)) (of_hart hart (known_all how messages)))) ≡ []
    go false is none = none
    go true is none =
        let its = eqb-true message.hart hart is in
        let came : has_number trues hart message.number ≡ true =
        ap (λ h. has_number trues h message.number) (sym its) ∙ come.0 (omega (arith, its, known)) in
        ap (λ b. cond (not b) (message.number ∷ filter (λ number. not (has_number trues hart number)) rest)
        (filter (λ number. not (has_number trues hart number)) rest)) came ∙ none

-- A finding in order is of a message in order.
order_fate : (its : Fate) (greatest : Option ℕ) (number : ℕ) → is_in_order (finding_by its greatest number) ≡ true
    → is_fate fate.InOrder its ≡ true
order_fate fate.InOrder greatest number is = refl
order_fate other greatest number is = is

module _ (how : By) (sent : List Message) where
  abbrev pub kept : List Message
  kept = known_all how sent

  -- The fates of messages after these.
  abbrev pub fates : List Message → List Message → List Judged
  fates before messages = judged_behind kept (known_all how before) (known_all how messages)

  pub fates_more : (before messages : List Message) (message : Message)
      → judged_behind kept (known_all how before ++ known_one how message ∷ []) (known_all how messages)
      ≡ fates (before ++ message ∷ []) messages
  fates_more before messages message =
      ap (λ l. judged_behind kept l (known_all how messages)) (sym (known-more how before message))

  -- Where the lines of a hart's messages are in order, none of it is touched.
  none_touched : (hart place : ℕ) (before messages : List Message)
      → AllByRecursion Ordered (lines_of hart (lines_after how sent before (placed_from place messages)))
      → list_any (is_touched hart) (fates before messages) ≡ false
  none_touched hart place before [] ordered = refl
  none_touched hart place before (message ∷ messages) ordered =
      go (eqb message.hart hart) refl ordered
      (λ each. ap (list_any (is_touched hart)) (fates_more before messages message)
      ∙ none_touched hart (place + 1) (before ++ message ∷ []) messages each)
    where
      one : Arrived
      one = record { place = place; message = message }

      later : List Line
      later = lines_of hart (lines_after how sent (before ++ message ∷ []) (placed_from (place + 1) messages))

      its : Fate
      its = fate_of kept (known_all how before) (known_one how message)

      touched : Bool
      touched =
          list_any (is_touched hart)
          (judged_behind kept (known_all how before ++ known_one how message ∷ []) (known_all how messages))

      go : (own : Bool) → eqb message.hart hart ≡ own
          → AllByRecursion Ordered (cond own (line_of how sent before one ∷ later) later)
          → (AllByRecursion Ordered later → touched ≡ false)
          → list_any (is_touched hart) (fates before (message ∷ messages)) ≡ false
      go false is each rest = ap (λ b. (b && not (is_fate fate.InOrder its)) || touched) is ∙ rest each
      go true is each rest = (λ i. (is i && not (order_fate its _ _ each.0 i)) || touched) ∙ rest each.1

  -- Where no hart is touched, there is no stranger.
  none_strange : (all : List Judged) → ((hart : ℕ) → list_any (is_touched hart) all ≡ false)
      → count_by (λ (one : Judged). is_fate fate.Stranger one.fate) all ≡ 0
  none_strange [] none = refl
  none_strange (one ∷ all) none =
      sum_by-cons (λ (x : Judged). cond (is_fate fate.Stranger x.fate) 1 0) one all
      ∙ ap (λ n. cond (is_fate fate.Stranger one.fate) 1 0 + n)
      (none_strange all (λ hart. (or_parts (is_touched hart one) (list_any (is_touched hart) all) (none hart)).1))
      ∙ ap (λ b. cond b 1 0 + 0)
      (go one.fate
      (ap (λ b. b && not (is_fate fate.InOrder one.fate)) (sym (eq-eqb one.message.hart one.message.hart refl))
      ∙ (or_parts (is_touched one.message.hart one) (list_any (is_touched one.message.hart) all) (none one.message.hart)).0))
    where
      go : (its : Fate) → not (is_fate fate.InOrder its) ≡ false → is_fate fate.Stranger its ≡ false
      go fate.Stranger is = is
      go other is = refl

module _ (harts window : ℕ) (how : By) (sent received : List Message) (turn : AreInTurn harts [] sent)
    (whole : SaysWhole harts (live harts window how sent received)) where
  fine : AllByRecursion (Fine harts) (live harts window how sent received)
  fine = says_fine harts (live harts window how sent received) whole

  clear : AreClear harts sent (live harts window how sent received)
  clear = all_give (Fine harts) (IsClear harts sent) (fine_clear harts sent) (live harts window how sent received) fine

  in_order : (hart : ℕ) → list_any (is_touched hart) (judged (known_all how sent) (known_all how received)) ≡ false
  in_order hart =
      none_touched how sent hart 0 [] received
      (subst (AllByRecursion Ordered) (found_alike harts window how sent received turn clear hart)
      (all_filter Ordered (is_of hart) (live harts window how sent received)
      (all_give (Fine harts) Ordered (fine_ordered harts) (live harts window how sent received) fine)))

  nothing_lost : (hart : ℕ) → lost_numbers (known_all how sent) (known_all how received) hart ≡ []
  nothing_lost hart = go (cases_lt hart harts)
    where
      go : (hart < harts) ⊎ (harts ≤ hart) → lost_numbers (known_all how sent) (known_all how received) hart ≡ []
      go (inl known) =
          none_lost how (known_trues how sent received) harts hart known sent
          (subst (AllByRecursion (HasCome harts)) (given_alike harts window how sent received turn clear)
          (fine_given harts (live harts window how sent received) fine))
      go (inr past) =
          ap (λ l. filter (is_lost (known_all how sent) (known_all how received) hart)
          (map (λ (message : Message). message.number) l))
          (none_beyond harts hart [] (known_all how sent) (known-turn how harts [] sent turn) past)

  -- Each hart is whole, and no stranger came.
  pub whole_alike : (header : Option Header) → AreAllWhole header (known_all how sent) (known_all how received)
  whole_alike header = record {
    harts = λ hart less.
        (whole_untouched harts hart (known_all how sent) (known_all how received) (known-turn how harts [] sent turn)).1
        (record { none_lost = nothing_lost hart; in_order = in_order hart });
    strangers = none_strange how sent (judged (known_all how sent) (known_all how received)) in_order;
  }
