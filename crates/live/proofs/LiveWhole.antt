-- Where an audit of the whole captures says that RECEIVED is whole, a live audit does, if nothing is too late.
use Rattle.std.proofs.Common.{◌≡◌, ◌⊎◌, inl, inr, ℕ, ◌+◌, ◌<◌, ◌≤◌, Bool, true, false, cond, eqb, ltb, not, ◌&&◌}
use Rattle.std.proofs.Common.{List, [], ◌∷◌, ◌++◌, Option, drop, length, map, refl, sym, ap, subst, ◌∙◌, arith}
use Rattle.std.specs.List.{AllByRecursion, filter, list_any}
use Rattle.std.specs.Prelude.{is_some}
use Rattle.std.proofs.lemmas.Bool.{cases_lt, eq-eqb, eqb-false, eqb-true, ltb-false, or_parts, true≢false}
use Rattle.payload.specs.declared.by.By.{By}
use Rattle.message.proofs.Elements.{slice_get-some}
use Rattle.message.specs.Numbered.{messages_from}
use Rattle.message.specs.OfHart.{of_hart}
use Rattle.message.specs.declared.header.Header.{Header}
use Rattle.message.specs.declared.message.Message.{Message}
use Rattle.auditing.proofs.AllWhole.{all_same, untouched_same}
use Rattle.auditing.proofs.KnownLemmas.{known-turn}
use Rattle.auditing.proofs.OwnMessages.{numbered_in}
use Rattle.auditing.proofs.SentLemmas.{none_beyond, numbered}
use Rattle.auditing.specs.DecodedAgain.{AreAllWhole}
use Rattle.auditing.specs.Fates.{fate_of, has_number}
use Rattle.auditing.specs.Findings.{finding_by}
use Rattle.auditing.specs.Judged.{is_fate, judged_behind}
use Rattle.auditing.specs.Known.{known_all, known_one}
use Rattle.auditing.specs.Sent.{AreInTurn, known_harts}
use Rattle.auditing.specs.Untouched.{IsUntouched, is_touched}
use Rattle.auditing.specs.declared.fate.Fate.{Fate}
use Rattle.auditing.specs.declared.fate.Fate.TheVariants as fate
use Rattle.auditing.specs.declared.finding.Finding.{Finding}
use Rattle.auditing.specs.declared.finding.Finding.TheVariants as finding
use Rattle.auditing.specs.steps.Indexing.{payloads_of}
use Rattle.live.specs.AsAudited.{AreClear, IsClear, IsOnTime, SaysWhole, given_in, line_of, lines_after}
use Rattle.live.specs.AsAudited.{lines_of, placed_from}
use Rattle.live.specs.Compared.{known_trues}
use Rattle.live.specs.Lines.{Line, Decided, TooLate, GivenUp, Missing}
use Rattle.live.specs.Live.{held, live, start}
use Rattle.live.specs.Rows.{counted, counts_after, counts_in, found_counts, given_counts, hart_of, no_counts, one_more, others_after}
use Rattle.live.specs.declared.arrived.Arrived.{Arrived}
use Rattle.live.specs.declared.held.SentMessage.{SentMessage}
use Rattle.live.specs.declared.rows.LineCounts.{LineCounts}
use Rattle.live.proofs.GivenLines.{given_alike}
use Rattle.live.proofs.HartLines.{found_alike, known_number, own_number}
use Rattle.live.proofs.NoStrangers.{Follows, IsRow, NotStrange, none_strange, own_of}
use Rattle.live.proofs.WholeLines.{Ordered, bad, fates, fates_more, is_good, is_in_order, none_whole}

abbrev first_number : List Message → ℕ
first_number [] = 0
first_number (message ∷ messages) = message.number

module _ (how : By) (sent : List Message) (hart : ℕ) where
  -- The first of these has this number, if there is one.
  abbrev Begins : ℕ → List Arrived → Type 0
  Begins number [] = Unit {0}
  Begins number (one ∷ more) = one.message.number ≡ number

  begins_follows : (one : Arrived) (number : ℕ) → one.message.number ≡ number → (more : List Arrived)
      → Begins (number + 1) more → Follows one more
  begins_follows one number is [] begins = tt
  begins_follows one number is (next ∷ more) begins = begins ∙ ap (λ n. n + 1) (sym is)

  -- Messages numbered one after the other are a row.
  numbered_row : (number place : ℕ) (messages : List Message) (payloads : List (List ℕ))
      → of_hart hart (known_all how messages) ≡ messages_from hart number payloads
      → ((n : ℕ) → number ≤ n → n < number + length payloads → has_number sent hart n ≡ true)
      → IsRow sent hart (own_of hart (placed_from place messages))
      × Begins number (own_of hart (placed_from place messages))
  numbered_row number place [] payloads same has = (tt, tt)
  numbered_row number place (message ∷ messages) payloads same has =
      go (eqb message.hart hart) payloads same has
      (λ from more same has. numbered_row from (place + 1) messages more same has)
    where
      one : Arrived
      one = record { place = place; message = message }

      later : List Arrived
      later = own_of hart (placed_from (place + 1) messages)

      go : (own : Bool) (payloads : List (List ℕ))
          → cond own (known_one how message ∷ of_hart hart (known_all how messages)) (of_hart hart (known_all how messages))
          ≡ messages_from hart number payloads
          → ((n : ℕ) → number ≤ n → n < number + length payloads → has_number sent hart n ≡ true)
          → ((from : ℕ) (more : List (List ℕ)) → of_hart hart (known_all how messages) ≡ messages_from hart from more
          → ((n : ℕ) → from ≤ n → n < from + length more → has_number sent hart n ≡ true)
          → IsRow sent hart later × Begins from later)
          → IsRow sent hart (cond own (one ∷ later) later) × Begins number (cond own (one ∷ later) later)
      go false payloads same has again = again number payloads same has
      go true [] same has again = let none = ap length same in absurd (omega (arith, none))
      go true (payload ∷ payloads) same has again =
          let first : message.number ≡ number = ap first_number same in
          let rest = again (number + 1) payloads (ap (drop 1) same)
          (λ n past less. has n (omega (arith, past)) (omega (arith, less))) in (
            (
              ap (has_number sent hart) first ∙ has number (omega arith) (omega arith),
              begins_follows one number first later rest.1,
              rest.0,
            ),
            first,
          )

  -- SENT has each number of its hart.
  has_each : (harts : ℕ) → AreInTurn harts [] (known_all how sent) → (n : ℕ)
      → n < length (payloads_of (of_hart hart (known_all how sent))) → has_number sent hart n ≡ true
  has_each harts turn n less =
      sym (known_number how sent hart n) ∙ own_number hart n (known_all how sent)
      ∙ ap (λ l. has_number l hart n) (numbered harts hart [] (known_all how sent) turn)
      ∙ numbered_in hart 0 (payloads_of (of_hart hart (known_all how sent))) n n (omega arith)
      ∙ ap is_some (slice_get-some (payloads_of (of_hart hart (known_all how sent))) n less).1

-- A message that is in order has a finding in order.
fate_order : (its : Fate) (greatest : Option ℕ) (number : ℕ) → not (is_fate fate.InOrder its) ≡ false
    → is_in_order (finding_by its greatest number) ≡ true
fate_order fate.InOrder greatest number is = refl
fate_order other greatest number is = sym is

-- Where no message of a hart is touched, its lines are in order.
all_ordered : (how : By) (sent : List Message) (hart place : ℕ) (before messages : List Message)
    → list_any (is_touched hart) (fates how sent before messages) ≡ false
    → AllByRecursion Ordered (lines_of hart (lines_after how sent before (placed_from place messages)))
all_ordered how sent hart place before [] none = tt
all_ordered how sent hart place before (message ∷ messages) none =
    go (eqb message.hart hart) refl (all_ordered how sent hart (place + 1) (before ++ message ∷ []) messages
    (sym (ap (list_any (is_touched hart)) (fates_more how sent before messages message)) ∙ parts.1))
  where
    its : Fate
    its = fate_of (known_all how sent) (known_all how before) (known_one how message)

    later : List Line
    later = lines_of hart (lines_after how sent (before ++ message ∷ []) (placed_from (place + 1) messages))

    parts : ((eqb message.hart hart && not (is_fate fate.InOrder its)) ≡ false)
        × (list_any (is_touched hart) (judged_behind (known_all how sent) (known_all how before ++ known_one how message ∷ [])
        (known_all how messages)) ≡ false)
    parts = or_parts (eqb message.hart hart && not (is_fate fate.InOrder its))
        (list_any (is_touched hart) (judged_behind (known_all how sent) (known_all how before ++ known_one how message ∷ [])
        (known_all how messages))) none

    go : (own : Bool) → eqb message.hart hart ≡ own → AllByRecursion Ordered later
        → AllByRecursion Ordered (cond own (line_of how sent before (record { place = place; message = message }) ∷ later) later)
    go false is rest = rest
    go true is rest =
        (fate_order its _ _ (sym (ap (λ b. b && not (is_fate fate.InOrder its)) is) ∙ parts.0), rest)

-- A hart of which none came has no lines.
none_lines : (how : By) (sent : List Message) (hart place : ℕ) (before messages : List Message)
    → of_hart hart (known_all how messages) ≡ [] → lines_of hart (lines_after how sent before (placed_from place messages)) ≡ []
none_lines how sent hart place before [] none = refl
none_lines how sent hart place before (message ∷ messages) none =
    go (eqb message.hart hart) none (λ none. none_lines how sent hart (place + 1) (before ++ message ∷ []) messages none)
  where
    later : List Line
    later = lines_of hart (lines_after how sent (before ++ message ∷ []) (placed_from (place + 1) messages))

    go : (own : Bool)
        → cond own (known_one how message ∷ of_hart hart (known_all how messages)) (of_hart hart (known_all how messages)) ≡ []
        → (of_hart hart (known_all how messages) ≡ [] → later ≡ [])
        → cond own (line_of how sent before (record { place = place; message = message }) ∷ later) later ≡ []
    go false none rest = rest none
    go true none rest = let never = ap length none in absurd (omega (arith, never))

-- What is not lost came.
abbrev Came : SentMessage → Type 0
Came slot = slot.came ≡ true

all_came : (how : By) (trues messages : List Message)
    → ((hart : ℕ) → filter (λ number. not (has_number trues hart number))
    (map (λ (message : Message). message.number) (of_hart hart (known_all how messages))) ≡ [])
    → AllByRecursion Came (map (held trues) messages)
all_came how trues [] none = tt
all_came how trues (message ∷ messages) none =
    (first (has_number trues message.hart message.number) refl, all_came how trues messages rest)
  where
    numbers : ℕ → List ℕ
    numbers hart = map (λ (one : Message). one.number) (of_hart hart (known_all how messages))

    lost : ℕ → List ℕ → List ℕ
    lost hart all = filter (λ number. not (has_number trues hart number)) all

    own : lost message.hart (message.number ∷ numbers message.hart) ≡ []
    own =
        sym (ap (λ b. lost message.hart (map (λ (one : Message). one.number)
        (cond b (known_one how message ∷ of_hart message.hart (known_all how messages)) (of_hart message.hart (known_all how messages)))))
        (eq-eqb message.hart message.hart refl)) ∙ none message.hart

    first : (came : Bool) → has_number trues message.hart message.number ≡ came → came ≡ true
    first true is = refl
    first false is =
        let never = ap length (sym (ap (λ b. cond (not b) (message.number ∷ lost message.hart (numbers message.hart))
        (lost message.hart (numbers message.hart))) is) ∙ own) in
        absurd (omega (arith, never))

    rest : (hart : ℕ) → lost hart (numbers hart) ≡ []
    rest hart = go (eqb message.hart hart) (none hart)
      where
        go : (own : Bool) → lost hart (map (λ (one : Message). one.number)
            (cond own (known_one how message ∷ of_hart hart (known_all how messages)) (of_hart hart (known_all how messages)))) ≡ []
            → lost hart (numbers hart) ≡ []
        go false is = is
        go true is = by (not (has_number trues hart message.number)) is
          where
            by : (lacks : Bool) → cond lacks (message.number ∷ lost hart (numbers hart)) (lost hart (numbers hart)) ≡ []
                → lost hart (numbers hart) ≡ []
            by false is = is
            by true is = let never = ap length is in absurd (omega (arith, never))

-- Good lines are counted well.
good_found : (its : Finding) (own : LineCounts) → is_in_order its ≡ true → bad own ≡ 0 → bad (found_counts its own) ≡ 0
good_found (finding.InOrder skips) own good none = none
good_found other own good none = cc

good_given : (came : Bool) (own : LineCounts) → came ≡ true → bad own ≡ 0 → bad (given_counts came own) ≡ 0
good_given true own good none = none
good_given false own good none = cc

good_line : (line : Line) (own : LineCounts) → is_good line ≡ true → bad own ≡ 0 → bad (counted line own) ≡ 0
good_line (Decided one its sent) own good none = good_found its own good none
good_line (TooLate one) own good none = cc
good_line (GivenUp slot) own good none = good_given slot.came own good none
good_line (Missing hart lost) own good none = none

good_lines : (hart : ℕ) (lines : List Line) (own : LineCounts)
    → AllByRecursion (λ line. hart_of line ≡ hart → is_good line ≡ true) lines → bad own ≡ 0
    → bad (counts_after hart own lines) ≡ 0
good_lines hart [] own good none = none
good_lines hart (line ∷ lines) own good none =
    good_lines hart lines (cond (eqb (hart_of line) hart) (counted line own) own) good.1 (go (eqb (hart_of line) hart) refl)
  where
    go : (its : Bool) → eqb (hart_of line) hart ≡ its → bad (cond its (counted line own) own) ≡ 0
    go true is = good_line line own (good.0 (eqb-true (hart_of line) hart is)) none
    go false is = none

-- Lines in order and on time, where all of SENT came, are good.
are_good : (harts hart : ℕ) → hart < harts → (lines : List Line) → AllByRecursion Ordered (lines_of hart lines)
    → AllByRecursion (IsOnTime harts) lines → AllByRecursion Came (given_in lines)
    → AllByRecursion (λ line. hart_of line ≡ hart → is_good line ≡ true) lines
are_good harts hart known [] ordered time come = tt
are_good harts hart known (Decided one its sent ∷ lines) ordered time come =
    go (eqb one.message.hart hart) refl ordered (λ ordered. are_good harts hart known lines ordered time.1 come)
  where
    go : (own : Bool) → eqb one.message.hart hart ≡ own
        → AllByRecursion Ordered (cond own (Decided one its sent ∷ lines_of hart lines) (lines_of hart lines))
        → (AllByRecursion Ordered (lines_of hart lines)
        → AllByRecursion (λ line. hart_of line ≡ hart → is_good line ≡ true) lines)
        → (one.message.hart ≡ hart → is_in_order its ≡ true)
        × AllByRecursion (λ line. hart_of line ≡ hart → is_good line ≡ true) lines
    go true is ordered rest = (λ same. ordered.0, rest ordered.1)
    go false is ordered rest = (λ same. absurd (eqb-false one.message.hart hart is same), rest ordered)
are_good harts hart known (TooLate one ∷ lines) ordered time come = (
  λ same. let past = time.0 in absurd (omega (arith, same, known, past)),
  are_good harts hart known lines (go (eqb one.message.hart hart) ordered) time.1 come,
)
  where
    go : (own : Bool) → AllByRecursion Ordered (cond own (TooLate one ∷ lines_of hart lines) (lines_of hart lines))
        → AllByRecursion Ordered (lines_of hart lines)
    go true ordered = ordered.1
    go false ordered = ordered
are_good harts hart known (GivenUp slot ∷ lines) ordered time come =
    (λ same. come.0, are_good harts hart known lines ordered time.1 come.1)
are_good harts hart known (Missing other lost ∷ lines) ordered time come =
    (λ same. refl, are_good harts hart known lines ordered time.1 come)

-- Lines of known harts alone count no others.
no_others : (harts : ℕ) (lines : List Line) → ((hart : ℕ) → harts ≤ hart → lines_of hart lines ≡ [])
    → others_after harts 0 lines ≡ 0
no_others harts [] none = refl
no_others harts (Decided one its sent ∷ lines) none =
    go (ltb one.message.hart harts) refl
    (no_others harts lines (λ hart past. (more hart (eqb one.message.hart hart) (none hart past)).1))
  where
    more : (hart : ℕ) (own : Bool) → cond own (Decided one its sent ∷ lines_of hart lines) (lines_of hart lines) ≡ []
        → (own ≡ false) × (lines_of hart lines ≡ [])
    more hart false is = (refl, is)
    more hart true is = let never = ap length is in absurd (omega (arith, never))

    go : (known : Bool) → ltb one.message.hart harts ≡ known → others_after harts 0 lines ≡ 0
        → others_after harts (cond known 0 (one_more 0)) lines ≡ 0
    go true is rest = rest
    go false is rest =
        absurd (true≢false (sym (eq-eqb one.message.hart one.message.hart refl)
        ∙ (more one.message.hart (eqb one.message.hart one.message.hart)
        (none one.message.hart (ltb-false one.message.hart harts is))).0))
no_others harts (TooLate one ∷ lines) none = no_others harts lines (λ hart past. go hart (eqb one.message.hart hart) (none hart past))
  where
    go : (hart : ℕ) (own : Bool) → cond own (TooLate one ∷ lines_of hart lines) (lines_of hart lines) ≡ [] → lines_of hart lines ≡ []
    go hart false is = is
    go hart true is = let never = ap length is in absurd (omega (arith, never))
no_others harts (GivenUp slot ∷ lines) none = no_others harts lines none
no_others harts (Missing hart lost ∷ lines) none = no_others harts lines none

-- Lines on time that say of no known hart that a message is a stranger are clear.
are_clear : (harts : ℕ) (sent : List Message) → AreInTurn harts [] sent → (lines : List Line)
    → AllByRecursion (IsOnTime harts) lines
    → ((hart : ℕ) → hart < harts → AllByRecursion (NotStrange hart) lines) → AreClear harts sent lines
are_clear harts sent turn [] time none = tt
are_clear harts sent turn (line ∷ lines) time none =
    (each line time.0 (λ hart known. (none hart known).0), are_clear harts sent turn lines time.1 (λ hart known. (none hart known).1))
  where
    absent : (one : Arrived) → ((hart : ℕ) → hart < harts → one.message.hart ≡ hart → true ≡ false)
        → (one.message.hart < harts) ⊎ (harts ≤ one.message.hart)
        → has_number sent one.message.hart one.message.number ≡ false
    absent one none (inl known) = absurd (true≢false (none one.message.hart known refl))
    absent one none (inr past) =
        own_number one.message.hart one.message.number sent
        ∙ ap (λ l. has_number l one.message.hart one.message.number) (none_beyond harts one.message.hart [] sent turn past)

    each : (line : Line) → IsOnTime harts line → ((hart : ℕ) → hart < harts → NotStrange hart line) → IsClear harts sent line
    each (TooLate one) time none = time
    each (Decided one finding.Stranger its) time none = absent one none (cases_lt one.message.hart harts)
    each line time none = tt

module _ (header : Option Header) (window : ℕ) (some : 1 ≤ window) (how : By) (sent received : List Message)
    (turn : AreInTurn (known_harts header) [] sent)
    (whole : AreAllWhole header (known_all how sent) (known_all how received))
    (time : AllByRecursion (IsOnTime (known_harts header)) (live (known_harts header) window how sent received)) where
  abbrev harts : ℕ
  harts = known_harts header

  abbrev said : List Line
  said = live harts window how sent received

  known_turn : AreInTurn harts [] (known_all how sent)
  known_turn = known-turn how harts [] sent turn

  same : (hart : ℕ) → of_hart hart (known_all how received) ≡ of_hart hart (known_all how sent)
  same hart = all_same header (known_all how sent) (known_all how received) known_turn whole hart

  clear : AreClear harts sent said
  clear =
      are_clear harts sent turn said time
      (λ hart known. none_strange harts window sent turn some hart received 0 (start how) (λ h one is. cc)
      (numbered_row how sent hart 0 0 received (payloads_of (of_hart hart (known_all how sent)))
      (same hart ∙ numbered harts hart [] (known_all how sent) known_turn)
      (λ n past less. has_each how sent hart harts known_turn n (omega (arith, less)))).0)

  untouched : (hart : ℕ) → IsUntouched (known_all how sent) (known_all how received) hart
  untouched hart = (untouched_same harts hart (known_all how sent) (known_all how received) known_turn).1 (same hart)

  -- The live audit says so too.
  pub says_whole : SaysWhole harts said
  says_whole = record {
    each = λ hart known. none_whole (counts_in said hart)
        (good_lines hart said no_counts
        (are_good harts hart known said
        (subst (AllByRecursion Ordered) (sym (found_alike harts window how sent received turn clear hart))
        (all_ordered how sent hart 0 [] received (untouched hart).in_order)) time
        (subst (AllByRecursion Came) (sym (given_alike harts window how sent received turn clear))
        (all_came how (known_trues how sent received) sent (λ other. (untouched other).none_lost))))
        (omega arith));
    none = no_others harts said (λ hart past.
        found_alike harts window how sent received turn clear hart
        ∙ none_lines how sent hart 0 [] received
        (same hart ∙ none_beyond harts hart [] (known_all how sent) known_turn past));
  }
