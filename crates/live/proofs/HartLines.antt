-- What is found of a hart's messages, as audits of whole captures find it, where nothing is too late and no stranger is one
-- that SENT has.
use Rattle.std.proofs.Common.{◌≡◌, ℕ, ◌+◌, ◌-◌, Bool, true, false, cond, eqb, ltb, not}
use Rattle.std.proofs.Common.{◌&&◌, ◌||◌, List, [], ◌∷◌, ◌++◌, Option, Some, None, map}
use Rattle.std.proofs.Common.{refl, sym, ap, subst, ◌∙◌, arith}
use Rattle.std.specs.List.{AllByRecursion, filter}
use Rattle.std.specs.Prelude.{option_to_list}
use Rattle.std.proofs.lemmas.Bool.{and_parts, eqb-false, eqb-true, false_from_ne_true, ne_eqb, true≢false}
use Rattle.std.proofs.lemmas.List.{append-nil, append_assoc, append_cancel_left, map-append}
use Rattle.std.proofs.lemmas.List.Elements.{filter-append}
use Rattle.payload.specs.declared.by.By.{By}
use Rattle.message.proofs.OfHartLemmas.{of_hart-append}
use Rattle.message.specs.OfHart.{of_hart}
use Rattle.message.specs.declared.message.Message.{Message}
use Rattle.auditing.proofs.Appending.{any_weaker}
use Rattle.auditing.proofs.OwnMessages.{any_of_hart}
use Rattle.auditing.proofs.TakingLemmas.{has_its_number, of_its_hart}
use Rattle.auditing.specs.Fates.{has_greater, has_number, is_numbered, is_same, is_true, true_ones}
use Rattle.auditing.specs.Findings.{at_least, finding_by, greatest_number}
use Rattle.auditing.specs.Known.{known_all, known_one}
use Rattle.auditing.specs.Sent.{AreInTurn}
use Rattle.auditing.specs.declared.fate.Fate.TheVariants as fate
use Rattle.auditing.specs.declared.finding.Finding.TheVariants as finding
use Rattle.live.specs.AsAudited.{AreClear, IsClear, audit_lines, is_of, line_of, lines_after, lines_of, placed_from}
use Rattle.live.specs.Compared.{changed_from, known_finding, known_true, known_trues}
use Rattle.live.specs.Lines.{Line, Decided, TooLate, Missing}
use Rattle.live.specs.Live.{State, Step, finds, gives, gives_last}
use Rattle.live.specs.Live.{last_held, live, met}
use Rattle.live.specs.Live.{passes, settles, start, stays}
use Rattle.live.specs.Live.{taken_all, waits}
use Rattle.live.specs.Runs.{is_written, run_lines, run_with}
use Rattle.live.specs.View.{given_up}
use Rattle.live.specs.declared.arrived.Arrived.{Arrived}
use Rattle.live.specs.declared.held.SentMessage.{SentMessage}
use Rattle.live.specs.declared.run.Run.{Run}
use Rattle.live.proofs.Chains.{OwnWait, Quiet, Small, frees, frees_came, frees_none, settles_none, whole_run}

-- What a hart's messages have is what those of the hart alone have.
pub own_number : (hart number : ℕ) (messages : List Message)
    → has_number messages hart number ≡ has_number (of_hart hart messages) hart number
own_number hart number messages = any_of_hart hart (is_numbered hart number) (of_its_hart hart number) messages

own_greater : (hart number : ℕ) (messages : List Message)
    → has_greater messages hart number ≡ has_greater (of_hart hart messages) hart number
own_greater hart number messages =
    any_of_hart hart (λ (message : Message). eqb message.hart hart && ltb number message.number)
    (λ message is. (and_parts (eqb message.hart hart) (ltb number message.number) is).0) messages

own_greatest : (hart : ℕ) (messages : List Message)
    → greatest_number messages hart ≡ greatest_number (of_hart hart messages) hart
own_greatest hart [] = refl
own_greatest hart (message ∷ messages) = go (eqb message.hart hart) refl (own_greatest hart messages)
  where
    go : (own : Bool) → eqb message.hart hart ≡ own
        → greatest_number messages hart ≡ greatest_number (of_hart hart messages) hart
        → cond (eqb message.hart hart) (Some (at_least message.number (greatest_number messages hart)))
        (greatest_number messages hart)
        ≡ greatest_number (cond own (message ∷ of_hart hart messages) (of_hart hart messages)) hart
    go true is rest = ap (λ g. cond (eqb message.hart hart) (Some (at_least message.number g)) g) rest
    go false is rest =
        ap (λ b. cond b (Some (at_least message.number (greatest_number messages hart))) (greatest_number messages hart)) is
        ∙ rest

-- The true ones of a hart.
abbrev pub own_trues : By → List Message → ℕ → List Message → List Message
own_trues how sent hart came = of_hart hart (known_trues how sent came)

-- What is found of a message depends on those of its hart alone that are true.
same_finding : (how : By) (sent : List Message) (message : Message) (came other : List Message)
    → own_trues how sent message.hart came ≡ own_trues how sent message.hart other
    → known_finding how sent came message ≡ known_finding how sent other message
same_finding how sent message came other same = λ i.
    finding_by
    (cond (not (has_number (known_all how sent) message.hart message.number)) fate.Stranger
    (cond (not (known_true how sent message)) fate.Changed
    (cond (repeats i) fate.Repeat (cond (passed i) fate.Late fate.InOrder))))
    (greatest i) message.number
  where
    repeats : has_number (known_trues how sent came) message.hart message.number
        ≡ has_number (known_trues how sent other) message.hart message.number
    repeats =
        own_number message.hart message.number (known_trues how sent came)
        ∙ ap (λ l. has_number l message.hart message.number) same
        ∙ sym (own_number message.hart message.number (known_trues how sent other))

    passed : has_greater (known_trues how sent came) message.hart message.number
        ≡ has_greater (known_trues how sent other) message.hart message.number
    passed =
        own_greater message.hart message.number (known_trues how sent came)
        ∙ ap (λ l. has_greater l message.hart message.number) same
        ∙ sym (own_greater message.hart message.number (known_trues how sent other))

    greatest : greatest_number (known_trues how sent came) message.hart
        ≡ greatest_number (known_trues how sent other) message.hart
    greatest =
        own_greatest message.hart (known_trues how sent came)
        ∙ ap (λ l. greatest_number l message.hart) same
        ∙ sym (own_greatest message.hart (known_trues how sent other))

-- Which numbers messages have does not depend on what payloads are compared by.
pub known_number : (how : By) (messages : List Message) (hart number : ℕ)
    → has_number (known_all how messages) hart number ≡ has_number messages hart number
known_number how [] hart number = refl
known_number how (message ∷ messages) hart number =
    ap (λ b. is_numbered hart number message || b) (known_number how messages hart number)

-- The true ones of more messages.
trues_joined : (how : By) (sent : List Message) (hart : ℕ) (came more : List Message)
    → own_trues how sent hart (came ++ more) ≡ own_trues how sent hart came ++ own_trues how sent hart more
trues_joined how sent hart came more =
    ap (λ l. of_hart hart (true_ones (known_all how sent) l)) (map-append (known_one how) came more)
    ∙ ap (of_hart hart) (filter-append (is_true (known_all how sent)) (known_all how came) (known_all how more))
    ∙ of_hart-append hart (known_trues how sent came) (known_trues how sent more)

-- What all of two lists have, all of each have.
all_split : {X : Type 0} (P : X → Type 0) (xs ys : List X) → AllByRecursion P (xs ++ ys)
    → AllByRecursion P xs × AllByRecursion P ys
all_split P [] ys each = (tt, each)
all_split P (x ∷ xs) ys each = let rest = all_split P xs ys each.1 in ((each.0, rest.0), rest.1)

-- And those that pass a test.
pub all_filter : {X : Type 0} (P : X → Type 0) (test : X → Bool) (xs : List X) → AllByRecursion P xs
    → AllByRecursion P (filter test xs)
all_filter P test [] each = tt
all_filter P test (x ∷ xs) each = go (test x) (all_filter P test xs each.1)
  where
    go : (passes : Bool) → AllByRecursion P (filter test xs) → AllByRecursion P (cond passes (x ∷ filter test xs) (filter test xs))
    go true rest = (each.0, rest)
    go false rest = rest

module _ (sent : List Message) (hart : ℕ) (end : List Message → List Line) where
  -- The lines of the hart's messages among those that are to come, and then what its true ones end with.
  abbrev lines_then : By → List Message → List Arrived → List Line
  lines_then how came [] = end (own_trues how sent hart came)
  lines_then how came (one ∷ more) =
      cond (eqb one.message.hart hart) (line_of how sent came one ∷ lines_then how (came ++ one.message ∷ []) more)
      (lines_then how (came ++ one.message ∷ []) more)

  -- They depend on the true ones of the hart alone.
  same_then : (how : By) (came other : List Message) → own_trues how sent hart came ≡ own_trues how sent hart other
      → (more : List Arrived) → lines_then how came more ≡ lines_then how other more
  same_then how came other same [] = ap end same
  same_then how came other same (one ∷ more) =
      go (eqb one.message.hart hart) refl
      (same_then how (came ++ one.message ∷ []) (other ++ one.message ∷ [])
      (trues_joined how sent hart came (one.message ∷ [])
      ∙ ap (λ l. l ++ own_trues how sent hart (one.message ∷ [])) same
      ∙ sym (trues_joined how sent hart other (one.message ∷ []))) more)
    where
      first : List Line
      first = lines_then how (came ++ one.message ∷ []) more

      second : List Line
      second = lines_then how (other ++ one.message ∷ []) more

      go : (own : Bool) → eqb one.message.hart hart ≡ own → first ≡ second
          → cond own (line_of how sent came one ∷ first) first ≡ cond own (line_of how sent other one ∷ second) second
      go false is rest = rest
      go true is rest = λ i.
          (let its = same_finding how sent one.message came other
          (subst (λ h. own_trues how sent h came ≡ own_trues how sent h other) (sym (eqb-true one.message.hart hart is)) same)
          in Decided one (its i) (changed_from sent one.message (its i)))
          ∷ rest i

  -- A message that adds no true one of the hart changes none.
  adds_none : (how : By) (came : List Message) (message : Message) → own_trues how sent hart (message ∷ []) ≡ []
      → own_trues how sent hart (came ++ message ∷ []) ≡ own_trues how sent hart came
  adds_none how came message none =
      trues_joined how sent hart came (message ∷ [])
      ∙ ap (λ l. own_trues how sent hart came ++ l) none
      ∙ append-nil (own_trues how sent hart came)

  -- One of another hart adds none.
  other_none : (how : By) (message : Message) → eqb message.hart hart ≡ false → own_trues how sent hart (message ∷ []) ≡ []
  other_none how message other = go (known_true how sent message)
    where
      go : (its : Bool) → of_hart hart (cond its (known_one how message ∷ []) []) ≡ []
      go true = ap (λ b. cond b (known_one how message ∷ []) []) other
      go false = refl

  -- So it may come before others or not at all.
  other_then : (how : By) (one : Arrived) → eqb one.message.hart hart ≡ false → (came : List Message) (first more : List Arrived)
      → lines_then how came (first ++ one ∷ more) ≡ lines_then how came (first ++ more)
  other_then how one other came [] more =
      ap (λ b. cond b (line_of how sent came one ∷ lines_then how (came ++ one.message ∷ []) more)
      (lines_then how (came ++ one.message ∷ []) more)) other
      ∙ same_then how (came ++ one.message ∷ []) came (adds_none how came one.message (other_none how one.message other)) more
  other_then how one other came (before ∷ first) more =
      ap (λ l. cond (eqb before.message.hart hart) (line_of how sent came before ∷ l) l)
      (other_then how one other (came ++ before.message ∷ []) first more)

  -- What is left to be found, from a state on, where these messages are still to come.
  abbrev left : State → List Arrived → List Line
  left state more = lines_then state.by state.came (option_to_list (state.waiting hart) ++ more)

  -- Nothing is left but what follows, where none waits.
  none_left : (how : By) (came : List Message) (own : Option Arrived) → own ≡ None → (more : List Arrived)
      → lines_then how came (option_to_list own ++ more) ≡ lines_then how came more
  none_left how came own none more = ap (λ o. lines_then how came (option_to_list o ++ more)) none

  -- A message in view is found, where none of its hart waits.
  finds_says : (state : State) (one : Arrived) → state.waiting one.message.hart ≡ None → (more : List Arrived)
      → let step = finds sent state one (known_finding state.by sent state.came one.message) in
      lines_of hart step.lines ++ left step.state more ≡ left state (one ∷ more)
  finds_says state one none more = go (eqb one.message.hart hart) refl
    where
      after : List Message
      after = state.came ++ one.message ∷ []

      go : (its : Bool) → eqb one.message.hart hart ≡ its
          → cond its (line_of state.by sent state.came one ∷ []) []
          ++ lines_then state.by after (option_to_list (state.waiting hart) ++ more)
          ≡ lines_then state.by state.came (option_to_list (state.waiting hart) ++ (one ∷ more))
      go true is =
          let empty : state.waiting hart ≡ None = ap state.waiting (sym (eqb-true one.message.hart hart is)) ∙ none in
          ap (λ l. line_of state.by sent state.came one ∷ l) (none_left state.by after (state.waiting hart) empty more)
          ∙ sym (ap (λ b. cond b (line_of state.by sent state.came one ∷ lines_then state.by after more)
          (lines_then state.by after more)) is)
          ∙ sym (none_left state.by state.came (state.waiting hart) empty (one ∷ more))
      go false is =
          same_then state.by after state.came (adds_none state.by state.came one.message (other_none state.by one.message is))
          (option_to_list (state.waiting hart) ++ more)
          ∙ sym (other_then state.by one is state.came (option_to_list (state.waiting hart)) more)

  -- What waits is taken in hand.
  settles_says : (state : State) (h : ℕ) (one : Arrived) → state.waiting h ≡ Some one → one.message.hart ≡ h
      → (more : List Arrived) → left (settles state h) (one ∷ more) ≡ left state more
  settles_says state h one some its more = go (eqb hart h) refl
    where
      go : (same : Bool) → eqb hart h ≡ same
          → lines_then state.by state.came (option_to_list (cond same None (state.waiting hart)) ++ (one ∷ more))
          ≡ lines_then state.by state.came (option_to_list (state.waiting hart) ++ more)
      go true is =
          sym (ap (λ o. lines_then state.by state.came (option_to_list o ++ more))
          (ap state.waiting (eqb-true hart h is) ∙ some))
      go false is =
          other_then state.by one (ne_eqb one.message.hart hart (λ same. eqb-false hart h is (sym same ∙ its)))
          state.came (option_to_list (state.waiting hart)) more

  -- What is taken in hand waits.
  waits_says : (state : State) (one : Arrived) → state.waiting one.message.hart ≡ None → (more : List Arrived)
      → left (waits state one).state more ≡ left state (one ∷ more)
  waits_says state one none more = go (eqb hart one.message.hart) refl
    where
      go : (same : Bool) → eqb hart one.message.hart ≡ same
          → lines_then state.by state.came (option_to_list (cond same (Some one) (state.waiting hart)) ++ more)
          ≡ lines_then state.by state.came (option_to_list (state.waiting hart) ++ (one ∷ more))
      go true is =
          sym (none_left state.by state.came (state.waiting hart)
          (ap state.waiting (eqb-true hart one.message.hart is) ∙ none) (one ∷ more))
      go false is =
          sym (other_then state.by one
          (ne_eqb one.message.hart hart (λ same. eqb-false hart one.message.hart is (sym same))) state.came
          (option_to_list (state.waiting hart)) more)

  -- One that SENT does not have is a stranger.
  strange_says : (state : State) (one : Arrived) → state.waiting one.message.hart ≡ None
      → has_number sent one.message.hart one.message.number ≡ false → (more : List Arrived)
      → lines_of hart (Decided one finding.Stranger None ∷ []) ++ left state more ≡ left state (one ∷ more)
  strange_says state one none absent more =
      sym (λ i. cond (eqb one.message.hart hart) (Decided one (its i) (changed_from sent one.message (its i)) ∷ []) []
      ++ same_then state.by (state.came ++ one.message ∷ []) state.came
      (adds_none state.by state.came one.message none_true) (option_to_list (state.waiting hart) ++ more) i)
      ∙ finds_says state one none more
    where
      none_known : has_number (known_all state.by sent) one.message.hart one.message.number ≡ false
      none_known = known_number state.by sent one.message.hart one.message.number ∙ absent

      its : known_finding state.by sent state.came one.message ≡ finding.Stranger
      its =
          ap (λ b. finding_by
          (cond (not b) fate.Stranger
          (cond (not (known_true state.by sent one.message)) fate.Changed
          (cond (has_number (known_trues state.by sent state.came) one.message.hart one.message.number) fate.Repeat
          (cond (has_greater (known_trues state.by sent state.came) one.message.hart one.message.number) fate.Late
          fate.InOrder))))
          (greatest_number (known_trues state.by sent state.came) one.message.hart) one.message.number) none_known

      untrue : known_true state.by sent one.message ≡ false
      untrue =
          false_from_ne_true (known_true state.by sent one.message)
          (λ is. true≢false
          (sym (any_weaker (is_same (known_one state.by one.message)) (is_numbered one.message.hart one.message.number)
          (has_its_number (known_one state.by one.message)) (known_all state.by sent) is) ∙ none_known))

      none_true : own_trues state.by sent hart (one.message ∷ []) ≡ []
      none_true = ap (λ b. of_hart hart (cond b (known_one state.by one.message ∷ []) [])) untrue

  -- The next message of SENT is met.
  met_says : (state : State) (message : Message) (more : List Arrived)
      → ((h : ℕ) (one : Arrived) → state.waiting h ≡ Some one → one.message.hart ≡ h) → (o : Option Arrived) → state.waiting message.hart ≡ o
      → let step = met sent state message o in
      lines_of hart step.lines ++ left step.state more ≡ left state more
  met_says state message more own None is = refl
  met_says state message more own (Some one) is = go (eqb one.message.number message.number)
    where
      its : one.message.hart ≡ message.hart
      its = own message.hart one is

      go : (same : Bool) → let step = cond same
          (finds sent (settles state message.hart) one (known_finding state.by sent state.came one.message)) (stays state) in
          lines_of hart step.lines ++ left step.state more ≡ left state more
      go false = refl
      go true =
          finds_says (settles state message.hart) one (ap (settles state message.hart).waiting its ∙ settles_none state message.hart)
          more ∙ settles_says state message.hart one is its more

  -- A message of SENT is given up: no line of a message that came is.
  run_none : (h : ℕ) (run : Run) → lines_of hart (run_lines h run) ≡ []
  run_none h run = go (eqb run.unlined run.next)
    where
      go : (same : Bool)
          → lines_of hart (cond same [] (Missing h (record { first = run.unlined; last = run.next - 1 }) ∷ [])) ≡ []
      go true = refl
      go false = refl

  gives_none : (state : State) (slot : SentMessage) → lines_of hart (gives state slot).lines ≡ []
  gives_none state slot =
      go (is_written (run_with (state.runs slot.message.hart) slot.message.number slot.came) slot.came)
    where
      go : (its : Bool) → lines_of hart (cond its (run_lines slot.message.hart
          (run_with (state.runs slot.message.hart) slot.message.number slot.came)) []) ≡ []
      go true = run_none slot.message.hart (run_with (state.runs slot.message.hart) slot.message.number slot.came)
      go false = refl

  -- These lines are those of the hart's messages up to a later state.
  abbrev Says : ℕ → State → List Arrived → List Line → State → List Arrived → Type 0
  Says harts state queue lines next rest =
      AreClear harts sent lines → lines_of hart lines ++ left next rest ≡ left state queue

  joined : (lines more rest : List Line) → lines_of hart (lines ++ more) ++ rest
      ≡ lines_of hart lines ++ (lines_of hart more ++ rest)
  joined lines more rest =
      ap (λ l. l ++ rest) (filter-append (is_of hart) lines more)
      ∙ append_assoc (lines_of hart lines) (lines_of hart more) rest

  passes_says : (harts window : ℕ) (state : State) (queue : List Arrived) (message : Message) → OwnWait harts sent state
      → let step = passes window sent state message in
      lines_of hart step.lines ++ left step.state queue ≡ left state queue
  passes_says harts window state queue message own =
      let on : State = record state { front = state.front + 1 } in
      let first = met sent on message (state.waiting message.hart) in
      go first (last_held first.state.by first.state.came sent (given_up window first.state.front))
      (met_says on message queue (λ h one is. (own h one is).0) (state.waiting message.hart) refl)
    where
      go : (first : Step) (slot : Option SentMessage) → lines_of hart first.lines ++ left first.state queue ≡ left state queue
          → lines_of hart (first.lines ++ (gives_last first.state slot).lines) ++ left (gives_last first.state slot).state queue
          ≡ left state queue
      go first None is = joined first.lines [] (left first.state queue) ∙ is
      go first (Some slot) is =
          joined first.lines (gives first.state slot).lines (left first.state queue)
          ∙ ap (λ l. lines_of hart first.lines ++ (l ++ left first.state queue)) (gives_none first.state slot) ∙ is

  module _ (harts window : ℕ) (turn : AreInTurn harts [] sent) where
    -- One that is beyond is clear of SENT's.
    small : Small harts window sent (Says harts)
    small = record {
      none = λ s q clear. refl;
      then = λ a p l b q k c r one two clear.
          let parts = all_split (IsClear harts sent) l k clear in
          joined l k (left c r) ∙ ap (λ x. lines_of hart l ++ x) (two parts.1) ∙ one parts.0;
      passes = λ s q m own at clear. passes_says harts window s q m own;
      settles = λ s q h one own some clear. settles_says s h one some (own h one some).0 q;
      finds = λ s q one place none at clear. finds_says s one none q;
      late = λ s q one none known is clear. absurd (let past = clear.0 in omega (arith, known, past));
      strange = λ s q one none why clear. strange_says s one none clear.0 q;
      waits = λ s q one none is clear. waits_says s one none q;
    }

    quiet : Quiet harts window sent (Says harts)
    quiet = record {
      given = λ s q slot clear. ap (λ l. l ++ left s q) (gives_none s slot);
      missing = λ s h run clear. ap (λ l. l ++ left s []) (run_none h run);
    }

    -- The messages of RECEIVED are taken.
    all_says : (messages : List Message) (place : ℕ) (state : State) → OwnWait harts sent state
        → let step = taken_all harts window sent state place messages in AreClear harts sent step.lines
        → (lines_of hart step.lines ++ end (own_trues step.state.by sent hart step.state.came)
        ≡ left state (placed_from place messages)) × (step.state.by ≡ state.by)
    all_says messages place state own clear =
        let its = whole_run harts window sent turn (Says harts) small quiet messages place state own in
        let last = (taken_all harts window sent state place messages).state in
        let freed = frees last 0 harts in (
          ap (λ l. lines_of hart (taken_all harts window sent state place messages).lines ++ l)
              (sym (none_left freed.by freed.came (freed.waiting hart) (frees_none harts sent last its.1 hart) []
              ∙ (λ i. end (own_trues ((frees_came last 0 harts).1 i) sent hart ((frees_came last 0 harts).0 i)))))
              ∙ its.0 clear,
          its.2,
        )

  -- What is found, and what it ends with.
  then_is : (how : By) (came : List Message) (more : List Arrived)
      → lines_then how came more
      ≡ lines_of hart (lines_after how sent came more)
      ++ end (own_trues how sent hart (came ++ map (λ (one : Arrived). one.message) more))
  then_is how came [] = ap (λ l. end (own_trues how sent hart l)) (sym (append-nil came))
  then_is how came (one ∷ more) =
      go (eqb one.message.hart hart)
      (then_is how (came ++ one.message ∷ []) more
      ∙ ap (λ l. lines_of hart (lines_after how sent (came ++ one.message ∷ []) more) ++ end (own_trues how sent hart l))
      (append_assoc came (one.message ∷ []) (map (λ (one : Arrived). one.message) more)))
    where
      go : (own : Bool)
          → lines_then how (came ++ one.message ∷ []) more
          ≡ lines_of hart (lines_after how sent (came ++ one.message ∷ []) more)
          ++ end (own_trues how sent hart (came ++ map (λ (one : Arrived). one.message) (one ∷ more)))
          → cond own (line_of how sent came one ∷ lines_then how (came ++ one.message ∷ []) more)
          (lines_then how (came ++ one.message ∷ []) more)
          ≡ cond own (line_of how sent came one ∷ lines_of hart (lines_after how sent (came ++ one.message ∷ []) more))
          (lines_of hart (lines_after how sent (came ++ one.message ∷ []) more))
          ++ end (own_trues how sent hart (came ++ map (λ (one : Arrived). one.message) (one ∷ more)))
      go true rest = ap (λ l. line_of how sent came one ∷ l) rest
      go false rest = rest

-- Placed messages are the messages.
messages_placed : (place : ℕ) (messages : List Message)
    → map (λ (one : Arrived). one.message) (placed_from place messages) ≡ messages
messages_placed place [] = refl
messages_placed place (message ∷ messages) = ap (λ l. message ∷ l) (messages_placed (place + 1) messages)

module _ (harts window : ℕ) (how : By) (sent received : List Message) (turn : AreInTurn harts [] sent)
    (clear : AreClear harts sent (live harts window how sent received)) (hart : ℕ) where
  abbrev final : State
  final = (taken_all harts window sent (start how) 0 received).state

  both : (end : List Message → List Line)
      → (lines_of hart (live harts window how sent received) ++ end (own_trues how sent hart final.came)
      ≡ lines_of hart (audit_lines how sent received) ++ end (own_trues how sent hart received)) × (final.by ≡ how)
  both end =
      let all = all_says sent hart end harts window turn received 0 (start how) (λ h one some. cc) clear in (
        ap (λ h. lines_of hart (live harts window how sent received) ++ end (own_trues h sent hart final.came)) (sym all.1)
            ∙ all.0 ∙ then_is sent hart end how [] (placed_from 0 received)
            ∙ ap (λ l. lines_of hart (audit_lines how sent received) ++ end (own_trues how sent hart l)) (messages_placed 0 received),
        all.1,
      )

  -- The lines of a hart's messages are those of what an audit finds of them.
  pub found_alike : lines_of hart (live harts window how sent received) ≡ lines_of hart (audit_lines how sent received)
  found_alike =
      sym (append-nil (lines_of hart (live harts window how sent received))) ∙ (both (λ trues. [])).0
      ∙ append-nil (lines_of hart (audit_lines how sent received))

  -- The true ones of the hart that came in view are those that came.
  pub trues_alike : own_trues how sent hart final.came ≡ own_trues how sent hart received
  trues_alike =
      sym (unmarked (own_trues how sent hart final.came))
      ∙ ap unmark (append_cancel_left (lines_of hart (audit_lines how sent received)) (mark (own_trues how sent hart final.came))
      (mark (own_trues how sent hart received))
      (ap (λ l. l ++ mark (own_trues how sent hart final.came)) (sym found_alike) ∙ (both mark).0))
      ∙ unmarked (own_trues how sent hart received)
    where
      mark : List Message → List Line
      mark [] = []
      mark (message ∷ messages) = TooLate (record { place = 0; message = message }) ∷ mark messages

      unmark : List Line → List Message
      unmark [] = []
      unmark (TooLate one ∷ lines) = one.message ∷ unmark lines
      unmark (other ∷ lines) = unmark lines

      unmarked : (messages : List Message) → unmark (mark messages) ≡ messages
      unmarked [] = refl
      unmarked (message ∷ messages) = ap (λ l. message ∷ l) (unmarked messages)
