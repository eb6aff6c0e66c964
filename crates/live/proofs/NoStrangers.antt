-- No stranger is one that SENT has, where after each message of a hart the next one of the hart comes.
use Rattle.std.proofs.Common.{◌≡◌, ◌⊎◌, inl, inr, ℕ, suc, ◌+◌, ◌-◌, ◌<◌, ◌≤◌, Bool, true, false, cond, eqb, not, ◌&&◌, ◌||◌}
use Rattle.std.proofs.Common.{List, [], ◌∷◌, ◌++◌, Option, Some, None, length, slice_get, take, refl, sym, ap, subst, ◌∙◌, arith}
use Rattle.std.specs.List.{AllByRecursion, filter, position_or_len}
use Rattle.std.specs.Prelude.{option_to_list}
use Rattle.std.proofs.lemmas.Bool.{both_ways, cases_lt, eq-eqb, eqb-false, eqb-true, le-leb, ltb-true, ne_eqb, true≢false}
use Rattle.payload.specs.declared.by.By.{By}
use Rattle.message.specs.OfHart.{of_hart}
use Rattle.message.specs.declared.message.Message.{Message}
use Rattle.auditing.proofs.SentLemmas.{none_beyond}
use Rattle.auditing.specs.Fates.{has_greater, has_number, is_numbered}
use Rattle.auditing.specs.Findings.{finding_by, greatest_number}
use Rattle.auditing.specs.Sent.{AreInTurn}
use Rattle.auditing.specs.declared.fate.Fate.TheVariants as fate
use Rattle.auditing.specs.declared.finding.Finding.{Finding}
use Rattle.auditing.specs.declared.finding.Finding.TheVariants as finding
use Rattle.live.specs.Compared.{known_finding, known_true, known_trues}
use Rattle.live.specs.Lines.{Line, Decided, TooLate, Missing}
use Rattle.live.specs.Live.{State, Step, are_near, finds, gives, gives_last, is_beyond, last_held, met, passes}
use Rattle.live.specs.Live.{settles, standing_now, stays, taken_all, waits}
use Rattle.live.specs.Runs.{is_written, run_lines, run_with}
use Rattle.live.specs.View.{given_up, in_view, is_below, standing_from}
use Rattle.live.specs.declared.arrived.Arrived.{Arrived}
use Rattle.live.specs.declared.held.SentMessage.{SentMessage}
use Rattle.live.specs.declared.run.Run.{Run}
use Rattle.live.specs.declared.standing.Standing.{Standing}
use Rattle.live.specs.declared.standing.Standing.TheVariants as standing
use Rattle.live.specs.steps.Searching.{is_one}
use Rattle.live.specs.AsAudited.{line_of, placed_from}
use Rattle.live.proofs.Chains.{OwnWait, Quiet, Reason, Small, beyond_none, settles_none, whole_run}
use Rattle.live.proofs.HartLines.{known_number, own_number}
use Rattle.live.proofs.Passing.{numbered_at}
use Rattle.live.proofs.Standings.{numbered_is}
use Rattle.live.proofs.Widening.{in_view_seen, one_is, taken_fewer}

-- Where a message is that has a hart and a number.
found_at : (hart number : ℕ) (messages : List Message) → has_number messages hart number ≡ true
    → (k : ℕ) × (position_or_len (is_numbered hart number) messages ≡ k) × (k < length messages)
    × (is_one hart number (slice_get messages k) ≡ true)
found_at hart number [] has = cc
found_at hart number (message ∷ messages) has =
    go (is_numbered hart number message) refl has (λ there. found_at hart number messages there)
  where
    go : (here : Bool) → is_numbered hart number message ≡ here → (here || has_number messages hart number) ≡ true
        → (has_number messages hart number ≡ true
        → (k : ℕ) × (position_or_len (is_numbered hart number) messages ≡ k) × (k < length messages)
        × (is_one hart number (slice_get messages k) ≡ true))
        → (k : ℕ) × (cond (not here) (1 + position_or_len (is_numbered hart number) messages) 0 ≡ k)
        × (k < length (message ∷ messages)) × (is_one hart number (slice_get (message ∷ messages) k) ≡ true)
    go true is has more = (0, refl, omega arith, is)
    go false is has more =
        let rest = more has in
        let at = rest.1 in
        let less = rest.2 in
        (suc rest.0, omega (arith, at), omega (arith, less), rest.3)

-- What is looked for from a place on is not below it.
never_below : (hart number from : ℕ) (view : List Message) → standing_from from view hart number ≡ standing.Below → ⊥
never_below hart number from [] at = cc
never_below hart number from (first ∷ view) at =
    go (is_numbered hart number first) at (λ later. never_below hart number (from + 1) view later)
  where
    go : (here : Bool) → cond here (standing.At from) (standing_from (from + 1) view hart number) ≡ standing.Below
        → (standing_from (from + 1) view hart number ≡ standing.Below → ⊥) → ⊥
    go true at more = cc
    go false at more = more at

-- A finding is that of a stranger.
abbrev pub is_strange : Finding → Bool
is_strange finding.Stranger = true
is_strange other = false

-- A message that SENT has is none.
known_not_strange : (how : By) (sent came : List Message) (message : Message)
    → has_number sent message.hart message.number ≡ true → is_strange (known_finding how sent came message) ≡ false
known_not_strange how sent came message has =
    go (known_true how sent message) (has_number (known_trues how sent came) message.hart message.number)
    (has_greater (known_trues how sent came) message.hart message.number)
    (greatest_number (known_trues how sent came) message.hart) _ (known_number how sent message.hart message.number ∙ has)
  where
    go : (same again late : Bool) (greatest : Option ℕ) (known : Bool) → known ≡ true
        → is_strange (finding_by (cond (not known) fate.Stranger (cond (not same) fate.Changed
        (cond again fate.Repeat (cond late fate.Late fate.InOrder)))) greatest message.number) ≡ false
    go same again late greatest false never = cc
    go false again late greatest true is = refl
    go true true late greatest true is = refl
    go true false true greatest true is = refl
    go true false false greatest true is = refl

-- The messages of a hart.
abbrev pub own_of : ℕ → List Arrived → List Arrived
own_of hart queue = filter (λ (one : Arrived). eqb one.message.hart hart) queue

-- SENT has each of these messages of a hart, and after each comes the next one of the hart.
abbrev pub Follows : Arrived → List Arrived → Type 0
Follows one [] = Unit {0}
Follows one (next ∷ more) = next.message.number ≡ one.message.number + 1

abbrev pub IsRow : List Message → ℕ → List Arrived → Type 0
IsRow sent hart [] = Unit {0}
IsRow sent hart (one ∷ more) = (has_number sent hart one.message.number ≡ true) × Follows one more × IsRow sent hart more

-- A line does not say that a message of a hart is a stranger.
abbrev pub NotStrange : ℕ → Line → Type 0
NotStrange hart (Decided one its changed) = one.message.hart ≡ hart → is_strange its ≡ false
NotStrange hart other = Unit {0}

module _ (harts window : ℕ) (sent : List Message) (turn : AreInTurn harts [] sent) (some : 1 ≤ window) (hart : ℕ) where
  -- The messages of the hart that are to be decided.
  abbrev pending : State → List Arrived → List Arrived
  pending state queue = option_to_list (state.waiting hart) ++ own_of hart queue

  abbrev Keeps : State → List Arrived → List Line → State → List Arrived → Type 0
  Keeps state queue lines next rest = IsRow sent hart (pending state queue) → IsRow sent hart (pending next rest) × AllByRecursion (NotStrange hart) lines

  all_joined : (lines more : List Line) → AllByRecursion (NotStrange hart) lines → AllByRecursion (NotStrange hart) more
      → AllByRecursion (NotStrange hart) (lines ++ more)
  all_joined [] more one two = two
  all_joined (line ∷ lines) more one two = (one.0, all_joined lines more one.1 two)

  -- What a message in hand adds.
  hand_own : (state : State) (one : Arrived) (queue : List Arrived) → state.waiting one.message.hart ≡ None
      → one.message.hart ≡ hart → pending state (one ∷ queue) ≡ one ∷ own_of hart queue
  hand_own state one queue none its = λ i.
      option_to_list ((ap state.waiting (sym its) ∙ none) i) ++ cond (eq-eqb one.message.hart hart its i) (one ∷ own_of hart queue) (own_of hart queue)

  hand_other : (state : State) (one : Arrived) (queue : List Arrived) → eqb one.message.hart hart ≡ false
      → pending state (one ∷ queue) ≡ pending state queue
  hand_other state one queue other =
      ap (λ b. option_to_list (state.waiting hart) ++ cond b (one ∷ own_of hart queue) (own_of hart queue)) other

  -- It is decided.
  decided_row : (state : State) (one : Arrived) (queue : List Arrived) (line : Line) → state.waiting one.message.hart ≡ None
      → (IsRow sent hart (one ∷ own_of hart queue) → one.message.hart ≡ hart → NotStrange hart line)
      → (eqb one.message.hart hart ≡ false → NotStrange hart line)
      → IsRow sent hart (pending state (one ∷ queue)) → IsRow sent hart (pending state queue) × AllByRecursion (NotStrange hart) (line ∷ [])
  decided_row state one queue line none own other row = go (eqb one.message.hart hart) refl
    where
      go : (its : Bool) → eqb one.message.hart hart ≡ its
          → IsRow sent hart (pending state queue) × AllByRecursion (NotStrange hart) (line ∷ [])
      go false is = (subst (IsRow sent hart) (hand_other state one queue is) row, (other is, tt))
      go true is =
          let its = eqb-true one.message.hart hart is in
          let head = subst (IsRow sent hart) (hand_own state one queue none its) row in (
            subst (λ o. IsRow sent hart (option_to_list o ++ own_of hart queue)) (sym (ap state.waiting (sym its) ∙ none)) head.2,
            (own head its, tt),
          )

  settles_row : (state : State) (h : ℕ) (one : Arrived) (queue : List Arrived) → state.waiting h ≡ Some one
      → one.message.hart ≡ h → pending (settles state h) (one ∷ queue) ≡ pending state queue
  settles_row state h one queue is its = go (eqb hart h) refl
    where
      go : (same : Bool) → eqb hart h ≡ same
          → option_to_list (cond same None (state.waiting hart)) ++ own_of hart (one ∷ queue)
          ≡ option_to_list (state.waiting hart) ++ own_of hart queue
      go true same =
          let at = eqb-true hart h same in
          ap (λ b. cond b (one ∷ own_of hart queue) (own_of hart queue)) (eq-eqb one.message.hart hart (its ∙ sym at))
          ∙ sym (ap (λ o. option_to_list o ++ own_of hart queue) (ap state.waiting at ∙ is))
      go false other =
          hand_other state one queue
          (ne_eqb one.message.hart hart (λ same. eqb-false hart h other (sym same ∙ its)))

  waits_row : (state : State) (one : Arrived) (queue : List Arrived) → state.waiting one.message.hart ≡ None
      → pending state (one ∷ queue) ≡ pending (waits state one).state queue
  waits_row state one queue none = go (eqb hart one.message.hart) refl
    where
      go : (same : Bool) → eqb hart one.message.hart ≡ same
          → pending state (one ∷ queue) ≡ option_to_list (cond same (Some one) (state.waiting hart)) ++ own_of hart queue
      go true same = hand_own state one queue none (sym (eqb-true hart one.message.hart same))
      go false other =
          hand_other state one queue
          (ne_eqb one.message.hart hart (λ same. eqb-false hart one.message.hart other (sym same)))

  -- The next message of SENT is met.
  met_row : (state : State) (message : Message) (queue : List Arrived)
      → ((h : ℕ) (one : Arrived) → state.waiting h ≡ Some one → one.message.hart ≡ h) → (o : Option Arrived)
      → state.waiting message.hart ≡ o
      → let step = met sent state message o in Keeps state queue step.lines step.state queue
  met_row state message queue own None is row = (row, tt)
  met_row state message queue own (Some one) is row = go (eqb one.message.number message.number)
    where
      its : one.message.hart ≡ message.hart
      its = own message.hart one is

      freed : State
      freed = settles state message.hart

      go : (same : Bool) → let step = cond same
          (finds sent freed one (known_finding state.by sent state.came one.message)) (stays state) in
          IsRow sent hart (pending step.state queue) × AllByRecursion (NotStrange hart) step.lines
      go false = (row, tt)
      go true =
          decided_row freed one queue
          (line_of state.by sent state.came one)
          (ap freed.waiting its ∙ settles_none state message.hart)
          (λ head at same. known_not_strange state.by sent state.came one.message
          (ap (λ h. has_number sent h one.message.number) same ∙ head.0))
          (λ other same. absurd (eqb-false one.message.hart hart other same))
          (subst (IsRow sent hart) (sym (settles_row state message.hart one queue is its)) row)

  run_plain : (h : ℕ) (run : Run) → AllByRecursion (NotStrange hart) (run_lines h run)
  run_plain h run = go (eqb run.unlined run.next)
    where
      go : (same : Bool) → AllByRecursion (NotStrange hart)
          (cond same [] (Missing h (record { first = run.unlined; last = run.next - 1 }) ∷ []))
      go true = tt
      go false = (tt, tt)

  given_plain : (state : State) (slot : SentMessage) → AllByRecursion (NotStrange hart) (gives state slot).lines
  given_plain state slot =
      (tt, go (is_written (run_with (state.runs slot.message.hart) slot.message.number slot.came) slot.came))
    where
      go : (its : Bool) → AllByRecursion (NotStrange hart) (cond its (run_lines slot.message.hart
          (run_with (state.runs slot.message.hart) slot.message.number slot.came)) [])
      go true = run_plain slot.message.hart (run_with (state.runs slot.message.hart) slot.message.number slot.came)
      go false = tt

  passes_row : (state : State) (queue : List Arrived) (message : Message) → OwnWait harts sent state
      → let step = passes window sent state message in Keeps state queue step.lines step.state queue
  passes_row state queue message own row =
      let on : State = record state { front = state.front + 1 } in
      let first = met sent on message (state.waiting message.hart) in
      let meets = met_row on message queue (λ h one is. (own h one is).0) (state.waiting message.hart) refl row in
      go first (last_held first.state.by first.state.came sent (given_up window first.state.front)) meets
    where
      go : (first : Step) (slot : Option SentMessage) → IsRow sent hart (pending first.state queue) × AllByRecursion (NotStrange hart) first.lines
          → IsRow sent hart (pending (gives_last first.state slot).state queue)
          × AllByRecursion (NotStrange hart) (first.lines ++ (gives_last first.state slot).lines)
      go first None is = (is.0, all_joined first.lines [] is.1 tt)
      go first (Some slot) is =
          (is.0, all_joined first.lines (gives first.state slot).lines is.1 (given_plain first.state slot))

  -- A message of the hart is no stranger.
  module _ (state : State) (one : Arrived) (its : one.message.hart ≡ hart)
      (has : has_number sent one.message.hart one.message.number ≡ true) where
    place : (k : ℕ) × (position_or_len (is_numbered one.message.hart one.message.number) sent ≡ k) × (k < length sent)
        × (is_one one.message.hart one.message.number (slice_get sent k) ≡ true)
    place = found_at one.message.hart one.message.number sent has

    -- It is beyond the view, where it is said so.
    far : standing_now window sent state one.message ≡ standing.Beyond → state.front + window ≤ place.0
    far beyond = go (cases_lt place.0 (state.front + window))
      where
        go : (place.0 < state.front + window) ⊎ (state.front + window ≤ place.0) → state.front + window ≤ place.0
        go (inr past) = past
        go (inl near) =
            absurd (both_ways (is_one one.message.hart one.message.number (slice_get sent place.0))
            (beyond_none harts window sent turn state one.message beyond place.0 near) place.3)

    -- So no more of its hart are in view than its number.
    few_seen : standing_now window sent state one.message ≡ standing.Beyond
        → length (of_hart one.message.hart (take (state.front + window) sent)) ≤ one.message.number
    few_seen beyond =
        let it = one_is one.message.hart one.message.number (slice_get sent place.0) place.3 in
        let is = numbered_is one.message.hart one.message.number it.0 it.2 in
        let number = numbered_at harts [] sent turn place.0 it.0 it.1 in
        let fewer = taken_fewer one.message.hart sent (state.front + window) place.0 (far beyond) in
        let same = ap (λ h. length (of_hart h (take place.0 sent))) is.0 in
        let its_number = is.1 in
        omega (arith, number, fewer, same, its_number)

    -- Then the next one of its hart is beyond too.
    next_beyond : (second : Message) → second.hart ≡ one.message.hart → second.number ≡ one.message.number + 1
        → standing_now window sent state one.message ≡ standing.Beyond
        → is_beyond (standing_now window sent state second) ≡ true
    next_beyond second same next beyond = go (standing_now window sent state second) refl
      where
        few : length (of_hart second.hart (take (state.front + window) sent)) ≤ one.message.number
        few = subst (λ h. length (of_hart h (take (state.front + window) sent)) ≤ one.message.number) (sym same) (few_seen beyond)

        go : (at : Standing) → standing_now window sent state second ≡ at → is_beyond at ≡ true
        go standing.Beyond is = refl
        go (standing.At k) is =
            let seen = in_view_seen window sent harts turn state.front second.hart second.number k is in
            let none = few in
            absurd (omega (arith, seen, none, next))
        go standing.Below is = low (is_below window sent state.front second.hart second.number) refl is
          where
            low : (below : Bool) → is_below window sent state.front second.hart second.number ≡ below
                → cond below standing.Below (standing_from 0 (in_view window sent state.front) second.hart second.number)
                ≡ standing.Below → is_beyond standing.Below ≡ true
            low true is_low at =
                let less = ltb-true second.number (length (of_hart second.hart (take (given_up window state.front) sent))) is_low in
                let fewer = taken_fewer second.hart sent (given_up window state.front) (state.front + window) (omega arith) in
                let none = few in
                absurd (omega (arith, less, fewer, none, next))
            low false is_low at = absurd (never_below second.hart second.number 0 (in_view window sent state.front) at)

    known_hart : harts ≤ one.message.hart → ⊥
    known_hart past =
        true≢false
        (sym has ∙ own_number one.message.hart one.message.number sent
        ∙ ap (λ l. has_number l one.message.hart one.message.number) (none_beyond harts one.message.hart [] sent turn past))

  no_reason : (state : State) (one : Arrived) (queue : List Arrived) → one.message.hart ≡ hart → IsRow sent hart (one ∷ own_of hart queue)
      → Reason harts window sent state one queue → ⊥
  no_reason state one queue its row why = go why
    where
      has : has_number sent one.message.hart one.message.number ≡ true
      has = ap (λ h. has_number sent h one.message.number) its ∙ row.0

      go : Reason harts window sent state one queue → ⊥
      go (inl past) = known_hart state one its has past
      go (inr (inr absent)) = true≢false (sym has ∙ absent)
      go (inr (inl (second, more, is, same, beyond, inr read))) =
          let at = place state one its has in
          let past = far state one its has beyond in
          let position = at.1 in
          let within = at.2 in
          omega (arith, read, past, position, within)
      go (inr (inl (second, more, is, same, beyond, inl apart))) =
          true≢false
          (sym (λ i. is_beyond (beyond i) && (next_beyond state one its has second.message same next beyond i && near i)) ∙ apart)
        where
          next : second.message.number ≡ one.message.number + 1
          next =
              (subst (λ l. Follows one l)
              (ap (own_of hart) is ∙ ap (λ b. cond b (second ∷ own_of hart more) (own_of hart more)) (eq-eqb second.message.hart hart (same ∙ its)))
              row.1)

          near : are_near window one.message.number second.message.number ≡ true
          near = λ i. not (ne_eqb one.message.number second.message.number (λ e. omega (arith, e, next)) i) && le-leb
              (one.message.number - second.message.number + (second.message.number - one.message.number)) window (omega (arith, next, some)) i

  small : Small harts window sent Keeps
  small = record {
    none = λ s q row. (row, tt);
    then = λ a p l b q k c r one two row.
        let first = one row in let second = two first.0 in (second.0, all_joined l k first.1 second.1);
    passes = λ s q m own at. passes_row s q m own;
    settles = λ s q h one own some row. (subst (IsRow sent hart) (sym (settles_row s h one q some (own h one some).0)) row, tt);
    finds = λ s q one place none at row.
        decided_row s one q (line_of s.by sent s.came one) none
        (λ head is same. known_not_strange s.by sent s.came one.message
        (ap (λ h. has_number sent h one.message.number) same ∙ head.0))
        (λ other same. absurd (eqb-false one.message.hart hart other same)) row;
    late = λ s q one none known is row. decided_row s one q (TooLate one) none (λ head is. tt) (λ other. tt) row;
    strange = λ s q one none why row.
        decided_row s one q (Decided one finding.Stranger None) none
        (λ head is same. absurd (no_reason s one q is head why))
        (λ other same. absurd (eqb-false one.message.hart hart other same)) row;
    waits = λ s q one none is row. (subst (IsRow sent hart) (waits_row s one q none) row, tt);
  }

  quiet : Quiet harts window sent Keeps
  quiet = record {
    given = λ s q slot row. (row, given_plain s slot);
    missing = λ s h run row. (row, run_plain h run);
  }

  -- So there is none, from a state on.
  pub none_strange : (messages : List Message) (place : ℕ) (state : State) → OwnWait harts sent state
      → IsRow sent hart (pending state (placed_from place messages))
      → AllByRecursion (NotStrange hart) (taken_all harts window sent state place messages).lines
  none_strange messages place state own row =
      ((whole_run harts window sent turn Keeps small quiet messages place state own).0 row).1
