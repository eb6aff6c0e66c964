-- A live audit is a chain of small steps. What holds of each of them holds of it.
use Rattle.std.proofs.Common.{◌≡◌, ◌≢◌, ◌⊎◌, inl, inr, ℕ, zero, suc, ◌+◌, ◌-◌, ◌<◌, ◌≤◌, Bool, true, false, cond, eqb, ltb, ◌||◌}
use Rattle.std.proofs.Common.{List, [], ◌∷◌, ◌++◌, Option, Some, None, drop, length, map, slice_get, take}
use Rattle.std.proofs.Common.{refl, sym, ap, subst, ◌∙◌, arith}
use Rattle.std.specs.List.{flat_map, range_with_len}
use Rattle.std.proofs.lemmas.Bool.{cases_eq, cases_lt, eq-eqb, eqb-false, eqb-true, false_from_ne_true, ltb-false, ltb-true, ne_eqb}
use Rattle.std.proofs.lemmas.Option.{same_Some}
use Rattle.std.proofs.lemmas.List.{append_assoc, drop-drop, length-drop, length-take, take-append-drop}
use Rattle.message.specs.declared.message.Message.{Message}
use Rattle.auditing.specs.Fates.{has_number, is_numbered}
use Rattle.auditing.specs.Sent.{AreInTurn}
use Rattle.auditing.specs.declared.finding.Finding.TheVariants as finding
use Rattle.live.specs.AsAudited.{placed_from}
use Rattle.live.specs.Compared.{known_finding, known_trues}
use Rattle.live.specs.Following.{Audited}
use Rattle.live.specs.Lines.{Line, Decided, TooLate}
use Rattle.live.specs.Live.{State, Step, decides, finds, gives, gives_all, gives_all_up, gives_last, goes_on, held, is_new}
use Rattle.live.specs.Live.{is_outage, judged, judged_at, last_held, last_lines, met, moves_to, passes, passes_all, read_to}
use Rattle.live.specs.Live.{settled, settles, standing_now, stays, strange, strange_lines, taken, taken_all, taken_of, waits}
use Rattle.live.specs.Runs.{run_lines}
use Rattle.live.specs.View.{given_up, up_to}
use Rattle.live.specs.declared.arrived.Arrived.{Arrived}
use Rattle.live.specs.declared.held.SentMessage.{SentMessage}
use Rattle.live.specs.declared.run.Run.{Run}
use Rattle.live.specs.declared.standing.Standing.{Standing}
use Rattle.live.specs.declared.standing.Standing.TheVariants as standing
use Rattle.live.specs.steps.Searching.{is_one}
use Rattle.live.proofs.Settling.{none_beyond, settles_none as nothing_settled}
use Rattle.live.proofs.Standings.{numbered_is}
use Rattle.live.proofs.Steps.{get_dropped, moves_by, passes_all_front, passes_front}

-- What waits is of its hart, which is known, and none of SENT's messages up to the front has its number.
abbrev pub OwnWait : ℕ → List Message → State → Type 0
OwnWait harts sent state = (h : ℕ) (one : Arrived) → state.waiting h ≡ Some one
    → (one.message.hart ≡ h) × (h < harts)
    × ((k : ℕ) → k < state.front → is_one h one.message.number (slice_get sent k) ≡ false)

-- None of these messages has a number that is at no place of them.
none_numbered : (hart number : ℕ) (messages : List Message)
    → ((k : ℕ) → k < length messages → is_one hart number (slice_get messages k) ≡ false)
    → has_number messages hart number ≡ false
none_numbered hart number [] none = refl
none_numbered hart number (message ∷ messages) none =
    ap (λ b. b || has_number messages hart number) (none 0 (omega arith))
    ∙ none_numbered hart number messages (λ k less. none (suc k) (omega (arith, less)))

settles_empty : (state : State) (h other : ℕ) → state.waiting other ≡ None → (settles state h).waiting other ≡ None
settles_empty state h other none = go (eqb other h)
  where
    go : (same : Bool) → cond same None (state.waiting other) ≡ None
    go true = refl
    go false = none

pub settles_none : (state : State) (h : ℕ) → (settles state h).waiting h ≡ None
settles_none state h = ap (λ b. cond b None (state.waiting h)) (eq-eqb h h refl)

-- The front is where it went on to.
pub moved_front : (window : ℕ) (sent : List Message) (front : ℕ) (state : State) → front ≤ length sent
    → front ≤ (moves_to window sent front state).state.front
moved_front window sent front state within =
    let goes = passes_all_front window sent state (drop state.front (take front sent)) in
    let dropped = length-drop state.front (take front sent) in
    let taken = length-take front sent in
    omega (arith, goes, dropped, taken, within)

-- Nobody waits any more of so many harts from this one on.
abbrev pub frees : State → ℕ → ℕ → State
frees state from zero = state
frees state from (suc count) = frees (settles state from) (from + 1) count

-- What came stays, and none waits.
pub frees_came : (state : State) (from count : ℕ)
    → ((frees state from count).came ≡ state.came) × ((frees state from count).by ≡ state.by)
frees_came state from zero = (refl, refl)
frees_came state from (suc count) = frees_came (settles state from) (from + 1) count

frees_kept : (state : State) (from count h : ℕ) → state.waiting h ≡ None → (frees state from count).waiting h ≡ None
frees_kept state from zero h none = none
frees_kept state from (suc count) h none = frees_kept (settles state from) (from + 1) count h (settles_empty state from h none)

frees_in : (state : State) (from count h : ℕ) → from ≤ h → h < from + count → (frees state from count).waiting h ≡ None
frees_in state from zero h past less = absurd (omega (arith, past, less))
frees_in state from (suc count) h past less =
    go (cases_eq from h)
    (λ other. frees_in (settles state from) (from + 1) count h (omega (arith, past, other)) (omega (arith, less)))
  where
    go : (from ≡ h) ⊎ (from ≢ h)
        → ((from ≢ h) → (frees (settles state from) (from + 1) count).waiting h ≡ None)
        → (frees (settles state from) (from + 1) count).waiting h ≡ None
    go (inl same) rest =
        frees_kept (settles state from) (from + 1) count h (ap (settles state from).waiting (sym same) ∙ settles_none state from)
    go (inr other) rest = rest other

-- None waits of a hart that is not known.
pub unknown_none : (harts : ℕ) (sent : List Message) (state : State) → OwnWait harts sent state → (h : ℕ) → harts ≤ h
    → state.waiting h ≡ None
unknown_none harts sent state own h past = go (state.waiting h) refl
  where
    go : (o : Option Arrived) → state.waiting h ≡ o → o ≡ None
    go None is = refl
    go (Some one) is = let known = (own h one is).1 in absurd (omega (arith, known, past))

pub frees_none : (harts : ℕ) (sent : List Message) (state : State) → OwnWait harts sent state → (h : ℕ)
    → (frees state 0 harts).waiting h ≡ None
frees_none harts sent state own h = go (cases_lt h harts)
  where
    go : (h < harts) ⊎ (harts ≤ h) → (frees state 0 harts).waiting h ≡ None
    go (inl known) = frees_in state 0 harts h (omega arith) (omega (arith, known))
    go (inr past) = frees_kept state 0 harts h (unknown_none harts sent state own h past)

-- What messages that are given up leave as it is.
pub all_same : (slots : List SentMessage) (state : State) → let last = (gives_all state slots).state in
    (last.waiting ≡ state.waiting) × (last.front ≡ state.front) × (last.by ≡ state.by) × (last.came ≡ state.came)
all_same [] state = (refl, refl, refl, refl)
all_same (slot ∷ slots) state =
    let rest = all_same slots (gives state slot).state in (rest.0, rest.1, rest.2, rest.3)

module _ (harts window : ℕ) (sent : List Message) where
  -- Why a message that is beyond is a stranger: its hart is not known; or the next one of its hart is in hand too, and
  -- they are not near each other and beyond, or SENT was read up to it; or SENT does not have it.
  abbrev pub Reason : State → Arrived → List Arrived → Type 0
  Reason state one queue =
      (harts ≤ one.message.hart)
      ⊎ ((second : Arrived) × (more : List Arrived) × (queue ≡ second ∷ more) × (second.message.hart ≡ one.message.hart)
      × (standing_now window sent state one.message ≡ standing.Beyond)
      × ((is_outage window sent state one.message second.message ≡ false) ⊎ (read_to sent one.message ≤ state.front + window)))
      ⊎ (has_number sent one.message.hart one.message.number ≡ false)

  -- What small steps keep: between states, with the messages that are in hand or still to come.
  pub record Small (R : State → List Arrived → List Line → State → List Arrived → Type 0) : Type 0 where
    pub none : (s : State) (q : List Arrived) → R s q [] s q
    pub then : (a : State) (p : List Arrived) (l : List Line) (b : State) (q : List Arrived) (k : List Line) (c : State)
        (r : List Arrived) → R a p l b q → R b q k c r → R a p (l ++ k) c r
    pub passes : (s : State) (q : List Arrived) (m : Message) → OwnWait harts sent s → slice_get sent s.front ≡ Some m
        → R s q (passes window sent s m).lines (passes window sent s m).state q
    pub settles : (s : State) (q : List Arrived) (h : ℕ) (one : Arrived) → OwnWait harts sent s → s.waiting h ≡ Some one
        → R s q [] (settles s h) (one ∷ q)
    pub finds : (s : State) (q : List Arrived) (one : Arrived) (place : ℕ) → s.waiting one.message.hart ≡ None
        → standing_now window sent s one.message ≡ standing.At place
        → let step = finds sent s one (known_finding s.by sent s.came one.message) in R s (one ∷ q) step.lines step.state q
    pub late : (s : State) (q : List Arrived) (one : Arrived) → s.waiting one.message.hart ≡ None
        → one.message.hart < harts → standing_now window sent s one.message ≡ standing.Below
        → R s (one ∷ q) (TooLate one ∷ []) s q
    pub strange : (s : State) (q : List Arrived) (one : Arrived) → s.waiting one.message.hart ≡ None → Reason s one q
        → R s (one ∷ q) (Decided one finding.Stranger None ∷ []) s q
    pub waits : (s : State) (q : List Arrived) (one : Arrived) → s.waiting one.message.hart ≡ None
        → standing_now window sent s one.message ≡ standing.Beyond → R s (one ∷ q) [] (waits s one).state q

  -- The same of what is written as messages of SENT are given up.
  pub record Quiet (R : State → List Arrived → List Line → State → List Arrived → Type 0) : Type 0 where
    pub given : (s : State) (q : List Arrived) (slot : SentMessage) → R s q (gives s slot).lines (gives s slot).state q
    pub missing : (s : State) (h : ℕ) (run : Run) → R s [] (run_lines h run) s []

  -- A message waits no longer than before.
  record Fewer (state next : State) : Type 0 where
    own : OwnWait harts sent next
    empty : (h : ℕ) → state.waiting h ≡ None → next.waiting h ≡ None
    by : next.by ≡ state.by

  settles_own : (state : State) (h : ℕ) → OwnWait harts sent state → OwnWait harts sent (settles state h)
  settles_own state h own other one some = go (eqb other h) some
    where
      go : (same : Bool) → cond same None (state.waiting other) ≡ Some one
          → (one.message.hart ≡ other) × (other < harts)
          × ((k : ℕ) → k < state.front → is_one other one.message.number (slice_get sent k) ≡ false)
      go true some = cc
      go false some = own other one some

  -- The front goes on by one message: what waits.
  module _ (state : State) (message : Message) (own : OwnWait harts sent state)
      (at : slice_get sent state.front ≡ Some message) where
    abbrev on : State
    on = record state { front = state.front + 1 }

    on_own : (waiting : ℕ → Option Arrived) → OwnWait harts sent (record state { waiting = waiting })
        → ((one : Arrived) → waiting message.hart ≡ Some one → one.message.number ≡ message.number → ⊥)
        → OwnWait harts sent (record on { waiting = waiting })
    on_own waiting old other h one some =
        let its = old h one some in
        (its.0, its.1, λ k less. go k (cases_lt k state.front) less)
      where
        go : (k : ℕ) → (k < state.front) ⊎ (state.front ≤ k) → k < state.front + 1
            → is_one h one.message.number (slice_get sent k) ≡ false
        go k (inl before) less = (old h one some).2 k before
        go k (inr past) less =
            let here : k ≡ state.front = omega (arith, past, less) in
            ap (λ n. is_one h one.message.number (slice_get sent n)) here
            ∙ ap (is_one h one.message.number) at
            ∙ false_from_ne_true (is_numbered h one.message.number message)
            (λ same.
            let its = numbered_is h one.message.number message same in
            other one (ap waiting its.0 ∙ some) (sym its.1))

    met_fewer : (o : Option Arrived) → state.waiting message.hart ≡ o → Fewer state (met sent on message o).state
    met_fewer None is =
        record { own = on_own state.waiting own (λ one some same. let never : None ≡ Some one = sym is ∙ some in cc); empty = λ h none. none; by = refl }
    met_fewer (Some one) is = go (eqb one.message.number message.number) refl
      where
        go : (same : Bool) → eqb one.message.number message.number ≡ same → Fewer state (cond same
            (finds sent (settles on message.hart) one (known_finding state.by sent state.came one.message)) (stays on)).state
        go true test = record {
          own = on_own (settles state message.hart).waiting (settles_own state message.hart own)
              (λ other some same. let never : None ≡ Some other = sym (settles_none state message.hart) ∙ some in cc);
          empty = settles_empty state message.hart;
          by = refl;
        }
        go false test = record {
          own = on_own state.waiting own
              (λ other some same.
              let is_one : Some one ≡ Some other = sym is ∙ some in
              let its : one ≡ other = same_Some one other is_one in
              eqb-false one.message.number message.number test (ap (λ (x : Arrived). x.message.number) its ∙ same));
          empty = λ h none. none;
          by = refl;
        }

    last_fewer : (next : State) (slot : Option SentMessage) → Fewer state next → Fewer state (gives_last next slot).state
    last_fewer next None fewer = fewer
    last_fewer next (Some slot) fewer = record { own = fewer.own; empty = fewer.empty; by = fewer.by }

    passes_fewer : Fewer state (passes window sent state message).state
    passes_fewer =
        let first = met sent on message (state.waiting message.hart) in
        last_fewer first.state (last_held first.state.by first.state.came sent (given_up window first.state.front))
        (met_fewer (state.waiting message.hart) refl)

  -- One that is beyond is none of SENT's up to a window after the front.
  pub beyond_none : AreInTurn harts [] sent → (state : State) (message : Message)
      → standing_now window sent state message ≡ standing.Beyond
      → (k : ℕ) → k < state.front + window → is_one message.hart message.number (slice_get sent k) ≡ false
  beyond_none turn state message beyond =
      let all : Audited =
      record { harts = harts; window = window; by = state.by; sent = sent; rest = []; ending = None } in
      none_beyond all (record { in_turn = turn; cut = tt }) state message.hart message.number beyond (state.front + window)
      (omega arith)

  module _ (turn : AreInTurn harts [] sent) (R : State → List Arrived → List Line → State → List Arrived → Type 0)
      (small : Small R) where
    -- A step was made.
    record Went (state : State) (first : List Arrived) (lines : List Line) (next : State) (queue : List Arrived) : Type 0 where
      run : R state first lines next queue
      fewer : Fewer state next

    abbrev Goes : State → List Arrived → Step → List Arrived → Type 0
    Goes state first step queue = Went state first step.lines step.state queue

    stays_goes : (state : State) (queue : List Arrived) → OwnWait harts sent state → Goes state queue (stays state) queue
    stays_goes state queue own = record { run = small.none state queue; fewer = record { own = own; empty = λ h none. none; by = refl } }

    then_goes : (a : State) (p : List Arrived) (l : List Line) (b : State) (q : List Arrived) (k : List Line) (c : State)
        (r : List Arrived) → Went a p l b q → Went b q k c r → Went a p (l ++ k) c r
    then_goes a p l b q k c r one two = record {
      run = small.then a p l b q k c r one.run two.run;
      fewer = record {
        own = two.fewer.own;
        empty = λ h none. two.fewer.empty h (one.fewer.empty h none);
        by = two.fewer.by ∙ one.fewer.by;
      };
    }

    -- The front goes on over the messages of SENT that follow.
    over_goes : (state : State) (queue : List Arrived) (messages rest : List Message) → OwnWait harts sent state
        → messages ++ rest ≡ drop state.front sent → Goes state queue (passes_all window sent state messages) queue
    over_goes state queue [] rest own is = stays_goes state queue own
    over_goes state queue (message ∷ messages) rest own is =
        let first = passes window sent state message in
        let at : slice_get sent state.front ≡ Some message =
        ap (slice_get sent) (let none : state.front ≡ state.front + 0 = omega arith in none) ∙ sym (get_dropped sent state.front 0)
        ∙ ap (λ l. slice_get l 0) (sym is) in
        let fewer = passes_fewer state message own at in
        let front : first.state.front ≡ state.front + 1 = passes_front window sent state message in
        let next : messages ++ rest ≡ drop first.state.front sent =
        ap (drop 1) is ∙ drop-drop 1 state.front sent ∙ ap (λ n. drop n sent) (omega (arith, front)) in
        then_goes state queue first.lines first.state queue (passes_all window sent first.state messages).lines
        (passes_all window sent first.state messages).state queue
        (record { run = small.passes state queue message own at; fewer = fewer })
        (over_goes first.state queue messages rest fewer.own next)

    moves_goes : (front : ℕ) (state : State) (queue : List Arrived) → OwnWait harts sent state
        → Goes state queue (moves_to window sent front state) queue
    moves_goes front state queue own =
        subst (λ step. Goes state queue step queue) (sym (moves_by window sent front state))
        (over_goes state queue (take (front - state.front) (drop state.front sent))
        (drop (front - state.front) (drop state.front sent)) own
        (take-append-drop (front - state.front) (drop state.front sent)))

    -- A message is decided in view, and the front goes on to it if it is new.
    decides_goes : (state : State) (one : Arrived) (queue : List Arrived) (place : ℕ) → OwnWait harts sent state
        → state.waiting one.message.hart ≡ None → standing_now window sent state one.message ≡ standing.At place
        → Goes state (one ∷ queue) (decides window sent state one place (known_finding state.by sent state.came one.message)) queue
    decides_goes state one queue place own none at =
        let its = known_finding state.by sent state.came one.message in
        let first = finds sent state one its in
        let to = cond (is_new its) (up_to window state.front place) 0 in
        then_goes state (one ∷ queue) first.lines first.state queue (moves_to window sent to first.state).lines
        (moves_to window sent to first.state).state queue
        (record { run = small.finds state queue one place none at; fewer = record { own = own; empty = λ h no. no; by = refl } })
        (moves_goes to first.state queue own)

    same_goes : (state : State) (first queue : List Arrived) (lines : List Line) → OwnWait harts sent state
        → R state first lines state queue → Went state first lines state queue
    same_goes state first queue lines own run = record { run = run; fewer = record { own = own; empty = λ h none. none; by = refl } }

    -- A message that has waited is looked up.
    strange_judged : (state : State) (one : Arrived) (queue : List Arrived) → OwnWait harts sent state
        → state.waiting one.message.hart ≡ None → one.message.hart < harts
        → (standing_now window sent state one.message ≡ standing.Beyond → Reason state one queue)
        → (its : Standing) → standing_now window sent state one.message ≡ its
        → Goes state (one ∷ queue) (judged_at strange window sent state one its) queue
    strange_judged state one queue own none known why standing.Below is =
        same_goes state (one ∷ queue) queue (TooLate one ∷ []) own (small.late state queue one none known is)
    strange_judged state one queue own none known why standing.Beyond is =
        same_goes state (one ∷ queue) queue (Decided one finding.Stranger None ∷ []) own
        (small.strange state queue one none (why is))
    strange_judged state one queue own none known why (standing.At place) is = decides_goes state one queue place own none is

    -- One that is just taken.
    record Took (state : State) (first : List Arrived) (lines : List Line) (next : State) (queue : List Arrived) : Type 0 where
      run : R state first lines next queue
      own : OwnWait harts sent next
      by : next.by ≡ state.by

    waits_own : (state : State) (one : Arrived) → OwnWait harts sent state → one.message.hart < harts
        → standing_now window sent state one.message ≡ standing.Beyond → OwnWait harts sent (waits state one).state
    waits_own state one own known beyond other x some = at (eqb other one.message.hart) refl some
      where
        at : (same : Bool) → eqb other one.message.hart ≡ same → cond same (Some one) (state.waiting other) ≡ Some x
            → (x.message.hart ≡ other) × (other < harts)
            × ((k : ℕ) → k < state.front → is_one other x.message.number (slice_get sent k) ≡ false)
        at false is some = own other x some
        at true is some =
            let its : one ≡ x = same_Some one x some in
            let hart_is = eqb-true other one.message.hart is in (
              ap (λ (a : Arrived). a.message.hart) (sym its) ∙ sym hart_is,
              omega (arith, hart_is, known),
              λ k less.
                  ap (λ h. is_one h x.message.number (slice_get sent k)) hart_is
                  ∙ ap (λ (a : Arrived). is_one one.message.hart a.message.number (slice_get sent k)) (sym its)
                  ∙ beyond_none turn state one.message beyond k (omega (arith, less)),
            )

    waits_judged : (state : State) (one : Arrived) (queue : List Arrived) → OwnWait harts sent state
        → state.waiting one.message.hart ≡ None → one.message.hart < harts → (its : Standing)
        → standing_now window sent state one.message ≡ its
        → Took state (one ∷ queue) (judged_at waits window sent state one its).lines
        (judged_at waits window sent state one its).state queue
    waits_judged state one queue own none known standing.Below is = record { run = small.late state queue one none known is; own = own; by = refl }
    waits_judged state one queue own none known standing.Beyond is =
        record { run = small.waits state queue one none is; own = waits_own state one own known is; by = refl }
    waits_judged state one queue own none known (standing.At place) is =
        let goes = decides_goes state one queue place own none is in record { run = goes.run; own = goes.fewer.own; by = goes.fewer.by }

    -- The one of its hart that waits is decided.
    settled_goes : (state : State) (one : Arrived) (queue : List Arrived) (o : Option Arrived) → OwnWait harts sent state
        → state.waiting one.message.hart ≡ o
        → Goes state (one ∷ queue) (settled window sent state one o) (one ∷ queue)
        × ((settled window sent state one o).state.waiting one.message.hart ≡ None)
    settled_goes state one queue None own is = (stays_goes state (one ∷ queue) own, is)
    settled_goes state one queue (Some first) own is =
        let its = (own one.message.hart first is).0 in
        let on = goes_on window sent freed first.message one.message in
        let went = on_goes (is_outage window sent freed first.message one.message) refl in
        let last = judged strange window sent on.state first in
        let none = went.0.fewer.empty one.message.hart (settles_none state one.message.hart) in
        let judges = strange_judged on.state first (one ∷ queue) went.0.fewer.own (ap on.state.waiting its ∙ none)
        (let known = (own one.message.hart first is).1 in omega (arith, its, known))
        (λ beyond. inr (inl (one, queue, refl, sym its, beyond, went.1)))
        (standing_now window sent on.state first.message) refl in (
          then_goes state (one ∷ queue) [] freed (first ∷ one ∷ queue) (on.lines ++ last.lines) last.state (one ∷ queue)
              (record {
                run = small.settles state (one ∷ queue) one.message.hart first own is;
                fewer = record { own = freed_own; empty = settles_empty state one.message.hart; by = refl };
              })
              (then_goes freed (first ∷ one ∷ queue) on.lines on.state (first ∷ one ∷ queue) last.lines last.state (one ∷ queue)
              went.0 judges),
          judges.fewer.empty one.message.hart none,
        )
      where
        freed : State
        freed = settles state one.message.hart

        freed_own : OwnWait harts sent freed
        freed_own = settles_own state one.message.hart own

        on_goes : (out : Bool) → is_outage window sent freed first.message one.message ≡ out
            → let on = cond out (moves_to window sent (read_to sent first.message - window) freed) (stays freed) in
            Goes freed (first ∷ one ∷ queue) on (first ∷ one ∷ queue)
            × ((is_outage window sent on.state first.message one.message ≡ false)
            ⊎ (read_to sent first.message ≤ on.state.front + window))
        on_goes false is = (stays_goes freed (first ∷ one ∷ queue) freed_own, inl is)
        on_goes true is =
            let to = read_to sent first.message - window in (
              moves_goes to freed (first ∷ one ∷ queue) freed_own,
              inr (let moved = moved_front window sent to freed (omega arith) in omega (arith, moved)),
            )

    taken_goes : (state : State) (one : Arrived) (queue : List Arrived) → OwnWait harts sent state
        → Took state (one ∷ queue) (taken_of harts window sent state one).lines (taken_of harts window sent state one).state queue
    taken_goes state one queue own = go (ltb one.message.hart harts) refl
      where
        go : (known : Bool) → ltb one.message.hart harts ≡ known
            → let step = cond known (taken window sent state one) (strange state one) in
            Took state (one ∷ queue) step.lines step.state queue
        go false is =
            let past = ltb-false one.message.hart harts is in
            record {
              run = small.strange state queue one (unknown_none harts sent state own one.message.hart past) (inl past);
              own = own;
              by = refl;
            }
        go true is =
            let first = settled window sent state one (state.waiting one.message.hart) in
            let last = judged waits window sent first.state one in
            let before = settled_goes state one queue (state.waiting one.message.hart) own refl in
            let after = waits_judged first.state one queue before.0.fewer.own before.1 (ltb-true one.message.hart harts is)
            (standing_now window sent first.state one.message) refl in
            record {
              run = small.then state (one ∷ queue) first.lines first.state (one ∷ queue) last.lines last.state queue
                  before.0.run after.run;
              own = after.own;
              by = after.by ∙ before.0.fewer.by;
            }

    -- RECEIVED was taken, and the front went on to SENT's end. What is left of SENT is given up after that.
    pub record Runs (state : State) (queue : List Arrived) (step : Step) : Type 0 where
      pub before : State
      pub lines : List Line
      pub run : R state queue lines before []
      pub own : OwnWait harts sent before
      pub by : before.by ≡ state.by
      pub front : length sent ≤ before.front
      pub parts : step.lines ≡ (lines ++ (gives_all_up window sent before).lines)
          ++ last_lines harts (gives_all_up window sent before).state
      pub last : step.state ≡ (gives_all_up window sent before).state

    pub runs : (messages : List Message) (place : ℕ) (state : State) → OwnWait harts sent state
        → Runs state (placed_from place messages) (taken_all harts window sent state place messages)
    runs [] place state own =
        let moved = moves_goes (length sent) state [] own in
        record {
          before = (moves_to window sent (length sent) state).state;
          lines = (moves_to window sent (length sent) state).lines;
          run = moved.run;
          own = moved.fewer.own;
          by = moved.fewer.by;
          front = moved_front window sent (length sent) state (omega arith);
          parts = refl;
          last = refl;
        }
    runs (message ∷ messages) place state own =
        let one : Arrived = record { place = place; message = message } in
        let first = taken_of harts window sent state one in
        let takes = taken_goes state one (placed_from (place + 1) messages) own in
        let rest = runs messages (place + 1) first.state takes.own in
        let gave = gives_all_up window sent rest.before in
        record {
          before = rest.before;
          lines = first.lines ++ rest.lines;
          run = small.then state (one ∷ placed_from (place + 1) messages) first.lines first.state
              (placed_from (place + 1) messages) rest.lines rest.before [] takes.run rest.run;
          own = rest.own;
          by = rest.by ∙ takes.by;
          front = rest.front;
          parts =
              ap (λ l. first.lines ++ l) rest.parts
              ∙ sym (append_assoc first.lines (rest.lines ++ gave.lines) (last_lines harts gave.state))
              ∙ ap (λ l. l ++ last_lines harts gave.state) (sym (append_assoc first.lines rest.lines gave.lines));
          last = rest.last;
        }

    -- What waits at the end is a stranger.
    pub strangers_run : (waiting : ℕ → Option Arrived) (from count : ℕ) (state : State) → OwnWait harts sent state
        → length sent ≤ state.front → ((h : ℕ) → from ≤ h → waiting h ≡ state.waiting h)
        → R state [] (flat_map (λ h. strange_lines (waiting h)) (range_with_len from count)) (frees state from count) []
    strangers_run waiting from zero state own end same = small.none state []
    strangers_run waiting from (suc count) state own end same =
        small.then state [] (strange_lines (waiting from)) (settles state from) []
        (flat_map (λ h. strange_lines (waiting h)) (range_with_len (from + 1) count)) (frees state from (suc count)) []
        (go (waiting from) (same from (omega arith)))
        (strangers_run waiting (from + 1) count (settles state from) (settles_own state from own) end
        (λ h past. same h (omega (arith, past))
        ∙ sym (ap (λ b. cond b None (state.waiting h)) (ne_eqb h from (λ is. omega (arith, is, past))))))
      where
        go : (o : Option Arrived) → o ≡ state.waiting from → R state [] (strange_lines o) (settles state from) []
        go None is =
            subst (λ s. R state [] [] s []) (sym (nothing_settled state from (sym is))) (small.none state [])
        go (Some one) is =
            small.then state [] [] (settles state from) (one ∷ []) (Decided one finding.Stranger None ∷ []) (settles state from) []
            (small.settles state [] from one own (sym is))
            (small.strange (settles state from) [] one
            (ap (settles state from).waiting its ∙ settles_none state from)
            (inr (inr (ap (λ h. has_number sent h one.message.number) its
            ∙ none_numbered from one.message.number sent
            (λ k less. (own from one (sym is)).2 k (omega (arith, less, end)))))))
          where
            its : one.message.hart ≡ from
            its = (own from one (sym is)).0

    module _ (quiet : Quiet R) where
      all_given : (slots : List SentMessage) (state : State) → let step = gives_all state slots in
          R state [] step.lines step.state []
      all_given [] state = small.none state []
      all_given (slot ∷ slots) state =
          let first = gives state slot in
          let more = gives_all first.state slots in
          small.then state [] first.lines first.state [] more.lines more.state [] (quiet.given state [] slot)
          (all_given slots first.state)

      runs_missing : (runs : ℕ → Run) (from count : ℕ) (state : State)
          → R state [] (flat_map (λ h. run_lines h (runs h)) (range_with_len from count)) state []
      runs_missing runs from zero state = small.none state []
      runs_missing runs from (suc count) state =
          small.then state [] (run_lines from (runs from)) state []
          (flat_map (λ h. run_lines h (runs h)) (range_with_len (from + 1) count)) state []
          (quiet.missing state from (runs from)) (runs_missing runs (from + 1) count state)

      -- The whole audit.
      pub whole_run : (messages : List Message) (place : ℕ) (state : State) → OwnWait harts sent state
          → let step = taken_all harts window sent state place messages in
          R state (placed_from place messages) step.lines (frees step.state 0 harts) [] × OwnWait harts sent step.state
          × (step.state.by ≡ state.by)
      whole_run messages place state own = (
        subst (λ l. R state queue l (frees step.state 0 harts) []) (sym its.parts)
            (subst (λ s. R state queue ((its.lines ++ gave.lines) ++ last_lines harts last) (frees s 0 harts) []) (sym its.last)
            (small.then state queue (its.lines ++ gave.lines) last [] (strangers ++ missing) freed []
            (small.then state queue its.lines its.before [] gave.lines last [] its.run
            (all_given slots its.before))
            (small.then last [] strangers freed [] missing freed []
            (strangers_run last.waiting 0 harts last last_own
            (let front = same.1 in let end = its.front in omega (arith, front, end)) (λ h past. refl))
            (runs_missing last.runs 0 harts freed)))),
        subst (OwnWait harts sent) (sym its.last) last_own,
        ap (λ (s : State). s.by) its.last ∙ same.2 ∙ its.by,
      )
        where
          queue : List Arrived
          queue = placed_from place messages

          step : Step
          step = taken_all harts window sent state place messages

          its : Runs state queue step
          its = runs messages place state own

          gave : Step
          gave = gives_all_up window sent its.before

          last : State
          last = gave.state

          freed : State
          freed = frees last 0 harts

          strangers : List Line
          strangers = flat_map (λ h. strange_lines (last.waiting h)) (range_with_len 0 harts)

          missing : List Line
          missing = flat_map (λ h. run_lines h (last.runs h)) (range_with_len 0 harts)

          slots : List SentMessage
          slots = map (held (known_trues its.before.by sent its.before.came)) (drop (given_up window its.before.front) sent)

          same : (last.waiting ≡ its.before.waiting) × (last.front ≡ its.before.front) × (last.by ≡ its.before.by)
              × (last.came ≡ its.before.came)
          same = all_same slots its.before

          last_own : OwnWait harts sent last
          last_own = subst (λ w. OwnWait harts sent (record last { waiting = w })) (sym same.0)
              (subst (λ n. OwnWait harts sent (record its.before { front = n })) (sym same.1) its.own)
