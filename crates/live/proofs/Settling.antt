-- What waits is decided before the next message of its hart is looked up.
use Rattle.std.proofs.Common.{◌≡◌, ◌≢◌, ◌⊎◌, inl, inr, ℕ, zero, suc, ◌+◌, ◌-◌, ◌<◌, ◌≤◌, Bool, true, false, cond, ltb, List, [], ◌∷◌, ◌++◌}
use Rattle.std.proofs.Common.{Option, Some, None, Result, Ok, Err, drop, length, set, slice_get, take, refl, sym, ap, subst, ◌∙◌, arith}
use Rattle.std.proofs.Math.Path.{fun_ext}
use Rattle.std.proofs.lemmas.Bool.{cases_eq, cases_lt, eq-eqb, false_from_ne_true, le-ltb, lt-ltb, ne_eqb, true≢false}
use Rattle.std.proofs.lemmas.List.{length-set, length-take, take-append-drop}
use Rattle.message.specs.OfHart.{of_hart}
use Rattle.message.specs.declared.message.Message.{Message}
use Rattle.auditing.proofs.Counting.{set_other, set_same}
use Rattle.auditing.specs.Sent.{AreInTurn}
use Rattle.auditing.specs.declared.finding.Finding.TheVariants as finding
use Rattle.live.specs.Auditing.{Goes, GoesTo, LiveHolding, Stands, Stops, Went, waiting_at, waiting_in}
use Rattle.live.specs.Course.{Course, doubted_to, going_on, moves_near, near_lines, reached, settling, taking, then_goes}
use Rattle.live.specs.Following.{Audited, FailsAt, IsAudited, Left, WasAsked, looked_to}
use Rattle.live.specs.Holding.{Holding}
use Rattle.live.specs.Lines.{Line, Decided}
use Rattle.live.specs.Live.{State, Step, and_then, is_beyond, is_outage, judged, judged_at, read_up_to, settled, settles}
use Rattle.live.specs.Live.{standing_now, stays, strange, taken, waits, with_own}
use Rattle.live.specs.View.{given_up, in_view, is_below, standing_from, standing_of}
use Rattle.live.specs.declared.arrived.Arrived.{Arrived}
use Rattle.live.specs.declared.fault.LookFault.{LookFault}
use Rattle.live.specs.declared.standing.Standing.{Standing}
use Rattle.live.specs.declared.standing.Standing.TheVariants as standing
use Rattle.live.specs.steps.Advancing.{IsAsked, IsFound, NoneBefore, reaching}
use Rattle.live.specs.steps.Searching.{is_one}
use Rattle.live.specs.steps.Waiting.{without}
use Rattle.live.proofs.Judging.{slice_get-drop}
use Rattle.live.proofs.Standings.{numbered_is, stands_at, turns_split}
use Rattle.live.proofs.Following.{fails_later, fails_sooner}
use Rattle.live.proofs.Steps.{goes_as, goes_then, stops_at_once, stops_then}
use Rattle.live.proofs.Widening.{get_taken, one_is, read_number, stands_reads}

-- What waits of each hart, where this one waits of one.
waiting_set : (waiting : List (Option Arrived)) (hart : ℕ) (own : Option Arrived) → hart < length waiting → (other : ℕ)
    → waiting_in (set waiting hart own) other ≡ with_own (waiting_in waiting) hart own other
waiting_set waiting hart own within other = go (cases_eq other hart)
  where
    go : (other ≡ hart) ⊎ (other ≢ hart)
        → waiting_in (set waiting hart own) other ≡ with_own (waiting_in waiting) hart own other
    go (inl same) =
        ap (waiting_in (set waiting hart own)) same
        ∙ ap waiting_at (set_same waiting hart own within)
        ∙ sym (ap (λ b. cond b own (waiting_in waiting other)) (eq-eqb other hart same))
    go (inr apart) =
        ap waiting_at (set_other waiting hart other own (λ is. apart (sym is)))
        ∙ sym (ap (λ b. cond b own (waiting_in waiting other)) (ne_eqb other hart apart))

-- None waits of a hart that none waits of.
emptied : (waiting : List (Option Arrived)) (hart : ℕ) → waiting_in (set waiting hart None) hart ≡ None
emptied [] hart = refl
emptied (one ∷ waiting) zero = refl
emptied (one ∷ waiting) (suc hart) = emptied waiting hart

-- What waits of each hart, where none waits of one.
waiting_without : (waiting : List (Option Arrived)) (hart other : ℕ)
    → waiting_in (set waiting hart None) other ≡ with_own (waiting_in waiting) hart None other
waiting_without waiting hart other = go (cases_eq other hart)
  where
    go : (other ≡ hart) ⊎ (other ≢ hart)
        → waiting_in (set waiting hart None) other ≡ with_own (waiting_in waiting) hart None other
    go (inl same) =
        ap (waiting_in (set waiting hart None)) same
        ∙ emptied waiting hart
        ∙ sym (ap (λ b. cond b None (waiting_in waiting other)) (eq-eqb other hart same))
    go (inr apart) =
        ap waiting_at (set_other waiting hart other None (λ is. apart (sym is)))
        ∙ sym (ap (λ b. cond b None (waiting_in waiting other)) (ne_eqb other hart apart))

-- What waits is of its hart, where one more is.
still_own : (waiting : ℕ → Option Arrived) (hart : ℕ) (own : Option Arrived)
    → ((other : ℕ) (one : Arrived) → waiting other ≡ Some one → one.message.hart ≡ other)
    → ((one : Arrived) → own ≡ Some one → one.message.hart ≡ hart)
    → (other : ℕ) (one : Arrived) → with_own waiting hart own other ≡ Some one → one.message.hart ≡ other
still_own waiting hart own old new other one is = go (cases_eq other hart)
  where
    go : (other ≡ hart) ⊎ (other ≢ hart) → one.message.hart ≡ other
    go (inl same) = new one (sym (ap (λ b. cond b own (waiting other)) (eq-eqb other hart same)) ∙ is) ∙ sym same
    go (inr apart) = old other one (sym (ap (λ b. cond b own (waiting other)) (ne_eqb other hart apart)) ∙ is)

module _ (all : Audited) (read : ℕ) (state : State) (own : LiveHolding) (left : Left)
    (stands : Stands all read state own left) where
  -- What waits of a hart is taken.
  pub stands_settles : (hart : ℕ)
      → Stands all read (settles state hart) (record own { waiting = without own.waiting hart }) left
  stands_settles hart = record {
    reads = stands.reads;
    waiting =
        fun_ext (waiting_without own.waiting hart) ∙ ap (λ w. with_own w hart None) stands.waiting;
    runs = stands.runs;
    by = stands.by;
    waits = length-set own.waiting hart None ∙ stands.waits;
    counts = stands.counts;
    own_hart = still_own state.waiting hart None stands.own_hart (λ one is. cc);
    some = stands.some;
    few = stands.few;
  }

  -- A message waits.
  pub stands_waits : (one : Arrived) → one.message.hart < all.harts
      → Stands all read (waits state one).state (record own { waiting = set own.waiting one.message.hart (Some one) }) left
  stands_waits one within = record {
    reads = stands.reads;
    waiting =
        fun_ext
        (waiting_set own.waiting one.message.hart (Some one) (subst (λ n. one.message.hart < n) (sym stands.waits) within))
        ∙ ap (λ w. with_own w one.message.hart (Some one)) stands.waiting;
    runs = stands.runs;
    by = stands.by;
    waits = length-set own.waiting one.message.hart (Some one) ∙ stands.waits;
    counts = stands.counts;
    own_hart =
        still_own state.waiting one.message.hart (Some one) stands.own_hart
        (λ other is. let same : one ≡ other = cc in ap (λ (x : Arrived). x.message.hart) (sym same));
    some = stands.some;
    few = stands.few;
  }

-- Where none waits, nothing changes.
pub settles_none : (state : State) (hart : ℕ) → state.waiting hart ≡ None → settles state hart ≡ state
settles_none state hart none = ap (λ w. record state { waiting = w }) (fun_ext same)
  where
    same : (other : ℕ) → with_own state.waiting hart None other ≡ state.waiting other
    same other = go (cases_eq other hart)
      where
        go : (other ≡ hart) ⊎ (other ≢ hart) → with_own state.waiting hart None other ≡ state.waiting other
        go (inl is) =
            ap (λ b. cond b None (state.waiting other)) (eq-eqb other hart is) ∙ sym (ap state.waiting is ∙ none)
        go (inr apart) = ap (λ b. cond b None (state.waiting other)) (ne_eqb other hart apart)

-- What is beyond is judged so.
pub judged_beyond : (beyond : State → Arrived → Step) (all : Audited) (state : State) (one : Arrived)
    → standing_now all.window all.sent state one.message ≡ standing.Beyond
    → judged beyond all.window all.sent state one ≡ beyond state one
judged_beyond beyond all state one is = ap (judged_at beyond all.window all.sent state one) is

-- No message that was read is one that is beyond the view.
pub none_beyond : (all : Audited) → IsAudited all → (state : State) (hart number : ℕ)
    → standing_of all.window all.sent state.front hart number ≡ standing.Beyond
    → (read : ℕ) → read ≤ state.front + all.window → NoneBefore all read hart number
none_beyond all right state hart number beyond read near k less =
    false_from_ne_true (is_one hart number (slice_get all.sent k)) (λ own. never own (cases_lt k gone))
  where
    gone : ℕ
    gone = given_up all.window state.front

    ahead : ℕ
    ahead = state.front + all.window

    view : List Message
    view = in_view all.window all.sent state.front

    -- Neither below nor in view.
    parts : (low : Bool) → cond low standing.Below (standing_from 0 view hart number) ≡ standing.Beyond
        → (low ≡ false) × (standing_from 0 view hart number ≡ standing.Beyond)
    parts true is = cc
    parts false is = (refl, is)

    both : (is_below all.window all.sent state.front hart number ≡ false) × (standing_from 0 view hart number ≡ standing.Beyond)
    both = parts (is_below all.window all.sent state.front hart number) beyond

    turn : AreInTurn all.harts (take gone (take ahead all.sent)) view
    turn =
        (turns_split all.harts [] (take gone (take ahead all.sent)) view
        (subst (λ l. AreInTurn all.harts [] l) (sym (take-append-drop gone (take ahead all.sent)))
        (turns_split all.harts [] (take ahead all.sent) (drop ahead all.sent)
        (subst (λ l. AreInTurn all.harts [] l) (sym (take-append-drop ahead all.sent)) right.in_turn)).0)).1

    never : is_one hart number (slice_get all.sent k) ≡ true → (k < gone) ⊎ (gone ≤ k) → ⊥
    never own (inl low) =
        let at = one_is hart number (slice_get all.sent k) own in
        let its = numbered_is hart number at.0 at.2 in
        let fewer = read_number all.harts all.sent right.in_turn gone k low at.0 at.1 in
        let count = ap (λ h. length (of_hart h (take gone all.sent))) its.0 in
        let same = its.1 in
        let is : true ≡ false =
        sym (lt-ltb number (length (of_hart hart (take gone all.sent))) (omega (arith, fewer, count, same))) ∙ both.0 in
        true≢false is
    never own (inr high) =
        let place : gone + (k - gone) ≡ k = omega (arith, high) in
        let at : slice_get view (k - gone) ≡ slice_get all.sent k =
        slice_get-drop (take ahead all.sent) gone (k - gone)
        ∙ ap (slice_get (take ahead all.sent)) place
        ∙ get_taken all.sent ahead k (omega (arith, less, near)) in
        let there : standing.At (0 + (k - gone)) ≡ standing.Beyond =
        sym (stands_at all.harts (take gone (take ahead all.sent)) view turn 0 hart number (k - gone)
        (ap (is_one hart number) at ∙ own)) ∙ both.1 in
        cc

-- What is beyond.
pub beyond_is : (its : Standing) → is_beyond its ≡ true → its ≡ standing.Beyond
beyond_is standing.Below is = cc
beyond_is standing.Beyond is = refl
beyond_is (standing.At place) is = cc

-- SENT was not read further than to a window after the front.
pub near_read : (all : Audited) (read : ℕ) (state : State) (own : LiveHolding) (left : Left)
    → Stands all read state own left → read ≤ state.front + all.window
near_read all read state own left stands =
    let taken = length-take read all.sent in
    let ahead = stands.reads.holds.ahead in
    let window = stands.reads.window in
    let within = stands.reads.within in
    omega (arith, taken, ahead, window, within)

-- What is found of what is held of SENT is found of all that is held.
pub found_asked : (all : Audited) (from to read : ℕ) (state : State) (own : LiveHolding) (left : Left)
    → Stands all read state own left → (is : Bool) (result : Result Bool LookFault) (window : Holding) (after : Left)
    → IsFound all from to state is result window after
    → IsAsked all from to state is result (record own { window = window }) after
found_asked all from to read state own left stands is (Ok found) window after its = (
  its.0,
  (
    its.1.0,
    stands_reads all read state own left stands its.1.0 state.came state.front window after its.1.1,
    its.1.2,
  ),
)
found_asked all from to read state own left stands is (Err why) window after its = its

-- It is found whether the path was out, and SENT is read on if it was.
module _ (all : Audited) (state : State) (first second : Message) (asked : ℕ) where
  abbrev doubted : ℕ
  doubted = doubted_to all state first second asked

  pub doubted_later : asked ≤ doubted_to all state first second asked
  doubted_later = go (is_beyond (standing_now all.window all.sent state first))
    where
      once : ℕ
      once = looked_to all state.front first.hart first.number asked

      go : (is : Bool) → asked ≤ cond is (looked_to all state.front second.hart second.number once) once
      go true = omega arith
      go false = omega arith

  -- By whether it was.
  abbrev course : Bool → Course
  course is = record {
    step = cond is (moves_near all (read_up_to all.sent first.hart first.number) state) (stays state);
    asked = cond is (reached all first.hart first.number doubted) doubted;
    told = λ failed. cond (ltb failed doubted) [] (near_lines all state failed);
  }

  course_later : (is : Bool) → doubted ≤ (course is).asked
  course_later true = omega arith
  course_later false = omega arith

  pub going_later : asked ≤ (going_on all state first second asked).asked
  going_later =
      let own = doubted_later in
      let more : doubted_to all state first second asked ≤ (going_on all state first second asked).asked =
      course_later (is_outage all.window all.sent state first second) in
      omega (arith, own, more)

  -- SENT failed before that was found.
  pub doubt_fails : (Told : List Line → Type 0) (why : LookFault) (left : Left) → Told []
      → FailsAt all asked (doubted_to all state first second asked) why left
      → Stops all Told asked (going_on all state first second asked) why left
  doubt_fails Told why left told fails =
      stops_at_once all Told asked (going_on all state first second asked) why left
      (fails_sooner all asked doubted (going_on all state first second asked).asked why left
      (course_later (is_outage all.window all.sent state first second)) fails)
      (ap (λ b. cond b [] (near_lines all state fails.asked)) (lt-ltb fails.asked doubted fails.less)) told

  -- The path was out: SENT was read on.
  pub went_on : {U : Type 0} → (Told : List Line → Type 0) (result : Result U LookFault) (own : LiveHolding) (left : Left)
      → true ≡ is_outage all.window all.sent state first second
      → Went all Told (doubted_to all state first second asked)
      (reaching all state first.hart first.number (doubted_to all state first second asked)) result own left
      → Went all Told asked (going_on all state first second asked) result own left
  went_on Told (Ok done) own left out goes = subst (λ b. Goes all Told (course b) own left) out goes
  went_on Told (Err why) own left out stops =
      let same =
      ap (λ b. cond b [] (near_lines all state stops.fails.asked)) (le-ltb stops.fails.asked doubted stops.fails.more) in
      subst (λ b. Stops all Told asked (course b) why left) out (record {
        fails = fails_later all asked doubted (course true).asked why left doubted_later stops.fails;
        rest = stops.rest;
        parts = ap (λ l. l ++ stops.rest) same ∙ stops.parts;
        told = subst Told (sym same) stops.told;
      })

  -- It was not: nothing happens.
  pub went_still : (Told : List Line → Type 0) (read : ℕ) (own : LiveHolding) (left : Left)
      → false ≡ is_outage all.window all.sent state first second → Stands all read state own left
      → WasAsked all (doubted_to all state first second asked) read → Told []
      → Went {U = Unit {0}} all Told asked (going_on all state first second asked) (Ok tt) own left
  went_still Told read own left out stands was told =
      subst (λ b. Goes all Told (course b) own left) out (read, record { stands = stands; told = told }, was)

-- What waits is settled by the step that settles it, and asked for no less.
pub settling_step : (all : Audited) (state : State) (one : Arrived) (first : Option Arrived) (asked : ℕ)
    → (settling all state one first asked).step ≡ settled all.window all.sent state one first
settling_step all state one None asked = refl
settling_step all state one (Some first) asked = refl

pub settling_later : (all : Audited) (state : State) (one : Arrived) (first : Option Arrived) (asked : ℕ)
    → asked ≤ (settling all state one first asked).asked
settling_later all state one None asked = omega arith
settling_later all state one (Some first) asked =
    let more = going_later all (settles state one.message.hart) first.message one.message asked in omega (arith, more)

-- A message is taken by the step that takes it.
pub taking_step : (all : Audited) (state : State) (one : Arrived) (asked : ℕ)
    → (taking all state one asked).step ≡ taken all.window all.sent state one
taking_step all state one asked =
    ap (λ step. and_then step (λ next. judged waits all.window all.sent next one))
    (settling_step all state one (state.waiting one.message.hart) asked)

module _ (Lines : Type 0) (Told : Lines → List Line → Lines → Type 0)
    (joined : (first between last : Lines) (before after : List Line) → Told first before between
    → Told between after last → Told first (before ++ after) last) (all : Audited) (first between last : Lines) where
  -- A course was gone, and then the next one, or that one could not be.
  pub went_then : {U : Type 0} → (from : ℕ) (course : Course) (next : State → ℕ → Course) (result : Result U LookFault)
      (own : LiveHolding) (left : Left) → from ≤ course.asked → Told first course.step.lines between
      → Went all (λ told. Told between told last) course.asked (next course.step.state course.asked) result own left
      → Went all (λ told. Told first told last) from (then_goes course next) result own left
  went_then from course next (Ok done) own left later before after = (
    after.0,
    goes_then Lines Told joined all first between last course.step (λ state. (next state course.asked).step) after.0 own left
        before after.1,
    after.2,
  )
  went_then from course next (Err why) own left later before after =
      stops_then course next Lines Told joined all first between last from why left before later after

  -- What is beyond is a stranger.
  pub last_strange : (read : ℕ) (state : State) (one : Arrived) (own : LiveHolding) (left : Left)
      → standing_now all.window all.sent state one.message ≡ standing.Beyond
      → GoesTo all read (λ told. Told first told between) (stays state) own left
      → Told between (Decided one finding.Stranger None ∷ []) last
      → GoesTo all read (λ told. Told first told last) (judged strange all.window all.sent state one) own left
  last_strange read state one own left beyond goes told =
      goes_as all read (λ t. Told first t last) (strange state one) (judged strange all.window all.sent state one) own left
      (sym (judged_beyond strange all state one beyond))
      (record {
        stands = goes.stands;
        told = joined first between last [] (Decided one finding.Stranger None ∷ []) goes.told told;
      })

-- What is beyond waits.
pub first_waits : (all : Audited) (read : ℕ) (Told : List Line → Type 0) (state : State) (one : Arrived)
    (own : LiveHolding) (left : Left)
    → standing_now all.window all.sent state one.message ≡ standing.Beyond → GoesTo all read Told (stays state) own left
    → one.message.hart < all.harts
    → GoesTo all read Told (judged waits all.window all.sent state one)
    (record own { waiting = set own.waiting one.message.hart (Some one) }) left
first_waits all read Told state one own left beyond goes within =
    goes_as all read Told (waits state one) (judged waits all.window all.sent state one)
    (record own { waiting = set own.waiting one.message.hart (Some one) }) left
    (sym (judged_beyond waits all state one beyond))
    (record { stands = stands_waits all read state own left goes.stands one within; told = goes.told })
