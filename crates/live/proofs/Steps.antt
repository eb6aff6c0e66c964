-- Steps of a live audit, one after the other.
use Rattle.std.proofs.Common.{◌≡◌, ◌⊎◌, inl, inr, ℕ, zero, suc, ◌+◌, ◌-◌, ◌<◌, ◌≤◌, Bool, true, false, cond, eqb, List, [], ◌∷◌, ◌++◌}
use Rattle.std.proofs.Common.{Option, Some, None, drop, length, slice_get, take, refl, sym, ap, subst, ◌∙◌, arith}
use Rattle.std.proofs.lemmas.Bool.{cases_lt, le-ltb, lt-ltb}
use Rattle.std.proofs.lemmas.List.{append-nil, append_assoc, drop-append-le, drop-take, drop_all, length-drop, length-take}
use Rattle.std.proofs.lemmas.List.{take-append-drop, take-take}
use Rattle.message.specs.declared.message.Message.{Message}
use Rattle.live.specs.Compared.{known_finding}
use Rattle.live.specs.Auditing.{GoesTo, LiveHolding, Stops}
use Rattle.live.specs.Course.{Course, then_goes}
use Rattle.live.specs.Following.{Audited, FailsAt, Left}
use Rattle.live.specs.Lines.{Line}
use Rattle.live.specs.Live.{State, Step, after_lines, and_then, finds, gives_last, last_held, met, moves_to, passes}
use Rattle.live.specs.Live.{passes_all, settles, stays}
use Rattle.live.specs.View.{given_up}
use Rattle.live.specs.declared.arrived.Arrived.{Arrived}
use Rattle.live.specs.declared.fault.LookFault.{LookFault}
use Rattle.live.specs.declared.held.SentMessage.{SentMessage}
use Rattle.live.proofs.Following.{fails_later, fails_sooner}
use Rattle.live.proofs.Passing.{drop_from, take_to}

-- Two steps with the same state and the same lines.
pub same_step : (state : State) (lines more : List Line) → lines ≡ more
    → let mk : List Line → Step = λ l. record { state = state; lines = l } in mk lines ≡ mk more
same_step state lines more is = ap (λ l. record { state = state; lines = l }) is

-- Nothing happens after a step.
pub then_stays : (step : Step) → and_then step stays ≡ step
then_stays step = same_step step.state (step.lines ++ []) step.lines (append-nil step.lines)

-- Three steps one after the other.
pub then_then : (step : Step) (next more : State → Step)
    → and_then (and_then step next) more ≡ and_then step (λ state. and_then (next state) more)
then_then step next more =
    let last = more (next step.state).state in
    same_step last.state ((step.lines ++ (next step.state).lines) ++ last.lines)
    (step.lines ++ ((next step.state).lines ++ last.lines))
    (append_assoc step.lines (next step.state).lines last.lines)

-- The front goes on over messages, and then over more.
pub passes_joined : (window : ℕ) (sent : List Message) (state : State) (first more : List Message)
    → passes_all window sent state (first ++ more)
    ≡ and_then (passes_all window sent state first) (λ next. passes_all window sent next more)
passes_joined window sent state [] more = refl
passes_joined window sent state (message ∷ first) more =
    ap (after_lines (passes window sent state message).lines)
    (passes_joined window sent (passes window sent state message).state first more)
    ∙ sym (then_then (passes window sent state message) (λ next. passes_all window sent next first)
    (λ next. passes_all window sent next more))

-- What is met leaves the front.
pub met_front : (sent : List Message) (state : State) (message : Message) (one : Option Arrived)
    → (met sent state message one).state.front ≡ state.front
met_front sent state message None = refl
met_front sent state message (Some one) = go (eqb one.message.number message.number)
  where
    go : (same : Bool)
        → (cond same (finds sent (settles state message.hart) one (known_finding state.by sent state.came one.message)) (stays state)).state.front
        ≡ state.front
    go true = refl
    go false = refl

-- What is given up leaves the front.
gives_front : (state : State) (slot : Option SentMessage) → (gives_last state slot).state.front ≡ state.front
gives_front state None = refl
gives_front state (Some slot) = refl

-- The front goes on by one.
pub passes_front : (window : ℕ) (sent : List Message) (state : State) (message : Message)
    → (passes window sent state message).state.front ≡ state.front + 1
passes_front window sent state message =
    let first = met sent (record state { front = state.front + 1 }) message (state.waiting message.hart) in
    gives_front first.state (last_held first.state.by first.state.came sent (given_up window first.state.front))
    ∙ met_front sent (record state { front = state.front + 1 }) message (state.waiting message.hart)

-- The front goes on by as many as it goes on over.
pub passes_all_front : (window : ℕ) (sent : List Message) (state : State) (messages : List Message)
    → (passes_all window sent state messages).state.front ≡ state.front + length messages
passes_all_front window sent state [] = omega arith
passes_all_front window sent state (message ∷ messages) =
    let one = passes_front window sent state message in
    let rest = passes_all_front window sent (passes window sent state message).state messages in
    omega (arith, one, rest)

-- The front is there already.
pub moves_none : (window : ℕ) (sent : List Message) (front : ℕ) (state : State) → front ≤ state.front
    → moves_to window sent front state ≡ stays state
moves_none window sent front state there =
    ap (passes_all window sent state)
    (drop_all state.front (take front sent) (let count = length-take front sent in omega (arith, count, there)))

-- The front goes on to the next message.
pub moves_one : (window : ℕ) (sent : List Message) (state : State) (message : Message)
    → slice_get sent state.front ≡ Some message
    → moves_to window sent (state.front + 1) state ≡ passes window sent state message
moves_one window sent state message is =
    ap (passes_all window sent state) one ∙ then_stays (passes window sent state message)
  where
    next : state.front + 1 ≡ suc state.front
    next = omega arith

    one : drop state.front (take (state.front + 1) sent) ≡ message ∷ []
    one =
        ap (λ n. drop state.front (take n sent)) next
        ∙ drop_from (take (suc state.front) sent) state.front message (taken sent state.front message is)
        ∙ ap (λ l. message ∷ l)
        (drop_all (suc state.front) (take (suc state.front) sent)
        (let count = length-take (suc state.front) sent in omega (arith, count)))
      where
        taken : (messages : List Message) (k : ℕ) (own : Message) → slice_get messages k ≡ Some own
            → slice_get (take (suc k) messages) k ≡ Some own
        taken [] k own at = cc
        taken (first ∷ messages) zero own at = at
        taken (first ∷ messages) (suc k) own at = taken messages k own at

-- The front goes on to a place, and then to a later one.
pub moves_joined : (window : ℕ) (sent : List Message) (first last : ℕ) (state : State) → first ≤ last
    → first ≤ length sent
    → moves_to window sent last state
    ≡ and_then (moves_to window sent first state) (λ next. moves_to window sent last next)
moves_joined window sent first last state later within = go (cases_lt state.front first)
  where
    go : (state.front < first) ⊎ (first ≤ state.front)
        → moves_to window sent last state
        ≡ and_then (moves_to window sent first state) (λ next. moves_to window sent last next)
    go (inr there) = ap (λ step. and_then step (λ next. moves_to window sent last next)) (sym (moves_none window sent first state there))
    go (inl before) =
        ap (passes_all window sent state) (sym parts)
        ∙ passes_joined window sent state (drop state.front (take first sent)) (drop first (take last sent))
        ∙ ap (λ n. and_then (moves_to window sent first state) (λ next. passes_all window sent next (drop n (take last sent))))
        (sym front)
      where
        front : (moves_to window sent first state).state.front ≡ first
        front =
            let goes = passes_all_front window sent state (drop state.front (take first sent)) in
            let count = length-drop state.front (take first sent) in
            let taken = length-take first sent in
            omega (arith, goes, count, taken, before, within)

        parts : drop state.front (take first sent) ++ drop first (take last sent) ≡ drop state.front (take last sent)
        parts =
            sym (drop-append-le state.front (take first sent) (drop first (take last sent))
            (let taken = length-take first sent in omega (arith, taken, before, within)))
            ∙ ap (λ l. drop state.front (l ++ drop first (take last sent))) (sym (take-take first last sent later))
            ∙ ap (drop state.front) (take-append-drop first (take last sent))

module _ (Lines : Type 0) (Told : Lines → List Line → Lines → Type 0)
    (joined : (first between last : Lines) (before after : List Line) → Told first before between
    → Told between after last → Told first (before ++ after) last) (all : Audited) (first between last : Lines) (step : Step)
    (next : State → Step) where
  -- A step was made, and then the next one.
  pub goes_then : (read : ℕ) (own : LiveHolding) (left : Left) → Told first step.lines between
      → GoesTo all read (λ told. Told between told last) (next step.state) own left
      → GoesTo all read (λ told. Told first told last) (and_then step next) own left
  goes_then read own left before after = record {
    stands = after.stands;
    told = joined first between last step.lines (next step.state).lines before after.told;
  }

-- What is told of a course and then of the next, by where SENT fails.
module _ (first : Course) (next : State → ℕ → Course) where
  told_first : (failed : ℕ) → failed < first.asked → (then_goes first next).told failed ≡ first.told failed
  told_first failed less =
      ap (λ b. cond b (first.told failed) (first.step.lines ++ (next first.step.state first.asked).told failed))
      (lt-ltb failed first.asked less)

  told_then : (failed : ℕ) → first.asked ≤ failed
      → (then_goes first next).told failed ≡ first.step.lines ++ (next first.step.state first.asked).told failed
  told_then failed past =
      ap (λ b. cond b (first.told failed) (first.step.lines ++ (next first.step.state first.asked).told failed))
      (le-ltb failed first.asked past)

  -- In a course SENT could not be read on, so no more came after it.
  pub stops_first : (all : Audited) (Told : List Line → Type 0) (from : ℕ) (why : LookFault) (left : Left)
      → first.asked ≤ (next first.step.state first.asked).asked → Stops all Told from first why left
      → Stops all Told from (then_goes first next) why left
  stops_first all Told from why left later stops =
      let same = told_first stops.fails.asked stops.fails.less in record {
        fails = fails_sooner all from first.asked (next first.step.state first.asked).asked why left later stops.fails;
        rest = stops.rest ++ (next first.step.state first.asked).step.lines;
        parts =
            ap (λ l. l ++ (stops.rest ++ (next first.step.state first.asked).step.lines)) same
            ∙ sym (append_assoc (first.told stops.fails.asked) stops.rest (next first.step.state first.asked).step.lines)
            ∙ ap (λ l. l ++ (next first.step.state first.asked).step.lines) stops.parts;
        told = subst Told (sym same) stops.told;
      }

  -- In the course after one SENT could not be read on.
  pub stops_then : (Lines : Type 0) (Told : Lines → List Line → Lines → Type 0)
      → ((one two three : Lines) (before after : List Line) → Told one before two → Told two after three
      → Told one (before ++ after) three)
      → (all : Audited) (one two three : Lines) (from : ℕ) (why : LookFault) (left : Left) → Told one first.step.lines two
      → from ≤ first.asked
      → Stops all (λ told. Told two told three) first.asked (next first.step.state first.asked) why left
      → Stops all (λ told. Told one told three) from (then_goes first next) why left
  stops_then Lines Told joined all one two three from why left before later stops =
      let own = next first.step.state first.asked in
      let more = stops.fails.more in
      let same = told_then stops.fails.asked more in record {
        fails = fails_later all from first.asked own.asked why left later stops.fails;
        rest = stops.rest;
        parts =
            ap (λ l. l ++ stops.rest) same
            ∙ append_assoc first.step.lines (own.told stops.fails.asked) stops.rest
            ∙ ap (λ l. first.step.lines ++ l) stops.parts;
        told =
            subst (λ l. Told one l three) (sym same)
            (joined one two three first.step.lines (own.told stops.fails.asked) before stops.told);
      }

-- SENT could not be read on before a line was told.
pub stops_at_once : (all : Audited) (Told : List Line → Type 0) (from : ℕ) (course : Course) (why : LookFault) (left : Left)
    → (fails : FailsAt all from course.asked why left) → course.told fails.asked ≡ [] → Told []
    → Stops all Told from course why left
stops_at_once all Told from course why left fails none told = record {
  fails = fails;
  rest = course.step.lines;
  parts = ap (λ l. l ++ course.step.lines) none;
  told = subst Told (sym none) told;
}

-- Where a step does the same, it was made or could not be.
pub goes_as : (all : Audited) (read : ℕ) (Told : List Line → Type 0) (step other : Step) (own : LiveHolding)
    (left : Left) → step ≡ other → GoesTo all read Told step own left → GoesTo all read Told other own left
goes_as all read Told step other own left same goes = subst (λ s. GoesTo all read Told s own left) same goes

-- A message among those from a place on.
pub get_dropped : (messages : List Message) (count k : ℕ)
    → slice_get (drop count messages) k ≡ slice_get messages (count + k)
get_dropped messages zero k = ap (slice_get messages) (omega arith)
get_dropped [] (suc count) k = refl
get_dropped (first ∷ messages) (suc count) k =
    get_dropped messages count k ∙ ap (slice_get (first ∷ messages)) (let is : suc (count + k) ≡ suc count + k = omega arith in is)

-- The front went on by so many messages.
pub passed_front : (window : ℕ) (sent : List Message) (state : State) (k : ℕ) → state.front + k ≤ length sent
    → (passes_all window sent state (take k (drop state.front sent))).state.front ≡ state.front + k
passed_front window sent state k within =
    let goes = passes_all_front window sent state (take k (drop state.front sent)) in
    let taken = length-take k (drop state.front sent) in
    let dropped = length-drop state.front sent in
    omega (arith, goes, taken, dropped, within)

-- The front goes on by one more.
pub passes_more : (window : ℕ) (sent : List Message) (state : State) (k : ℕ) (message : Message)
    → slice_get sent (state.front + k) ≡ Some message
    → passes_all window sent state (take (k + 1) (drop state.front sent))
    ≡ and_then (passes_all window sent state (take k (drop state.front sent)))
    (λ next. passes window sent next message)
passes_more window sent state k message is =
    ap (passes_all window sent state) one
    ∙ passes_joined window sent state (take k (drop state.front sent)) (message ∷ [])
    ∙ ap (after_lines (passes_all window sent state (take k (drop state.front sent))).lines)
    (then_stays (passes window sent (passes_all window sent state (take k (drop state.front sent))).state message))
  where
    one : take (k + 1) (drop state.front sent) ≡ take k (drop state.front sent) ++ message ∷ []
    one =
        ap (λ n. take n (drop state.front sent)) (let next : k + 1 ≡ suc k = omega arith in next)
        ∙ take_to (drop state.front sent) k message (get_dropped sent state.front k ∙ is)

-- The front goes on to a place by as many messages as there are up to it.
pub moves_by : (window : ℕ) (sent : List Message) (front : ℕ) (state : State)
    → moves_to window sent front state ≡ passes_all window sent state (take (front - state.front) (drop state.front sent))
moves_by window sent front state = ap (passes_all window sent state) (go (cases_lt state.front front))
  where
    go : (state.front < front) ⊎ (front ≤ state.front)
        → drop state.front (take front sent) ≡ take (front - state.front) (drop state.front sent)
    go (inl before) =
        ap (λ n. drop state.front (take n sent)) (let to : front ≡ state.front + (front - state.front) = omega (arith, before) in to)
        ∙ drop-take state.front (front - state.front) sent
    go (inr there) =
        drop_all state.front (take front sent) (let count = length-take front sent in omega (arith, count, there))
        ∙ ap (λ n. take n (drop state.front sent)) (let none : 0 ≡ front - state.front = omega (arith, there) in none)
