-- The front goes on by one message: what waits for it is decided, and one more is given up.
use Rattle.std.proofs.Common.{◌≡◌, ℕ, zero, suc, ◌+◌, ◌-◌, ◌^◌, ◌<◌, Bool, true, false, cond, eqb, List, [], ◌∷◌, ◌++◌}
use Rattle.std.proofs.Common.{Option, Some, None, length, slice_get, take, refl, sym, ap, subst, ◌∙◌, arith}
use Rattle.std.specs.Prelude.{option_map}
use Rattle.std.proofs.lemmas.Bool.{eqb-true}
use Rattle.std.proofs.lemmas.List.{append-nil, length-take}
use Rattle.payload.specs.declared.by.By.{By}
use Rattle.message.specs.declared.message.Message.{Message}
use Rattle.auditing.specs.declared.finding.Finding.{Finding}
use Rattle.live.specs.Compared.{changed_from, known_finding, known_trues}
use Rattle.live.specs.Auditing.{GoesTo, LiveHolding, Stands, runs_in, waiting_in}
use Rattle.live.specs.Following.{Audited, IsAudited, Left}
use Rattle.live.specs.Holding.{Holding}
use Rattle.live.specs.Holds.{Holds, came_by, judged_by}
use Rattle.live.specs.Lines.{Line, Decided}
use Rattle.live.specs.Live.{State, Step, after_lines, and_then, finds, gives, gives_last, gives_up, held, last_held, met, passes, settles, stays}
use Rattle.live.specs.View.{given_up, standing_of}
use Rattle.live.specs.declared.arrived.Arrived.{Arrived}
use Rattle.live.specs.declared.held.SentMessage.{SentMessage}
use Rattle.live.specs.declared.judged.Judged.TheVariants as judged
use Rattle.live.specs.declared.run.Run.{Run}
use Rattle.live.specs.declared.standing.Standing.TheVariants as standing
use Rattle.live.specs.steps.Giving.{IsCounted}
use Rattle.live.specs.steps.Waiting.{has_this, met_one, unmet, without}
use Rattle.live.proofs.Judges.{found_at}
use Rattle.live.proofs.Judging.{within_harts}
use Rattle.live.proofs.Settling.{stands_settles}
use Rattle.live.proofs.Steps.{goes_as, met_front, same_step}
use Rattle.live.proofs.Widening.{by_is, front_held, front_stands, in_view_read, read_number, stands_reads, wide_finding, wide_last}

-- What waits is not for this number, where nothing is taken.
none_met : (sent : List Message) (state : State) (message : Message) (one : Option Arrived)
    → cond (has_this message.number one) one None ≡ None
    → (has_this message.number one ≡ false) × (met sent state message one ≡ stays state)
none_met sent state message None is = (refl, refl)
none_met sent state message (Some one) is = go (eqb one.message.number message.number) is
  where
    go : (same : Bool) → cond same (Some one) None ≡ None
        → (same ≡ false) × (cond same
        (finds sent (settles state message.hart) one (known_finding state.by sent state.came one.message)) (stays state) ≡ stays state)
    go true never = cc
    go false never = (refl, refl)

-- What waits is for this number, where it is taken.
some_met : (message : Message) (own : Option Arrived) (one : Arrived) → cond (has_this message.number own) own None ≡ Some one
    → (has_this message.number own ≡ true) × (own ≡ Some one) × (one.message.number ≡ message.number)
some_met message None one is = cc
some_met message (Some own) one is = go (eqb own.message.number message.number) refl is
  where
    go : (same : Bool) → eqb own.message.number message.number ≡ same → cond same (Some own) None ≡ Some one
        → (same ≡ true) × (Some own ≡ Some one) × (one.message.number ≡ message.number)
    go false test never = cc
    go true test at =
        let is_one : own ≡ one = cc in
        (refl, at, ap (λ (x : Arrived). x.message.number) (sym is_one) ∙ eqb-true own.message.number message.number test)

module _ (all : Audited) (right : IsAudited all) (read : ℕ) (state : State) (own : LiveHolding) (left : Left)
    (stands : Stands all read state own left) (message : Message) (before : state.front < read)
    (is : slice_get all.sent state.front ≡ Some message) where
  abbrev slot : Option SentMessage
  slot = slice_get own.window.slots own.window.near

  abbrev waits_here : Option Arrived
  waits_here = waiting_in own.waiting message.hart

  at_slot : slot ≡ Some (held (known_trues state.by all.sent state.came) message)
  at_slot = front_held all right read state own left stands message before is

  same_waiting : waits_here ≡ state.waiting message.hart
  same_waiting = ap (λ w. w message.hart) stands.waiting

  -- Nothing waits for the next message.
  pub meets_none : None ≡ met_one own.waiting slot → (Told : List Line → Type 0) → Told []
      → GoesTo all read Told (met all.sent state message (state.waiting message.hart))
      (record own { waiting = unmet own.waiting slot }) left
  meets_none none Told told =
      subst (λ w. GoesTo all read Told (met all.sent state message (state.waiting message.hart)) (record own { waiting = w }) left)
      (sym (ap (unmet own.waiting) at_slot ∙ ap (λ b. cond b (without own.waiting message.hart) own.waiting) not_met.0))
      (subst (λ step. GoesTo all read Told step own left)
      (sym not_met.1 ∙ ap (met all.sent state message) same_waiting) (record { stands = stands; told = told }))
    where
      not_met : (has_this message.number waits_here ≡ false) × (met all.sent state message waits_here ≡ stays state)
      not_met =
          none_met all.sent state message waits_here (sym (none ∙ ap (met_one own.waiting) at_slot))

  module _ (one : Arrived) (some : Some one ≡ met_one own.waiting slot) where
    taken : (has_this message.number waits_here ≡ true) × (waits_here ≡ Some one)
        × (one.message.number ≡ message.number)
    taken = some_met message waits_here one (sym (some ∙ ap (met_one own.waiting) at_slot))

    hart : one.message.hart ≡ message.hart
    hart = stands.own_hart message.hart one (sym same_waiting ∙ taken.1)

    -- It is in view, at the next place.
    pub met_stands : standing_of own.window.window (take read all.sent) state.front one.message.hart one.message.number
        ≡ standing.At own.window.near
    met_stands =
        ap (λ h. standing_of own.window.window (take read all.sent) state.front h one.message.number) hart
        ∙ ap (λ n. standing_of own.window.window (take read all.sent) state.front message.hart n) taken.2
        ∙ front_stands all right read state own left stands message before is

    -- It is decided.
    pub meets_one : (new : Holding) (finding : Finding) (ahead : ℕ)
        → judged.Found finding ahead
        ≡ judged_by own.window.by own.window.window (take read all.sent) state.came state.front one.message
        (standing_of own.window.window (take read all.sent) state.front one.message.hart one.message.number)
        → Holds (take read all.sent) (came_by state.came one.message
        (standing_of own.window.window (take read all.sent) state.front one.message.hart one.message.number)) state.front new
        → new.window ≡ own.window.window → length new.harts ≡ length own.window.harts → new.by ≡ own.window.by
        → (Told : List Line → Type 0) → Told (Decided one finding (changed_from all.sent one.message finding) ∷ [])
        → GoesTo all read Told (met all.sent state message (state.waiting message.hart))
        (record own { window = new; waiting = unmet own.waiting slot }) left
    meets_one new finding ahead at holds window harts by Told told =
        subst (λ w. GoesTo all read Told (met all.sent state message (state.waiting message.hart))
        (record own { window = new; waiting = w }) left)
        (sym (ap (unmet own.waiting) at_slot ∙ ap (λ b. cond b (without own.waiting message.hart) own.waiting) taken.0))
        (subst (λ step. GoesTo all read Told step (record own { window = new; waiting = without own.waiting message.hart }) left)
        (sym step) (record { stands = after; told = told }))
      where
        wide : known_finding state.by all.sent state.came one.message ≡ finding
        wide =
            ap (λ h. known_finding h all.sent state.came one.message) (sym (by_is all read state own left stands))
            ∙ wide_finding all right read state.came state.front own.window left stands.reads one.message
            (in_view_read own.window.window (take read all.sent) (length own.window.harts) stands.reads.holds.in_turn
            state.front one.message.hart one.message.number own.window.near met_stands)
            ∙ sym (found_at own.window.by own.window.window (take read all.sent) state.came state.front one.message
            (standing_of own.window.window (take read all.sent) state.front one.message.hart one.message.number) finding ahead
            at).2

        step : met all.sent state message (state.waiting message.hart) ≡ finds all.sent (settles state message.hart) one finding
        step =
            ap (met all.sent state message) (sym same_waiting ∙ taken.1)
            ∙ ap (λ b. cond b (finds all.sent (settles state message.hart) one (known_finding state.by all.sent state.came one.message))
            (stays state))
            (sym (ap (has_this message.number) taken.1) ∙ taken.0)
            ∙ ap (finds all.sent (settles state message.hart) one) wide

        after : Stands all read (finds all.sent (settles state message.hart) one finding).state
            (record own { window = new; waiting = without own.waiting message.hart }) left
        after =
            stands_reads all read (settles state message.hart)
            (record own { waiting = without own.waiting message.hart }) left
            (stands_settles all read state own left stands message.hart) read (state.came ++ one.message ∷ []) state.front
            new left (record {
              holds = subst (λ s. Holds (take read all.sent) (came_by state.came one.message s) state.front new) met_stands holds;
              within = stands.reads.within;
              remains = stands.reads.remains;
              harts = harts ∙ stands.reads.harts;
              window = window ∙ stands.reads.window;
              by = by ∙ stands.reads.by;
            })

-- What is met does not depend on the front.
met_moved : (sent : List Message) (state : State) (front : ℕ) (message : Message) (one : Option Arrived)
    → met sent (record state { front = front }) message one
    ≡ record { state = record (met sent state message one).state { front = front }; lines = (met sent state message one).lines }
met_moved sent state front message None = refl
met_moved sent state front message (Some one) = go (eqb one.message.number message.number)
  where
    go : (same : Bool)
        → cond same (finds sent (settles (record state { front = front }) message.hart) one (known_finding state.by sent state.came one.message))
        (stays (record state { front = front }))
        ≡ record {
          state = record (cond same (finds sent (settles state message.hart) one (known_finding state.by sent state.came one.message))
              (stays state)).state { front = front };
          lines = (cond same (finds sent (settles state message.hart) one (known_finding state.by sent state.came one.message))
              (stays state)).lines;
        }
    go true = refl
    go false = refl

-- The last message that is held is one of SENT.
last_is : (how : By) (sent came : List Message) (count : ℕ) (slot : SentMessage) → last_held how came sent count ≡ Some slot
    → (k : ℕ) × (message : Message) × (count ≡ suc k) × (slice_get sent k ≡ Some message) × (slot.message ≡ message)
last_is how sent came zero slot is = cc
last_is how sent came (suc k) slot is = go (slice_get sent k) refl is
  where
    go : (own : Option Message) → slice_get sent k ≡ own → option_map (held (known_trues how sent came)) own ≡ Some slot
        → (j : ℕ) × (message : Message) × (suc k ≡ suc j) × (slice_get sent j ≡ Some message) × (slot.message ≡ message)
    go None at never = cc
    go (Some message) at same =
        let its : held (known_trues how sent came) message ≡ slot = cc in
        (k, message, refl, at, ap (λ (s : SentMessage). s.message) (sym its))

module _ (all : Audited) (right : IsAudited all) (read : ℕ) (state : State) (left : Left) (message : Message)
    (before : state.front < read) (own : LiveHolding) (Told : List Line → Type 0)
    (goes : GoesTo all read Told (met all.sent state message (state.waiting message.hart)) own left) where
  abbrev now : State
  now = (met all.sent state message (state.waiting message.hart)).state

  abbrev moved : State
  moved = record now { front = state.front + 1 }

  front_is : now.front ≡ state.front
  front_is = met_front all.sent state message (state.waiting message.hart)

  -- The next message was read.
  pub pass_within : now.front < length (take read all.sent)
  pass_within =
      let front = front_is in
      let taken = length-take read all.sent in
      let within = goes.stands.reads.within in
      omega (arith, front, taken, within, before)

  passes_as : passes all.window all.sent state message
      ≡ and_then (record { state = moved; lines = (met all.sent state message (state.waiting message.hart)).lines })
      (gives_up all.window all.sent)
  passes_as =
      ap (λ step. and_then step (gives_up all.window all.sent))
      (met_moved all.sent state (state.front + 1) message (state.waiting message.hart))

  module _ (new : Holding) (holds : Holds (take read all.sent) now.came (now.front + 1) new)
      (window : new.window ≡ own.window.window) (harts : length new.harts ≡ length own.window.harts)
      (by : new.by ≡ own.window.by) (given : Option SentMessage)
      (given_is : given ≡ last_held own.window.by now.came (take read all.sent) (given_up own.window.window (now.front + 1))) where
    -- The front is one further.
    moved_stands : Stands all read moved (record own { window = new }) left
    moved_stands =
        stands_reads all read now own left goes.stands read now.came (state.front + 1) new left (record {
          holds = subst (λ n. Holds (take read all.sent) now.came (n + 1) new) front_is holds;
          within = goes.stands.reads.within;
          remains = goes.stands.reads.remains;
          harts = harts ∙ goes.stands.reads.harts;
          window = window ∙ goes.stands.reads.window;
          by = by ∙ goes.stands.reads.by;
        })

    -- What is given up, by all of SENT.
    wide_given : given ≡ last_held moved.by moved.came all.sent (given_up all.window moved.front)
    wide_given =
        given_is
        ∙ sym (wide_last all right read now.came now.front own.window left goes.stands.reads
        (given_up own.window.window (now.front + 1)) (let front = front_is in omega (arith, front, before)))
        ∙ ap (λ n. last_held own.window.by now.came all.sent (n - (own.window.window + 1))) (ap (λ n. n + 1) front_is)
        ∙ ap (λ w. last_held own.window.by now.came all.sent (state.front + 1 - (w + 1))) goes.stands.reads.window
        ∙ ap (λ h. last_held h now.came all.sent (given_up all.window (state.front + 1)))
        (by_is all read now own left goes.stands)

    -- None is given up.
    pub pass_none : given ≡ None
        → GoesTo all read Told (passes all.window all.sent state message) (record own { window = new }) left
    pass_none none =
        goes_as all read Told (met_step) (passes all.window all.sent state message) (record own { window = new }) left
        (sym (passes_as ∙ ap (after_lines met_step.lines) (ap (gives_last moved) (sym wide_given ∙ none))
        ∙ same_step moved (met_step.lines ++ []) met_step.lines (append-nil met_step.lines)))
        (record { stands = moved_stands; told = goes.told })
      where
        met_step : Step
        met_step = record { state = moved; lines = (met all.sent state message (state.waiting message.hart)).lines }

    -- One is given up: it is of a hart that is known, and its number is not the last.
    pub pass_counted : (slot : SentMessage) → given ≡ Some slot → IsCounted (length own.runs) slot
    pass_counted slot some =
        let its = last_is moved.by all.sent moved.came (given_up all.window moved.front) slot (sym wide_given ∙ some) in
        let known = within_harts all.harts [] all.sent right.in_turn its.0 its.1 its.3 in
        let low = read_number all.harts all.sent right.in_turn read its.0 (let at = its.2 in omega (arith, at, before)) its.1
        its.3 in
        let few = holds.few its.1.hart in
        let same = goes.stands.counts in (
          subst (λ (m : Message). m.hart < length own.runs) (sym its.4) (omega (arith, known, same)),
          subst (λ (m : Message). m.number + 1 < 2 ^ 64) (sym its.4) (omega (arith, low, few)),
        )

    -- What was given up is told.
    pub pass_some : (slot : SentMessage) → given ≡ Some slot → (runs : List Run) → length runs ≡ length own.runs
        → runs_in runs ≡ (gives moved slot).state.runs → (All : List Line → Type 0)
        → All ((met all.sent state message (state.waiting message.hart)).lines ++ (gives moved slot).lines)
        → GoesTo all read All (passes all.window all.sent state message) (record own { window = new; runs = runs }) left
    pass_some slot some runs count same All told =
        goes_as all read All (after_lines (met all.sent state message (state.waiting message.hart)).lines (gives moved slot))
        (passes all.window all.sent state message) (record own { window = new; runs = runs }) left
        (sym (passes_as
        ∙ ap (after_lines (met all.sent state message (state.waiting message.hart)).lines)
        (ap (gives_last moved) (sym wide_given ∙ some))))
        (record {
          stands = record {
            reads = moved_stands.reads;
            waiting = moved_stands.waiting;
            runs = same;
            by = moved_stands.by;
            waits = moved_stands.waits;
            counts = count ∙ moved_stands.counts;
            own_hart = moved_stands.own_hart;
            some = moved_stands.some;
            few = moved_stands.few;
          };
          told = told;
        })
