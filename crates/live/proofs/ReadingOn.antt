-- SENT is read on, and the front goes on as it has to.
use Rattle.std.proofs.Common.{◌≡◌, ◌⊎◌, inl, inr, ℕ, zero, suc, ◌+◌, ◌-◌, ◌<◌, ◌≤◌, Bool, true, false, cond, min, not, ltb, List, [], ◌∷◌, ◌++◌}
use Rattle.std.proofs.Common.{Some, None, Result, Ok, Err, length, slice_get, take, refl, sym, ap, subst, ◌∙◌, arith}
use Rattle.std.specs.List.{position_or_len}
use Rattle.std.proofs.lemmas.Bool.{cases_lt, ltb-false, ltb-true, not-false, not-true}
use Rattle.std.proofs.lemmas.List.{append-nil, length-take}
use Rattle.std.proofs.lemmas.Option.{slice_get_within}
use Rattle.message.proofs.Elements.{slice_get-some}
use Rattle.message.specs.declared.message.Message.{Message}
use Rattle.auditing.specs.Fates.{is_numbered}
use Rattle.auditing.specs.Sent.{misplaced}
use Rattle.live.specs.Auditing.{Goes, GoesTo, LiveHolding, Stands, Stops}
use Rattle.live.specs.Course.{moves_near, near_lines, reached, up_to_one}
use Rattle.live.specs.Following.{Audited, IsAudited, EndsWell, IsLeftAt, IsLookFault, Left, WasAsked, left_after}
use Rattle.live.specs.Holding.{Holding}
use Rattle.live.specs.Holds.{Holds, IsReadFault}
use Rattle.live.specs.Lines.{Line}
use Rattle.live.specs.Live.{State, Step, and_then, moves_to, passes, read_up_to, stays}
use Rattle.live.specs.View.{given_up}
use Rattle.live.specs.declared.fault.LookFault.{LookFault}
use Rattle.live.specs.declared.fault.LookFault.TheVariants as look
use Rattle.live.specs.declared.fault.ReadFault.{ReadFault}
use Rattle.live.specs.declared.fault.ReadFault.TheVariants as fault
use Rattle.live.specs.steps.Advancing.{MakesPlace, NoneBefore, ReadsNext, reaching}
use Rattle.live.specs.steps.Searching.{is_one}
use Rattle.live.specs.steps.Looking.{IsReadLast}
use Rattle.live.specs.steps.Reading.{refusal_by}
use Rattle.live.proofs.Following.{reads_more}
use Rattle.live.proofs.Reading.{held_count, not_last, placed_if}
use Rattle.live.proofs.Widening.{stands_reads}
use Rattle.live.proofs.Steps.{goes_as, goes_then, moves_joined, moves_none, moves_one, passes_front, then_stays}

module _ (all : Audited) (read : ℕ) (state : State) (own : LiveHolding) (left : Left)
    (stands : Stands all read state own left) where
  -- How many are held.
  count : length own.window.slots ≡ read - given_up own.window.window state.front
  count =
      held_count (take read all.sent) state.came state.front own.window stands.reads.holds
      ∙ ap (λ n. n - given_up own.window.window state.front)
      (let taken = length-take read all.sent in let within = stands.reads.within in omega (arith, taken, within))

  -- The front was read.
  pub front_read : state.front ≤ read
  front_read =
      let taken = length-take read all.sent in
      let front = stands.reads.holds.read in
      omega (arith, taken, front)

  -- There is a place.
  pub place_left : not (ltb (length own.window.slots) (own.window.near + own.window.window)) ≡ false
      → read < state.front + all.window
  place_left is =
      let less = ltb-true (length own.window.slots) (own.window.near + own.window.window)
      (not-false (ltb (length own.window.slots) (own.window.near + own.window.window)) is) in
      let held = count in
      let near = stands.reads.holds.near in
      let window = stands.reads.window in
      let front = front_read in
      omega (arith, less, held, near, window, front)

  -- There is none.
  pub place_full : not (ltb (length own.window.slots) (own.window.near + own.window.window)) ≡ true
      → read ≡ state.front + all.window
  place_full is =
      let less = ltb-false (length own.window.slots) (own.window.near + own.window.window)
      (not-true (ltb (length own.window.slots) (own.window.near + own.window.window)) is) in
      let held = count in
      let near = stands.reads.holds.near in
      let window = stands.reads.window in
      let front = front_read in
      let taken = length-take read all.sent in
      let ahead = stands.reads.holds.ahead in
      let within = stands.reads.within in
      omega (arith, less, held, near, window, front, taken, ahead, within)

  -- The next message is there, where there is no place.
  pub full_next : read ≡ state.front + all.window
      → (message : Message) × (slice_get all.sent state.front ≡ Some message) × (state.front < read)
  full_next full =
      let some = stands.some in
      let within = stands.reads.within in
      let before : state.front < length all.sent = omega (arith, full, some, within) in
      let found = slice_get-some all.sent state.front before in
      (found.0, found.1, omega (arith, full, some))

  -- There is a place already.
  pub place_there : (Told : List Line → Type 0) → Told [] → read < state.front + all.window
      → MakesPlace all read Told state own left
  place_there Told told less =
      let none = moves_none all.window all.sent (read + 1 - all.window) state (omega (arith, less)) in
      let front = ap (λ (step : Step). step.state.front) none in (
        goes_as all read Told (stays state) (moves_near all (read + 1) state) own left (sym none)
            (record { stands = stands; told = told }),
        omega (arith, less, front),
      )

  -- The front went on by one.
  pub place_made : (Told : List Line → Type 0) (new : LiveHolding) (message : Message) → read ≡ state.front + all.window
      → slice_get all.sent state.front ≡ Some message
      → GoesTo all read Told (passes all.window all.sent state message) new left
      → MakesPlace all read Told state new left
  place_made Told new message full is goes =
      let some = stands.some in
      let to : read + 1 - all.window ≡ state.front + 1 = omega (arith, full, some) in
      let one = ap (λ n. moves_to all.window all.sent n state) to ∙ moves_one all.window all.sent state message is in
      let front = ap (λ (step : Step). step.state.front) one ∙ passes_front all.window all.sent state message in (
        goes_as all read Told (passes all.window all.sent state message) (moves_near all (read + 1) state) new left (sym one)
            goes,
        omega (arith, full, front),
      )

  -- The front is near enough to what was read.
  pub near_enough : moves_near all read state ≡ stays state
  near_enough =
      moves_none all.window all.sent (read - all.window) state
      (let taken = length-take read all.sent in
      let ahead = stands.reads.holds.ahead in
      let window = stands.reads.window in
      let within = stands.reads.within in
      omega (arith, taken, ahead, window, within))

-- Where the first message is that is of a hart and has a number.
position_is : (messages : List Message) (hart number k : ℕ)
    → ((j : ℕ) → j < k → is_one hart number (slice_get messages j) ≡ false)
    → is_one hart number (slice_get messages k) ≡ true → position_or_len (is_numbered hart number) messages ≡ k
position_is [] hart number k none is = cc
position_is (first ∷ messages) hart number zero none is =
    ap (λ b. cond (not b) (1 + position_or_len (is_numbered hart number) messages) 0) is
position_is (first ∷ messages) hart number (suc k) none is =
    ap (λ b. cond (not b) (1 + position_or_len (is_numbered hart number) messages) 0) (none 0 (omega arith))
    ∙ ap (λ n. 1 + n) (position_is messages hart number k (λ j less. none (suc j) (omega (arith, less))) is)
    ∙ (let next : 1 + k ≡ suc k = omega arith in next)

position_none : (messages : List Message) (hart number : ℕ)
    → ((j : ℕ) → j < length messages → is_one hart number (slice_get messages j) ≡ false)
    → position_or_len (is_numbered hart number) messages ≡ length messages
position_none [] hart number none = refl
position_none (first ∷ messages) hart number none =
    ap (λ b. cond (not b) (1 + position_or_len (is_numbered hart number) messages) 0) (none 0 (omega arith))
    ∙ ap (λ n. 1 + n) (position_none messages hart number (λ j less. none (suc j) (omega (arith, less))))
    ∙ (let next : 1 + length messages ≡ suc (length messages) = omega arith in next)

-- No message before so many is the one, so no fewer are read.
position_past : (messages : List Message) (hart number k : ℕ) → k ≤ length messages
    → ((j : ℕ) → j < k → is_one hart number (slice_get messages j) ≡ false)
    → k ≤ position_or_len (is_numbered hart number) messages
position_past messages hart number zero within none = omega arith
position_past [] hart number (suc k) within none = absurd (omega (arith, within))
position_past (first ∷ messages) hart number (suc k) within none =
    let rest = position_past messages hart number k (omega (arith, within)) (λ j less. none (suc j) (omega (arith, less))) in
    let one =
    ap (λ b. cond (not b) (1 + position_or_len (is_numbered hart number) messages) 0) (none 0 (omega arith)) in
    omega (arith, rest, one)

-- A message at a place is one of so many.
this_within : (messages : List Message) (k hart number : ℕ) → is_one hart number (slice_get messages k) ≡ true
    → k < length messages
this_within [] k hart number is = cc
this_within (first ∷ messages) zero hart number is = omega arith
this_within (first ∷ messages) (suc k) hart number is =
    let less = this_within messages k hart number is in
    omega (arith, less)

-- Where the message was found, SENT was read up to it.
pub up_to_found : (all : Audited) (read hart number : ℕ) → NoneBefore all read hart number → read < length all.sent
    → is_one hart number (slice_get all.sent read) ≡ true → read_up_to all.sent hart number ≡ read + 1
up_to_found all read hart number none within is =
    let at = position_is all.sent hart number read none is in
    omega (arith, at, within)

-- Where there is none, SENT was read to its end.
pub up_to_end : (all : Audited) (hart number : ℕ) → NoneBefore all (length all.sent) hart number
    → read_up_to all.sent hart number ≡ length all.sent
up_to_end all hart number none =
    let at = position_none all.sent hart number none in
    omega (arith, at)

pub past_end : (all : Audited) (hart number : ℕ) → NoneBefore all (length all.sent) hart number
    → up_to_one all.sent hart number ≡ length all.sent + 1
past_end all hart number none =
    let at = position_none all.sent hart number none in
    omega (arith, at)

-- No more was read than up to it.
pub up_to_later : (all : Audited) (read hart number : ℕ) → NoneBefore all read hart number → read ≤ length all.sent
    → read ≤ read_up_to all.sent hart number
up_to_later all read hart number none within =
    let past = position_past all.sent hart number read within none in
    omega (arith, past, within)

-- One more is not it.
pub none_more : (all : Audited) (read hart number : ℕ) → NoneBefore all read hart number
    → is_one hart number (slice_get all.sent read) ≡ false → NoneBefore all (read + 1) hart number
none_more all read hart number none is k less = go (cases_lt k read)
  where
    go : (k < read) ⊎ (read ≤ k) → is_one hart number (slice_get all.sent k) ≡ false
    go (inl before) = none k before
    go (inr past) = ap (λ n. is_one hart number (slice_get all.sent n)) (let same : k ≡ read = omega (arith, past, less) in same) ∙ is

module _ (all : Audited) (right : IsAudited all) (read : ℕ) (state : State) (own : LiveHolding) (left : Left)
    (stands : Stands all read state own left) (message : Message)
    (none : refusal_by (slice_get own.window.harts message.hart) message.number ≡ None) (Told : List Line → Type 0)
    (placed : LiveHolding) (place : MakesPlace all read Told state placed left) where
  abbrev moved : State
  moved = (moves_near all (read + 1) state).state

  -- What may follow is read, where there is a place.
  pub never_misplaced : (why : ReadFault)
      → IsReadFault (length placed.window.harts) placed.window.window (take read all.sent) moved.front message why → ⊥
  never_misplaced fault.Full (inl full) =
      let taken = length-take read all.sent in
      let within = stands.reads.within in
      let window = place.0.stands.reads.window in
      let less = place.1 in
      omega (arith, full, taken, within, window, less)
  never_misplaced fault.Full (inr last) =
      not_last (take read all.sent) state.came state.front own.window stands.reads.holds message none last.0
  never_misplaced (fault.Misplaced why) is =
      let same : length own.window.harts ≡ length placed.window.harts = stands.reads.harts ∙ sym place.0.stands.reads.harts in
      let never : None ≡ Some why =
      sym (placed_if (take read all.sent) state.came state.front own.window stands.reads.holds message none)
      ∙ ap (λ n. misplaced n (take read all.sent) message) same ∙ is.0 in
      cc

  -- One message more was read.
  pub reads_one : (after : Left) (new : Holding) → slice_get all.sent read ≡ Some message
      → after ≡ left_after all (read + 1) → Holds (take read all.sent ++ message ∷ []) moved.came moved.front new
      → new.window ≡ placed.window.window → length new.harts ≡ length placed.window.harts → new.by ≡ placed.window.by
      → GoesTo all (read + 1) Told (moves_near all (read + 1) state) (record placed { window = new }) after
  reads_one after new is rest holds window harts by = record {
    stands =
        stands_reads all read moved placed left place.0.stands (read + 1) moved.came moved.front new after
        (reads_more all right read moved.came moved.front placed.window left place.0.stands.reads message after new is rest
        holds window harts by);
    told = place.0.told;
  }

-- It is the message that is looked for, or not.
pub as_read_next : (all : Audited) (read : ℕ) (Told : List Line → Type 0) (state : State) (hart number : ℕ)
    (own : LiveHolding) (left : Left) (message : Message) → slice_get all.sent read ≡ Some message → (is : Bool)
    → is ≡ is_numbered hart number message
    → GoesTo all (read + 1) Told (moves_near all (read + 1) state) own left
    → ReadsNext all read Told state hart number (Ok is) own left
as_read_next all read Told state hart number own left message at true is goes =
    inr (ap (is_one hart number) at ∙ sym is, goes)
as_read_next all read Told state hart number own left message at false is goes =
    (slice_get_within all.sent read message at, ap (is_one hart number) at ∙ sym is, goes)

-- The next message was read where there is a place: it is the one that is looked for, or not.
module _ (all : Audited) (right : IsAudited all) (read : ℕ) (state : State) (own : LiveHolding) (left : Left)
    (stands : Stands all read state own left) (message : Message)
    (none : refusal_by (slice_get own.window.harts message.hart) message.number ≡ None) (Told : List Line → Type 0)
    (placed : LiveHolding) (place : MakesPlace all read Told state placed left) (after : Left) (new : Holding)
    (is : slice_get all.sent read ≡ Some message) (rest : after ≡ left_after all (read + 1))
    (hart number : ℕ) where
  pub read_last : (result : Result Bool LookFault)
      → IsReadLast (take read all.sent) (moves_near all (read + 1) state).state.came
      (moves_near all (read + 1) state).state.front message hart number (length placed.window.harts) placed.window.window
      result new
      → new.window ≡ placed.window.window → length new.harts ≡ length placed.window.harts → new.by ≡ placed.window.by
      → ReadsNext all read Told state hart number result (record placed { window = new }) after
  read_last (Ok last) last_is window harts by =
      as_read_next all read Told state hart number (record placed { window = new }) after message is last last_is.0
      (reads_one all right read state own left stands message none Told placed place after new is rest last_is.1 window harts by)
  read_last (Err (look.Sent why)) fault window harts by =
      absurd (never_misplaced all right read state own left stands message none Told placed place why fault)
  read_last (Err (look.Source why)) fault window harts by = absurd fault

module _ (Lines : Type 0) (Told : Lines → List Line → Lines → Type 0)
    (joined : (first between last : Lines) (before after : List Line) → Told first before between
    → Told between after last → Told first (before ++ after) last) (all : Audited) (first between last : Lines) (now : ℕ)
    (state : State) (own : LiveHolding) (left : Left)
    (goes : GoesTo all now (λ told. Told first told between) (moves_near all now state) own left) where
  abbrev there : State
  there = (moves_near all now state).state

  -- The front went on, and then it goes on to a later place.
  near_joined : (later : ℕ) → now ≤ later
      → moves_near all later state ≡ and_then (moves_near all now state) (λ next. moves_near all later next)
  near_joined later more =
      moves_joined all.window all.sent (now - all.window) (later - all.window) state (omega (arith, more))
      (let within = goes.stands.reads.within in omega (arith, within))

  -- One more was read.
  pub reads_further : (new : LiveHolding) (after : Left)
      → GoesTo all (now + 1) (λ told. Told between told last) (moves_near all (now + 1) there) new after
      → GoesTo all (now + 1) (λ told. Told first told last) (moves_near all (now + 1) state) new after
  reads_further new after more =
      goes_as all (now + 1) (λ told. Told first told last)
      (and_then (moves_near all now state) (λ next. moves_near all (now + 1) next)) (moves_near all (now + 1) state) new after
      (sym (near_joined (now + 1) (omega arith)))
      (goes_then Lines Told joined all first between last (moves_near all now state)
      (λ next. moves_near all (now + 1) next) (now + 1) new after goes.told more)

  -- SENT was asked so often before, of which so many were read.
  module _ (hart number : ℕ) (none : NoneBefore all now hart number) (asked read : ℕ) (was : WasAsked all asked read)
      (later : read ≤ now) where
    past : now ≤ position_or_len (is_numbered hart number) all.sent
    past = position_past all.sent hart number now goes.stands.reads.within none

    -- All that were asked for were read.
    reached_was : (length all.sent < reached all hart number asked → EndsWell all)
        → WasAsked all (reached all hart number asked) (read_up_to all.sent hart number)
    reached_was ended = record {
      count = let before = was.count in let more = past in omega (arith, before, later, more);
      ended = ended;
    }

    -- The last one was read.
    pub reads_done : (new : LiveHolding) (after : Left)
        → ReadsNext all now (λ told. Told between told last) there hart number (Ok true) new after
        → Goes all (λ told. Told first told last) (reaching all state hart number asked) new after
    reads_done new after (inl ended) = (
      read_up_to all.sent hart number,
      subst (λ n. GoesTo all n (λ told. Told first told last) (moves_near all n state) new after)
          (ended.0 ∙ sym (up_to_end all hart number (subst (λ n. NoneBefore all n hart number) ended.0 none)))
          (goes_as all now (λ told. Told first told last) (and_then (moves_near all now state) stays) (moves_near all now state) new
          after (then_stays (moves_near all now state))
          (goes_then Lines Told joined all first between last (moves_near all now state) stays now new after goes.told ended.1)),
      reached_was (λ over. ended.2),
    )
    reads_done new after (inr found) =
        let within = this_within all.sent now hart number found.0 in (
          read_up_to all.sent hart number,
          subst (λ n. GoesTo all n (λ told. Told first told last) (moves_near all n state) new after)
              (sym (up_to_found all now hart number none within found.0)) (reads_further new after found.1),
          reached_was (λ over.
              let at = position_is all.sent hart number now none found.0 in
              let before = was.count in
              absurd (omega (arith, over, at, before, later, within))),
        )

    -- No more can be read.
    pub reads_stopped : (why : LookFault) (after : Left) → IsLookFault all now why → IsLeftAt all now why after
        → Told between [] last
        → Stops all (λ told. Told first told last) asked (reaching all state hart number asked) why after
    reads_stopped why after fault remains told = record {
      fails = record {
        asked = asked + (now - read);
        more = omega arith;
        less = let before = was.count in let more = past in omega (arith, before, later, more);
        read = now;
        was = record { count = now_is; ended = λ over. ended over (cases_lt (length all.sent) asked) };
        fault = fault;
        remains = remains;
      };
      rest = (moves_near all (read_up_to all.sent hart number) there).lines;
      parts =
          ap (λ l. l ++ (moves_near all (read_up_to all.sent hart number) there).lines) same
          ∙ ap (λ (step : Step). step.lines)
          (sym (near_joined (read_up_to all.sent hart number) (up_to_later all now hart number none goes.stands.reads.within)));
      told =
          subst (λ l. Told first l last) (append-nil (moves_near all now state).lines ∙ sym same)
          (joined first between last (moves_near all now state).lines [] goes.told told);
    }
      where
        now_is : now ≡ min (asked + (now - read)) (length all.sent)
        now_is = let before = was.count in let within = goes.stands.reads.within in omega (arith, before, later, within)

        same : near_lines all state (asked + (now - read)) ≡ (moves_near all now state).lines
        same = ap (λ n. (moves_near all n state).lines) (sym now_is)

        ended : length all.sent < asked + (now - read) → (length all.sent < asked) ⊎ (asked ≤ length all.sent) → EndsWell all
        ended over (inl end) = was.ended end
        ended over (inr within) =
            let before = was.count in let most = goes.stands.reads.within in absurd (omega (arith, over, within, before, most))
