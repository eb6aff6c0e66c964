-- The live audit: what is found of each message of RECEIVED, and when, where only a window of SENT is looked at.
use Rattle.std.specs.Prelude.{ℕ, ◌+◌, ◌-◌, ◌==◌, ◌&&◌, ◌++◌, min, not, nat_lt, nat_le, Bool, true, false, if◌then◌else◌}
use Rattle.std.specs.Prelude.{zero, suc, List, [], ◌∷◌, Option, Some, None, drop, length, map, option_map, slice_get, take}
use Rattle.std.specs.List.{flat_map, position_or_len, range_with_len}
use Rattle.payload.specs.declared.by.By.{By}
use Rattle.message.specs.declared.message.Message.{Message}
use Rattle.auditing.specs.Fates.{has_number, is_numbered}
use Rattle.auditing.specs.declared.finding.Finding.{Finding}
use Rattle.auditing.specs.declared.finding.Finding.TheVariants as finding
use Rattle.live.specs.Compared.{known_finding, known_trues, changed_from}
use Rattle.live.specs.Lines.{Line, Decided, TooLate, GivenUp}
use Rattle.live.specs.Runs.{is_written, no_run, run_left, run_lines, run_with}
use Rattle.live.specs.View.{given_up, standing_of, up_to}
use Rattle.live.specs.declared.arrived.Arrived.{Arrived}
use Rattle.live.specs.declared.held.SentMessage.{SentMessage}
use Rattle.live.specs.declared.run.Run.{Run}
use Rattle.live.specs.declared.standing.Standing.{Standing}
use Rattle.live.specs.declared.standing.Standing.TheVariants as standing

-- By what payloads are compared; how many messages of SENT are up to the front; the messages that came and were found in
-- view; of each hart the message that is undecided, if one is; and of each hart the run of lost numbers that goes on.
pub record State : Type 0 where
  pub by : By
  pub front : ℕ
  pub came : List Message
  pub waiting : ℕ → Option Arrived
  pub runs : ℕ → Run

-- Before the first message of RECEIVED.
abbrev pub start : By → State
start how = record { by = how; front = 0; came = []; waiting = λ hart. None; runs = λ hart. no_run }

-- What harts have, where this one has this.
abbrev pub with_own : {X : Type 0} → (ℕ → X) → ℕ → X → ℕ → X
with_own owns hart own other = if other == hart then own else owns other

-- What a step leaves, and the lines that it writes.
pub record Step : Type 0 where
  pub state : State
  pub lines : List Line

-- Nothing happens.
abbrev pub stays : State → Step
stays state = record { state = state; lines = [] }

-- A step after these lines.
abbrev pub after_lines : List Line → Step → Step
after_lines lines step = record { state = step.state; lines = lines ++ step.lines }

-- A step, and then one from what it leaves.
abbrev pub and_then : Step → (State → Step) → Step
and_then first next = after_lines first.lines (next first.state)

-- What is found is of a true message that is no repeat.
abbrev pub is_new : Finding → Bool
is_new (finding.Late by) = true
is_new (finding.InOrder skips) = true
is_new other = false

-- A message in view is decided: this is found of it.
abbrev pub finds : List Message → State → Arrived → Finding → Step
finds sent state one its = record {
  state = record state { came = state.came ++ one.message ∷ [] };
  lines = Decided one its (changed_from sent one.message its) ∷ [];
}

-- A message is decided: it is beyond what is in view, or its hart is not known.
abbrev pub strange : State → Arrived → Step
strange state one = record { state = state; lines = Decided one finding.Stranger None ∷ [] }

-- A message is undecided.
abbrev pub waits : State → Arrived → Step
waits state one = stays (record state { waiting = with_own state.waiting one.message.hart (Some one) })

-- None of this hart is undecided any more.
abbrev pub settles : State → ℕ → State
settles state hart = record state { waiting = with_own state.waiting hart None }

-- The front comes to this message of SENT. If the message of its hart that waits has its number, it is decided.
abbrev pub met : List Message → State → Message → Option Arrived → Step
met sent state message None = stays state
met sent state message (Some one) =
    if one.message.number == message.number then
    finds sent (settles state message.hart) one (known_finding state.by sent state.came one.message) else
    stays state

-- A message of SENT, and whether a true message with its hart and number is among these.
abbrev pub held : List Message → Message → SentMessage
held trues message = record { message = message; came = has_number trues message.hart message.number }

-- The last of so many messages of SENT, and whether it came, if there is one.
abbrev pub last_held : By → List Message → List Message → ℕ → Option SentMessage
last_held how came sent zero = None
last_held how came sent (suc place) = option_map (held (known_trues how sent came)) (slice_get sent place)

-- A number of this hart is given up, by the run with it.
abbrev pub ends_run : State → ℕ → Bool → Run → Step
ends_run state hart came run = record {
  state = record state { runs = with_own state.runs hart (run_left run came) };
  lines = if is_written run came then run_lines hart run else [];
}

-- A message of SENT is given up.
abbrev pub gives : State → SentMessage → Step
gives state slot =
    after_lines (GivenUp slot ∷ [])
    (ends_run state slot.message.hart slot.came (run_with (state.runs slot.message.hart) slot.message.number slot.came))

-- A message of SENT is given up, if there is one.
abbrev pub gives_last : State → Option SentMessage → Step
gives_last state None = stays state
gives_last state (Some slot) = gives state slot

-- The message that is now a window and one before the front is given up.
abbrev pub gives_up : ℕ → List Message → State → Step
gives_up window sent state = gives_last state (last_held state.by state.came sent (given_up window state.front))

-- The front goes on to the next message of SENT. A message that waits for it is decided, and one more is given up.
abbrev pub passes : ℕ → List Message → State → Message → Step
passes window sent state message =
    and_then (met sent (record state { front = state.front + 1 }) message (state.waiting message.hart))
    (gives_up window sent)

-- The front goes on over these messages of SENT, one after the other.
abbrev pub passes_all : ℕ → List Message → State → List Message → Step
passes_all window sent state [] = stays state
passes_all window sent state (message ∷ messages) =
    and_then (passes window sent state message) (λ next. passes_all window sent next messages)

-- The front goes on until so many messages of SENT are up to it, if there are not as many yet.
abbrev pub moves_to : ℕ → List Message → ℕ → State → Step
moves_to window sent front state = passes_all window sent state (drop state.front (take front sent))

-- A message in view is decided. If it is new, the front goes on to it, if it is not there yet.
abbrev pub decides : ℕ → List Message → State → Arrived → ℕ → Finding → Step
decides window sent state one place its =
    and_then (finds sent state one its) (moves_to window sent (if is_new its then up_to window state.front place else 0))

-- A message by where it is. What becomes of one beyond the view is handed in.
abbrev pub judged_at : (State → Arrived → Step) → ℕ → List Message → State → Arrived → Standing → Step
judged_at beyond window sent state one standing.Below = record { state = state; lines = TooLate one ∷ [] }
judged_at beyond window sent state one standing.Beyond = beyond state one
judged_at beyond window sent state one (standing.At place) =
    decides window sent state one place (known_finding state.by sent state.came one.message)

-- Where a message is, by what is in view.
abbrev pub standing_now : ℕ → List Message → State → Message → Standing
standing_now window sent state message = standing_of window sent state.front message.hart message.number

-- A message is looked up.
abbrev pub judged : (State → Arrived → Step) → ℕ → List Message → State → Arrived → Step
judged beyond window sent state one =
    judged_at beyond window sent state one (standing_now window sent state one.message)

-- A message is beyond the view.
abbrev pub is_beyond : Standing → Bool
is_beyond standing.Beyond = true
is_beyond other = false

-- Two numbers differ by 1 to so many.
abbrev pub are_near : ℕ → ℕ → ℕ → Bool
are_near window number other = not (number == other) && nat_le (number - other + (other - number)) window

-- Two messages of a hart, one after the other, are beyond the view and near each other: the path was out for longer than
-- the window.
abbrev pub is_outage : ℕ → List Message → State → Message → Message → Bool
is_outage window sent state first second =
    is_beyond (standing_now window sent state first)
    && (is_beyond (standing_now window sent state second) && are_near window first.number second.number)

-- How many messages of SENT are up to the one of this hart with this number. If SENT does not have it, all of them.
abbrev pub read_up_to : List Message → ℕ → ℕ → ℕ
read_up_to sent hart number = min (position_or_len (is_numbered hart number) sent + 1) (length sent)

-- How many messages of SENT are up to this one. If SENT does not have it, all of them.
abbrev pub read_to : List Message → Message → ℕ
read_to sent message = read_up_to sent message.hart message.number

-- After an outage SENT is read to the first message after it, and the front is at least a window before that.
abbrev pub goes_on : ℕ → List Message → State → Message → Message → Step
goes_on window sent state first second =
    if is_outage window sent state first second then moves_to window sent (read_to sent first - window) state else
    stays state

-- A message that waits is decided when the next of its hart is taken.
abbrev pub settled : ℕ → List Message → State → Arrived → Option Arrived → Step
settled window sent state one None = stays state
settled window sent state one (Some first) =
    and_then
    (goes_on window sent (settles state one.message.hart) first.message one.message)
    (λ next. judged strange window sent next first)

-- A message of RECEIVED is taken, of a hart that is known: the one of its hart that waits is decided, then it is looked
-- up itself.
abbrev pub taken : ℕ → List Message → State → Arrived → Step
taken window sent state one =
    and_then
    (settled window sent state one (state.waiting one.message.hart))
    (λ next. judged waits window sent next one)

-- A message of RECEIVED is taken, where there are so many harts.
abbrev pub taken_of : ℕ → ℕ → List Message → State → Arrived → Step
taken_of harts window sent state one =
    if nat_lt one.message.hart harts then taken window sent state one else strange state one

-- These messages of SENT are given up, one after the other.
abbrev pub gives_all : State → List SentMessage → Step
gives_all state [] = stays state
gives_all state (slot ∷ slots) = and_then (gives state slot) (λ next. gives_all next slots)

-- The messages of SENT that are not given up yet are given up.
abbrev pub gives_all_up : ℕ → List Message → State → Step
gives_all_up window sent state =
    gives_all state (map (held (known_trues state.by sent state.came)) (drop (given_up window state.front) sent))

-- The line of the message that waits, if one does: it is a stranger.
abbrev pub strange_lines : Option Arrived → List Line
strange_lines None = []
strange_lines (Some one) = Decided one finding.Stranger None ∷ []

-- The lines that are left: what waits is a stranger, and no run goes on.
abbrev pub last_lines : ℕ → State → List Line
last_lines harts state =
    flat_map (λ hart. strange_lines (state.waiting hart)) (range_with_len 0 harts)
    ++ flat_map (λ hart. run_lines hart (state.runs hart)) (range_with_len 0 harts)

-- RECEIVED ends: the front goes on to SENT's end, and what is left of SENT is given up.
abbrev pub finished : ℕ → ℕ → List Message → State → Step
finished harts window sent state =
    and_then (and_then (moves_to window sent (length sent) state) (gives_all_up window sent))
    (λ next. record { state = next; lines = last_lines harts next })

-- The messages of RECEIVED are taken, one after the other. The first of them is at this place.
abbrev pub taken_all : ℕ → ℕ → List Message → State → ℕ → List Message → Step
taken_all harts window sent state place [] = finished harts window sent state
taken_all harts window sent state place (message ∷ messages) =
    and_then (taken_of harts window sent state (record { place = place; message = message }))
    (λ next. taken_all harts window sent next (place + 1) messages)

-- What a live audit of SENT says of RECEIVED, where there are so many harts, and payloads are compared by these.
abbrev pub live : ℕ → ℕ → By → List Message → List Message → List Line
live harts window how sent received = (taken_all harts window sent (start how) 0 received).lines
