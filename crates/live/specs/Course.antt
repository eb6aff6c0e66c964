-- How far SENT is read while messages of RECEIVED are taken: only to look one up.
use Rattle.std.specs.Prelude.{ℕ, ◌+◌, ◌-◌, ◌++◌, nat_lt, if◌then◌else◌, List, [], Option, Some, None, length, min}
use Rattle.std.specs.List.{position_or_len}
use Rattle.message.specs.declared.message.Message.{Message}
use Rattle.auditing.specs.Fates.{is_numbered}
use Rattle.live.specs.Following.{Audited, looked_to}
use Rattle.live.specs.Lines.{Line}
use Rattle.live.specs.Live.{State, Step, and_then, finished, goes_on, is_beyond, is_outage, judged, moves_to, settles, standing_now}
use Rattle.live.specs.Live.{stays, strange, taken_of, waits}
use Rattle.live.specs.declared.arrived.Arrived.{Arrived}

-- A step, how often SENT was asked for a message after it, and the lines that are told before SENT fails where it was asked so
-- often before.
pub record Course : Type 0 where
  pub step : Step
  pub asked : ℕ
  pub told : ℕ → List Line

-- A course, and then one from what it leaves.
abbrev pub then_goes : Course → (State → ℕ → Course) → Course
then_goes first next = record {
  step = and_then first.step (λ state. (next state first.asked).step);
  asked = (next first.step.state first.asked).asked;
  told = λ failed.
      if nat_lt failed first.asked then first.told failed else
      first.step.lines ++ (next first.step.state first.asked).told failed;
}

-- A message is looked up, and then this step is made.
abbrev pub looking : Audited → State → Message → Step → ℕ → Course
looking all state message step asked = record {
  step = step;
  asked = looked_to all state.front message.hart message.number asked;
  told = λ failed. [];
}

-- The front is at least a window before so many messages of SENT.
abbrev pub moves_near : Audited → ℕ → State → Step
moves_near all read state = moves_to all.window all.sent (read - all.window) state

-- The lines of the front's way, where SENT was asked so often.
abbrev pub near_lines : Audited → State → ℕ → List Line
near_lines all state asked = (moves_near all (min asked (length all.sent)) state).lines

-- How many messages of SENT are up to the one of this hart with this number. If SENT does not have it, one more than all.
abbrev pub up_to_one : List Message → ℕ → ℕ → ℕ
up_to_one sent hart number = position_or_len (is_numbered hart number) sent + 1

-- How often SENT was asked after it is read to the message of this hart with this number, or to its end.
abbrev pub reached : Audited → ℕ → ℕ → ℕ → ℕ
reached all hart number asked = asked + (up_to_one all.sent hart number - min asked (length all.sent))

-- How often SENT was asked after it is found whether the path was out between two messages of a hart.
abbrev pub doubted_to : Audited → State → Message → Message → ℕ → ℕ
doubted_to all state first second asked =
    if is_beyond (standing_now all.window all.sent state first) then
    looked_to all state.front second.hart second.number (looked_to all state.front first.hart first.number asked) else
    looked_to all state.front first.hart first.number asked

-- After an outage SENT is read to the first of two messages of a hart.
abbrev pub going_on : Audited → State → Message → Message → ℕ → Course
going_on all state first second asked = record {
  step = goes_on all.window all.sent state first second;
  asked = if is_outage all.window all.sent state first second
      then reached all first.hart first.number (doubted_to all state first second asked)
      else doubted_to all state first second asked;
  told = λ failed.
      if nat_lt failed (doubted_to all state first second asked) then [] else near_lines all state failed;
}

-- A message that waits is decided when the next of its hart is taken.
abbrev pub settling : Audited → State → Arrived → Option Arrived → ℕ → Course
settling all state one None asked = record { step = stays state; asked = asked; told = λ failed. [] }
settling all state one (Some first) asked =
    then_goes (going_on all (settles state one.message.hart) first.message one.message asked)
    (λ next. looking all next first.message (judged strange all.window all.sent next first))

-- A message of RECEIVED is taken, of a hart that is known.
abbrev pub taking : Audited → State → Arrived → ℕ → Course
taking all state one asked =
    then_goes (settling all state one (state.waiting one.message.hart) asked)
    (λ next. looking all next one.message (judged waits all.window all.sent next one))

-- A message of RECEIVED is taken. For one of a hart that is not known SENT is not read.
abbrev pub taking_of : Audited → State → Arrived → ℕ → Course
taking_of all state one asked = record {
  step = taken_of all.harts all.window all.sent state one;
  asked = if nat_lt one.message.hart all.harts then (taking all state one asked).asked else asked;
  told = (taking all state one asked).told;
}

-- RECEIVED ends: SENT is read to its end.
abbrev pub ending : Audited → State → Course
ending all state = record {
  step = finished all.harts all.window all.sent state;
  asked = length all.sent + 1;
  told = near_lines all state;
}
