-- Numbers as the state of a decoder, if any has them.
use Rattle.std.specs.Prelude.{ℕ, ◌==◌, if◌then◌else◌, Option, Some, None, min}
use Rattle.decoder.specs.declared.settling.Waiting.{Waiting}
use Rattle.decoder.specs.declared.state.DecoderState.{DecoderState}
use Rattle.decoder.specs.declared.state.Phase.{Phase}
use Rattle.decoder.specs.declared.state.Phase.TheVariants.{Unopened, Running, PassingOver, Closed}
use Rattle.payload.specs.Limits.{most_outcomes}
use Rattle.payload.specs.Outcomes.{outcomes_in_map}
use Rattle.payload.specs.declared.mode.Mode.{Mode}
use Rattle.ffi.specs.declared.decoder_state.DecoderNumbers.{DecoderNumbers}
use Rattle.ffi.specs.declared.decoder_state.TheConstants.{UNOPENED, RUNNING, PASSING_OVER}
use Rattle.ffi.specs.steps.Reading.{mode_in}
use Rattle.ffi.specs.steps.ReadingEvents.{event_if_any}

-- The phase that has this number, if any has.
abbrev pub phase_in : ℕ → Phase
phase_in number =
    if number == UNOPENED then Unopened else
    if number == RUNNING then Running else
    if number == PASSING_OVER then PassingOver else
    Closed

-- The mode that was announced, if one was.
abbrev pub announced_in : DecoderNumbers → Option Mode
announced_in numbers = if numbers.is_announced == 0 then None else Some (mode_in numbers.announced)

-- The packet that waits in these numbers.
abbrev pub packet_waiting : DecoderNumbers → Waiting
packet_waiting numbers = record {
  outcomes = outcomes_in_map (min numbers.outcomes most_outcomes) numbers.map;
  delta = numbers.delta;
}

-- The packet that waits, if one does.
abbrev pub waiting_in : DecoderNumbers → Option Waiting
waiting_in numbers = if numbers.waits == 0 then None else Some (packet_waiting numbers)

-- The state that has these numbers, if any has.
abbrev pub state_in : DecoderNumbers → DecoderState
state_in numbers = record {
  phase = phase_in numbers.phase;
  waiting = waiting_in numbers;
  last = event_if_any numbers.has_last numbers.last;
  mode = mode_in numbers.mode;
  announced = announced_in numbers;
  reported = numbers.reported;
}
