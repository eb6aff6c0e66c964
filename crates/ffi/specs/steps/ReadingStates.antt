-- Numbers as what an encoder keeps, if any has them.
use Rattle.std.specs.Prelude.{ℕ, ◌==◌, if◌then◌else◌, min}
use Rattle.encoder.specs.declared.due.Due.{Due}
use Rattle.encoder.specs.declared.due.Due.TheVariants as due
use Rattle.encoder.specs.declared.state.EncoderState.{EncoderState}
use Rattle.payload.specs.Limits.{most_outcomes}
use Rattle.payload.specs.Outcomes.{outcomes_in_map}
use Rattle.ffi.specs.declared.encoder_state.EncoderNumbers.{EncoderNumbers}
use Rattle.ffi.specs.declared.encoder_state.TheConstants.{DUE_NOTHING, DUE_SYNC, DUE_TARGET}
use Rattle.ffi.specs.declared.encoder_state.TheConstants.{DUE_TRAP, DUE_TRAP_OR_HANDLER}
use Rattle.ffi.specs.steps.Reading.{mode_in}
use Rattle.ffi.specs.steps.ReadingEvents.{event_if_any}

-- What is due that has this number, if anything has.
abbrev pub due_in : ℕ → Due
due_in number =
    if number == DUE_NOTHING then due.Nothing else
    if number == DUE_SYNC then due.Sync else
    if number == DUE_TARGET then due.Target else
    if number == DUE_TRAP then due.Trap else
    if number == DUE_TRAP_OR_HANDLER then due.TrapOrHandler else
    due.Handler

-- The state that has these numbers, if any has.
abbrev pub state_in : EncoderNumbers → EncoderState
state_in numbers = record {
  between = numbers.between;
  left = numbers.left;
  held = event_if_any numbers.holds numbers.held;
  due = due_in numbers.due;
  pending = outcomes_in_map (min numbers.outcomes most_outcomes) numbers.map;
  mode = mode_in numbers.mode;
  reported = numbers.reported;
}
