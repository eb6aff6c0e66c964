-- What an encoder keeps comes back from its numbers.
use Rattle.std.proofs.Common.{◌≡◌, ◌≤◌, length, refl}
use Rattle.encoder.specs.declared.due.Due.{Due}
use Rattle.encoder.specs.declared.due.Due.TheVariants as due
use Rattle.encoder.specs.declared.state.EncoderState.{EncoderState}
use Rattle.payload.specs.Limits.{most_outcomes}
use Rattle.payload.specs.declared.mode.Mode.{Mode}
use Rattle.payload.specs.declared.mode.Mode.TheVariants.{Differential, Full}
use Rattle.ffi.proofs.EventsBack.{event_if_any_back}
use Rattle.ffi.proofs.PacketsBack.{outcomes_back}
use Rattle.ffi.specs.EncoderKept.{number_of_due, numbers_of_state}
use Rattle.ffi.specs.Numbers.{number_of_mode}
use Rattle.ffi.specs.steps.Reading.{mode_in}
use Rattle.ffi.specs.steps.ReadingStates.{due_in, state_in}

-- A mode comes back.
pub mode_back : (mode : Mode) → mode_in (number_of_mode mode) ≡ mode
mode_back Differential = refl
mode_back Full = refl

-- So does what is due.
due_back : (d : Due) → due_in (number_of_due d) ≡ d
due_back due.Nothing = refl
due_back due.Sync = refl
due_back due.Target = refl
due_back due.Trap = refl
due_back due.TrapOrHandler = refl
due_back due.Handler = refl

-- So does the state.
pub state_back : (s : EncoderState) → length s.pending ≤ most_outcomes → state_in (numbers_of_state s) ≡ s
state_back s few =
    rw (event_if_any_back s.held, due_back s.due, outcomes_back s.pending few, mode_back s.mode) refl
