-- What an encoder keeps, as numbers.
use Rattle.std.specs.Prelude.{ℕ, ◌≡◌, ◌≤◌, is_some, length, List}
use Rattle.encoder.specs.StateStands.{StateStands}
use Rattle.encoder.specs.declared.due.Due.{Due}
use Rattle.encoder.specs.declared.due.Due.TheVariants as due
use Rattle.encoder.specs.declared.state.EncoderState.{EncoderState}
use Rattle.payload.specs.Limits.{most_outcomes}
use Rattle.payload.specs.Outcomes.{map_of}
use Rattle.payload.specs.declared.mode.Mode.{Mode}
use Rattle.retire.specs.declared.event.Event.{Event}
use Rattle.rvclass.specs.Words.{Words}
use Rattle.ffi.specs.Events.{numbers_if_any}
use Rattle.ffi.specs.Numbers.{flag, number_of_mode}
use Rattle.ffi.specs.declared.encoder_state.EncoderNumbers.{EncoderNumbers}
use Rattle.ffi.specs.declared.encoder_state.TheConstants.{DUE_NOTHING, DUE_SYNC, DUE_TARGET}
use Rattle.ffi.specs.declared.encoder_state.TheConstants.{DUE_TRAP, DUE_TRAP_OR_HANDLER, DUE_HANDLER}

-- The number of what is due.
abbrev pub number_of_due : Due → ℕ
number_of_due due.Nothing = DUE_NOTHING
number_of_due due.Sync = DUE_SYNC
number_of_due due.Target = DUE_TARGET
number_of_due due.Trap = DUE_TRAP
number_of_due due.TrapOrHandler = DUE_TRAP_OR_HANDLER
number_of_due due.Handler = DUE_HANDLER

-- The numbers of a state.
abbrev pub numbers_of_state : EncoderState → EncoderNumbers
numbers_of_state state = record {
  between = state.between;
  left = state.left;
  mode = number_of_mode state.mode;
  holds = flag (is_some state.held);
  due = number_of_due state.due;
  outcomes = length state.pending;
  map = map_of state.pending;
  reported = state.reported;
  held = numbers_if_any state.held;
}

-- Numbers are those of a state, whose outcomes fit into a packet.
pub record IsOfState (numbers : EncoderNumbers) (state : EncoderState) : Type 0 where
  pub few : length state.pending ≤ most_outcomes
  pub same : numbers ≡ numbers_of_state state

-- Numbers are those of some state.
abbrev pub AreOfEncoder : EncoderNumbers → Type 0
AreOfEncoder numbers = (state : EncoderState) × IsOfState numbers state

-- Numbers stand for a log: they are those of a state that does.
pub record NumbersStand (words : Words) (period : ℕ) (mode : Mode) (log : List Event) (numbers : EncoderNumbers)
    : Type 0 where
  pub state : EncoderState
  pub is : IsOfState numbers state
  pub stands : StateStands words period mode log state
