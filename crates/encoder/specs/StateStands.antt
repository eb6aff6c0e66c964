-- Which log an encoder's state stands for, as a caller may keep it.
use Rattle.std.specs.Prelude.{ℕ, List}
use Rattle.retire.specs.declared.event.Event.{Event}
use Rattle.rvclass.specs.Words.{Words}
use Rattle.payload.specs.declared.mode.Mode.{Mode}
use Rattle.encoder.specs.EncoderStands.{EncoderStands}
use Rattle.encoder.specs.declared.encoder.Encoder.{Encoder}
use Rattle.encoder.specs.declared.state.EncoderState.{EncoderState}

-- The encoder that has this state.
abbrev pub encoder_of : EncoderState → Encoder
encoder_of state = record {
  between = state.between;
  left = state.left;
  held = state.held;
  due = state.due;
  pending = state.pending;
  mode = state.mode;
  reported = state.reported;
}

-- The state of an encoder.
abbrev pub state_of : Encoder → EncoderState
state_of encoder = record {
  between = encoder.between;
  left = encoder.left;
  held = encoder.held;
  due = encoder.due;
  pending = encoder.pending;
  mode = encoder.mode;
  reported = encoder.reported;
}

-- A state stands for a log: the encoder with this state does.
abbrev pub StateStands : Words → ℕ → Mode → List Event → EncoderState → Type 0
StateStands words period mode log state = EncoderStands words period mode log (encoder_of state)
