-- What a decoder remembers, as numbers.
use Rattle.std.specs.Prelude.{ℕ, ◌≡◌, ◌≤◌, Bool, List, [], Option, Some, None, is_some, length}
use Rattle.decoder.specs.StateStands.{StateStands}
use Rattle.decoder.specs.declared.settling.Waiting.{Waiting}
use Rattle.decoder.specs.declared.state.DecoderState.{DecoderState}
use Rattle.decoder.specs.declared.state.Phase.{Phase}
use Rattle.decoder.specs.declared.state.Phase.TheVariants.{Unopened, Running, PassingOver, Closed}
use Rattle.payload.specs.Limits.{most_outcomes}
use Rattle.payload.specs.Outcomes.{map_of}
use Rattle.payload.specs.declared.mode.Mode.{Mode}
use Rattle.payload.specs.declared.packet.Packet.{Packet}
use Rattle.retire.specs.declared.event.Event.{Event}
use Rattle.rvclass.specs.Words.{Words}
use Rattle.ffi.specs.Events.{numbers_if_any}
use Rattle.ffi.specs.Numbers.{flag, number_of_mode}
use Rattle.ffi.specs.declared.decoder_state.DecoderNumbers.{DecoderNumbers}
use Rattle.ffi.specs.declared.decoder_state.TheConstants.{UNOPENED, RUNNING, PASSING_OVER, CLOSED}

-- The number of a phase.
abbrev pub number_of_phase : Phase → ℕ
number_of_phase Unopened = UNOPENED
number_of_phase Running = RUNNING
number_of_phase PassingOver = PASSING_OVER
number_of_phase Closed = CLOSED

-- The number of the mode that was announced, if one was.
abbrev pub number_of_announced : Option Mode → ℕ
number_of_announced None = 0
number_of_announced (Some mode) = number_of_mode mode

-- The outcomes of the packet that waits, if one does.
abbrev pub outcomes_waiting : Option Waiting → List Bool
outcomes_waiting None = []
outcomes_waiting (Some waiting) = waiting.outcomes

-- What the address field of the packet holds that waits, if one does.
abbrev pub delta_waiting : Option Waiting → ℕ
delta_waiting None = 0
delta_waiting (Some waiting) = waiting.delta

-- The numbers of a state.
abbrev pub numbers_of_state : DecoderState → DecoderNumbers
numbers_of_state state = record {
  phase = number_of_phase state.phase;
  mode = number_of_mode state.mode;
  is_announced = flag (is_some state.announced);
  announced = number_of_announced state.announced;
  has_last = flag (is_some state.last);
  waits = flag (is_some state.waiting);
  outcomes = length (outcomes_waiting state.waiting);
  map = map_of (outcomes_waiting state.waiting);
  delta = delta_waiting state.waiting;
  reported = state.reported;
  last = numbers_if_any state.last;
}

-- The packet that waits, if one does, has at most 31 outcomes.
abbrev pub HasFewOutcomes : DecoderState → Type 0
HasFewOutcomes state = length (outcomes_waiting state.waiting) ≤ most_outcomes

-- Numbers are those of a state, whose outcomes fit into a packet.
pub record IsOfState (numbers : DecoderNumbers) (state : DecoderState) : Type 0 where
  pub few : HasFewOutcomes state
  pub same : numbers ≡ numbers_of_state state

-- Numbers are those of some state.
abbrev pub AreOfDecoder : DecoderNumbers → Type 0
AreOfDecoder numbers = (state : DecoderState) × IsOfState numbers state

-- Numbers stand for packets and a log: they are those of a state that does.
pub record NumbersStand (words : Words) (packets : List Packet) (log : List Event) (numbers : DecoderNumbers) : Type 0
  where
    pub state : DecoderState
    pub is : IsOfState numbers state
    pub stands : StateStands words packets log state

-- The numbers say that the packet which opens the trace announced this mode, or, where this is `None`, that it did not
-- come.
pub record HaveMode (announced : Option Mode) (numbers : DecoderNumbers) : Type 0 where
  pub came : numbers.is_announced ≡ flag (is_some announced)
  pub names : numbers.announced ≡ number_of_announced announced

-- The numbers are those of a decoder that passes over packets until a synchronisation comes, and reads from there on in
-- this mode. No packet waits, there is no event before, and the last reported address is 0.
pub record PassOver (mode : Mode) (numbers : DecoderNumbers) : Type 0 where
  pub phase : numbers.phase ≡ PASSING_OVER
  pub waits : numbers.waits ≡ 0
  pub has_last : numbers.has_last ≡ 0
  pub reads : numbers.mode ≡ number_of_mode mode
  pub reported : numbers.reported ≡ 0

-- The numbers say that the packet which closes the trace came.
abbrev pub AreClosed : DecoderNumbers → Type 0
AreClosed numbers = numbers.phase ≡ CLOSED
