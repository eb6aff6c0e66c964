-- What a decoder remembers comes back from its numbers.
use Rattle.std.proofs.Common.{◌≡◌, ℕ, ◌≤◌, ◌==◌, Bool, List, Option, Some, None, if◌then◌else◌, is_some, length, refl}
use Rattle.std.proofs.Common.{sym, ap, subst, ◌∙◌, true, false, arith}
use Rattle.std.specs.Prelude.{min}
use Rattle.decoder.specs.StateStands.{StateStands, decoder_of}
use Rattle.decoder.specs.declared.settling.Waiting.{Waiting}
use Rattle.decoder.specs.declared.state.DecoderState.{DecoderState}
use Rattle.decoder.specs.declared.state.Phase.{Phase}
use Rattle.decoder.specs.declared.state.Phase.TheVariants.{Unopened, Running, PassingOver, Closed}
use Rattle.payload.specs.Limits.{most_outcomes}
use Rattle.payload.specs.Outcomes.{map_of, outcomes_in_map}
use Rattle.payload.specs.declared.mode.Mode.{Mode}
use Rattle.payload.specs.declared.packet.Packet.{Packet}
use Rattle.retire.specs.declared.event.Event.{Event}
use Rattle.rvclass.specs.Words.{Words}
use Rattle.ffi.proofs.EventsBack.{event_if_any_back}
use Rattle.ffi.proofs.PacketsBack.{outcomes_back}
use Rattle.ffi.proofs.StatesBack.{mode_back}
use Rattle.ffi.specs.DecoderKept.{HasFewOutcomes, IsOfState, NumbersStand, delta_waiting, number_of_announced}
use Rattle.ffi.specs.DecoderKept.{number_of_phase, numbers_of_state, outcomes_waiting, AreClosed, HaveMode, PassOver}
use Rattle.ffi.specs.Numbers.{flag, number_of_mode}
use Rattle.ffi.specs.declared.decoder_state.DecoderNumbers.{DecoderNumbers}
use Rattle.ffi.specs.steps.Reading.{mode_in}
use Rattle.ffi.specs.steps.ReadingDecoders.{phase_in, state_in}
use Rattle.decoder.specs.DecoderStands.{DecoderStands}
use Rattle.decoder.specs.Resuming.{HasMode, IsClosed, IsSync, PassesOver}
use Rattle.decoder.specs.declared.decoding.Decoder.{Decoder}
use Rattle.payload.specs.declared.packet.Packet.TheVariants as packet

-- A phase comes back.
pub phase_back : (p : Phase) → phase_in (number_of_phase p) ≡ p
phase_back Unopened = refl
phase_back Running = refl
phase_back PassingOver = refl
phase_back Closed = refl

-- So does the mode that was announced, if one was.
pub announced_back : (m : Option Mode)
    → (if flag (is_some m) == 0 then None else Some (mode_in (number_of_announced m))) ≡ m
announced_back None = refl
announced_back (Some mode) = ap Some (mode_back mode)

-- A packet that waits, with these outcomes.
abbrev waits_with : ℕ → List Bool → Waiting
waits_with delta outcomes = record { outcomes = outcomes; delta = delta }

-- So does the packet that waits, if one does.
waiting_back : (w : Option Waiting) → length (outcomes_waiting w) ≤ most_outcomes
    → (if flag (is_some w) == 0 then None else Some (waits_with (delta_waiting w)
    (outcomes_in_map (min (length (outcomes_waiting w)) most_outcomes) (map_of (outcomes_waiting w))))) ≡ w
waiting_back None few = refl
waiting_back (Some w) few = ap (λ outcomes. Some (waits_with w.delta outcomes)) (outcomes_back w.outcomes few)

-- A state comes back, where its packet that waits has few outcomes.
pub state_back : (s : DecoderState) → HasFewOutcomes s → state_in (numbers_of_state s) ≡ s
state_back s few =
    rw (
      phase_back s.phase,
      waiting_back s.waiting few,
      event_if_any_back s.last,
      announced_back s.announced,
      mode_back s.mode,
    ) refl

-- The same numbers are those of one state.
same_state : (numbers : DecoderNumbers) (one other : DecoderState) → IsOfState numbers one → IsOfState numbers other
    → one ≡ other
same_state numbers one other is is_too =
    sym (state_back one is.few) ∙ ap state_in (sym is.same ∙ is_too.same) ∙ state_back other is_too.few

module _ (words : Words) (packets : List Packet) (log : List Event) (numbers : DecoderNumbers) (state : DecoderState)
    (is : IsOfState numbers state) where
  -- What numbers stand for, their state stands for.
  pub recalled : NumbersStand words packets log numbers → StateStands words packets log state
  recalled stand =
      subst (StateStands words packets log) (same_state numbers stand.state state stand.is is) stand.stands

-- Phases with one number are one phase.
same_phase : (p q : Phase) → number_of_phase p ≡ number_of_phase q → p ≡ q
same_phase p q same = sym (phase_back p) ∙ ap phase_in same ∙ phase_back q

-- So are modes.
same_mode : (m n : Mode) → number_of_mode m ≡ number_of_mode n → m ≡ n
same_mode m n same = sym (mode_back m) ∙ ap mode_in same ∙ mode_back n

-- The mode that was announced, by its flag and its number.
abbrev read_mode : ℕ → ℕ → Option Mode
read_mode came number = if came == 0 then None else Some (mode_in number)

-- So are modes that were announced, or were not.
same_announced : (m n : Option Mode) → flag (is_some m) ≡ flag (is_some n)
    → number_of_announced m ≡ number_of_announced n → m ≡ n
same_announced m n came names =
    sym (announced_back m)
    ∙ ap (λ f. read_mode f (number_of_announced m)) came
    ∙ ap (λ k. read_mode (flag (is_some n)) k) names
    ∙ announced_back n

-- Where a flag is 0, there is nothing.
flag_none : {X : Type 0} → (x : Option X) → flag (is_some x) ≡ 0 → x ≡ None
flag_none None is = refl
flag_none (Some x) is = absurd (omega (arith, is))

module _ (numbers : DecoderNumbers) (state : DecoderState) (is : IsOfState numbers state) where
  -- Numbers of a decoder that passes over packets are those of a state that does, and so does the decoder of it.
  pub passes_back : (decoder : Decoder) → decoder ≡ decoder_of state → (mode : Mode) → PassOver mode numbers
      → PassesOver mode decoder
  passes_back decoder begun mode pass = subst (PassesOver mode) (sym begun) (record {
    phase = same_phase state.phase PassingOver (sym (ap (λ n. n.phase) is.same) ∙ pass.phase);
    waiting = flag_none state.waiting (sym (ap (λ n. n.waits) is.same) ∙ pass.waits);
    last = flag_none state.last (sym (ap (λ n. n.has_last) is.same) ∙ pass.has_last);
    reads = same_mode state.mode mode (sym (ap (λ n. n.mode) is.same) ∙ pass.reads);
    reported = sym (ap (λ n. n.reported) is.same) ∙ pass.reported;
  })

  -- And a state that passes over packets has such numbers.
  pub passes_numbers : (mode : Mode) → PassesOver mode (decoder_of state) → PassOver mode numbers
  passes_numbers mode passes = record {
    phase = ap (λ n. n.phase) is.same ∙ ap number_of_phase passes.phase;
    waits = ap (λ n. n.waits) is.same ∙ ap (λ (w : Option Waiting). flag (is_some w)) passes.waiting;
    has_last = ap (λ n. n.has_last) is.same ∙ ap (λ (l : Option Event). flag (is_some l)) passes.last;
    reads = ap (λ n. n.mode) is.same ∙ ap number_of_mode passes.reads;
    reported = ap (λ n. n.reported) is.same ∙ passes.reported;
  }

  -- So are those of one that is closed.
  pub closed_back : AreClosed numbers → IsClosed (decoder_of state)
  closed_back closed = same_phase state.phase Closed (sym (ap (λ n. n.phase) is.same) ∙ closed)

  -- And a state that is closed has such numbers.
  pub closed_numbers : IsClosed (decoder_of state) → AreClosed numbers
  closed_numbers closed = ap (λ n. n.phase) is.same ∙ ap number_of_phase closed

  -- The mode that the numbers say was announced is the one that the state has.
  pub mode_announced : (announced : Option Mode) → HaveMode announced numbers → HasMode announced (decoder_of state)
  mode_announced announced have =
      same_announced state.announced announced (sym (ap (λ n. n.is_announced) is.same) ∙ have.came)
      (sym (ap (λ n. n.announced) is.same) ∙ have.names)

  -- And the other way round.
  pub mode_numbers : (announced : Option Mode) → HasMode announced (decoder_of state) → HaveMode announced numbers
  mode_numbers announced has = record {
    came = ap (λ n. n.is_announced) is.same ∙ ap (λ m. flag (is_some m)) has;
    names = ap (λ n. n.announced) is.same ∙ ap number_of_announced has;
  }

  -- What the decoder of the state stands for, its numbers stand for.
  pub stand_by : (words : Words) (packets : List Packet) (log : List Event)
      → DecoderStands words packets log (decoder_of state) → NumbersStand words packets log numbers
  stand_by words packets log stands = record { state = state; is = is; stands = stands }

-- A packet of which it is absurd that it is no synchronisation is one.
pub is_sync : (p : Packet) → ¬ (¬ IsSync p) → IsSync p
is_sync (packet.Sync taken privilege address) some = tt
is_sync (packet.Trap taken privilege cause interrupt handler address tval) some = absurd (some (λ is. is))
is_sync (packet.Support support) some = absurd (some (λ is. is))
is_sync (packet.Address outcomes delta report) some = absurd (some (λ is. is))
is_sync (packet.Map outcomes) some = absurd (some (λ is. is))

-- A Boolean that is neither true nor false is absurd.
pub true_or_false : (b : Bool) → ¬ (b ≡ true) → ¬ (b ≡ false) → ⊥
true_or_false true not_true not_false = not_true refl
true_or_false false not_true not_false = not_false refl
