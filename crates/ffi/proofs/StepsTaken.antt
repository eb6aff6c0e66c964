-- A step of an encoder is one of the log that the numbers of its state stand for.
use Rattle.std.proofs.Common.{◌≡◌, ℕ, List, Ok, Some, sym, subst, ◌∙◌}
use Rattle.std.proofs.lemmas.Option.{same_Some}
use Rattle.encoder.specs.StateStands.{StateStands}
use Rattle.encoder.specs.declared.state.EncoderState.{EncoderState}
use Rattle.legalpath.specs.Legal.{Legal}
use Rattle.payload.specs.declared.mode.Mode.{Mode}
use Rattle.retire.specs.declared.event.Event.{Event}
use Rattle.rvclass.specs.Fetch.{words_of}
use Rattle.rvclass.specs.Image.{Image}
use Rattle.rvclass.specs.Words.{Words}
use Rattle.ffi.specs.EncoderKept.{IsOfState, NumbersStand}
use Rattle.ffi.specs.Images.{Judged}
use Rattle.ffi.specs.Pushed.{IsOn}
use Rattle.ffi.specs.declared.encoder_state.EncoderNumbers.{EncoderNumbers}

-- An image makes one program.
pub one_program : (made program : Image) (answer : Judged) → answer ≡ Ok made → answer ≡ Ok program
    → made ≡ program
one_program made program answer is found =
    let same : Ok made ≡ Ok program = sym is ∙ found in
    cc

-- Numbers of which this state is read stand for what the state stands for.
pub state_stands : (words : Words) (period : ℕ) (mode : Mode) (log : List Event) (numbers : EncoderNumbers)
    (read : EncoderState) → ((state : EncoderState) → IsOfState numbers state → Some read ≡ Some state)
    → NumbersStand words period mode log numbers → StateStands words period mode log read
state_stands words period mode log numbers read only stand =
    subst (StateStands words period mode log) (sym (same_Some read stand.state (only stand.state stand.is)))
    stand.stands

-- What was read of an image and of numbers at the end of a log is what is known of them.
pub record IsReadAtEnd (program made : Image) (period : ℕ) (mode : Mode) (log : List Event) (read : EncoderState)
    : Type 0 where
  pub program_is : made ≡ program
  pub stands : StateStands (words_of made) period mode log read
  pub legal : Legal (words_of made) log

pub is_read_at_end : (image : Judged) (program made : Image) (period : ℕ) (mode : Mode) (log : List Event)
    (read : EncoderState) (numbers : EncoderNumbers)
    → image ≡ Ok made
    → ((state : EncoderState) → IsOfState numbers state → Some read ≡ Some state)
    → IsOn image program period mode log numbers
    → IsReadAtEnd program made period mode log read
is_read_at_end image program made period mode log read numbers makes only_state is =
    let same = one_program made program image makes is.made in
    record {
      program_is = same;
      stands = subst (λ p. StateStands (words_of p) period mode log read) (sym same)
          (state_stands (words_of program) period mode log numbers read only_state is.stand);
      legal = subst (λ p. Legal (words_of p) log) (sym same) is.legal;
    }
