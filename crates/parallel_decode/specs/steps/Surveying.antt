-- How far the first pass over a capture's messages came.
use Rattle.std.specs.Prelude.{ℕ, ◌≡◌, Bool, List, Option, Some, length, map, slice_get}
use Rattle.message.specs.OfHart.{of_hart}
use Rattle.message.specs.declared.message.Message.{Message}
use Rattle.message.specs.declared.range.HartRange.{HartRange}
use Rattle.retire.specs.declared.event.Event.{Event}
use Rattle.rvclass.specs.Words.{Words}
use Rattle.payload.specs.declared.mode.Mode.{Mode}
use Rattle.captures.specs.Decoded.{AreHartsDecoded}
use Rattle.captures.specs.declared.outcome.CaptureFault.{CaptureFault}
use Rattle.parallel_decode.specs.Surveyed.{NeverMemory}
use Rattle.parallel_decode.specs.declared.own.Own.{Own}
use Rattle.parallel_decode.specs.steps.OwnMessages.{IsOwn}

-- Of each hart its messages among these were received.
abbrev pub AreOwns : Words → Option Mode → List Message → List Own → Type 0
AreOwns words announced messages owns = (hart : ℕ) (own : Own) → slice_get owns hart ≡ Some own
    → (log : List Event) × IsOwn words announced (of_hart hart messages) log own

-- Whether the closing packet of each hart was decoded.
abbrev pub closed_of : List Own → List Bool
closed_of owns = map (λ (own : Own). own.closed) owns

-- The bytes decode to these flags, and after so many messages this is why decoding stops. It is not that an allocation
-- failed.
pub record IsSurveyedUpTo (range : HartRange) (words : Words) (harts : ℕ) (announced : Option Mode) (bytes : List ℕ)
    (closed : List Bool) (number : ℕ) (stop : Option (ℕ × CaptureFault)) : Type 0 where
  pub lists : List (List Event)
  pub decoded : AreHartsDecoded range words harts announced bytes lists closed stop
  pub counted : number ≡ length decoded.messages
  pub never_memory : NeverMemory stop
