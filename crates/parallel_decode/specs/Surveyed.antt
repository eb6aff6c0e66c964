-- What the first pass over a capture's messages finds.
use Rattle.std.specs.Prelude.{ℕ, ◌≡◌, ⊤, List, Option, Some, None, length}
use Rattle.message.specs.Range.{selected}
use Rattle.message.specs.declared.range.HartRange.{HartRange}
use Rattle.retire.specs.declared.event.Event.{Event}
use Rattle.rvclass.specs.Words.{Words}
use Rattle.payload.specs.declared.mode.Mode.{Mode}
use Rattle.captures.specs.Decoded.{AreHartsDecoded}
use Rattle.captures.specs.Returned.{IsMemory}
use Rattle.captures.specs.declared.outcome.CaptureFault.{CaptureFault}
use Rattle.parallel_decode.specs.declared.indexing.Survey.{Survey}
use Rattle.parallel_decode.specs.Places.{ArePlaced}

-- Decoding does not stop where an allocation failed.
abbrev pub NeverMemory : Option (ℕ × CaptureFault) → Type 0
NeverMemory None = ⊤
NeverMemory (Some stop) = ¬ IsMemory stop.1

-- The flags and the fault are those of what the bytes decode to, and the places are those of the messages that are
-- decoded, all of these harts alone.
pub record IsSurvey {A : Type 0} (range : HartRange) (words : Words) (harts : ℕ) (announced : Option Mode)
    (bytes : List ℕ) (survey : Survey A) : Type 0 where
  pub lists : List (List Event)
  pub decoded : AreHartsDecoded range words harts announced bytes lists survey.closed.items survey.fault
  pub count : length survey.places.items ≡ harts
  pub placed : ArePlaced bytes survey.places.items (selected range decoded.messages)
  pub never_memory : NeverMemory survey.fault
