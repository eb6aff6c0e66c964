-- What the first pass over a capture finds.
use Rattle.std.specs.Prelude.{ℕ, List}
use Rattle.message.specs.declared.range.HartRange.{HartRange}
use Rattle.retire.specs.declared.event.Event.{Event}
use Rattle.rvclass.specs.Words.{Words}
use Rattle.captures.specs.Decoded.{IsDecodedOf}
use Rattle.parallel_decode.specs.Placed.{ArePlacedLogs}
use Rattle.parallel_decode.specs.Surveyed.{NeverMemory}
use Rattle.parallel_decode.specs.declared.index_capturing.CaptureSurvey.{CaptureSurvey}

-- The flags and the fault are those of what the bytes of a capture decode to, where messages of these harts alone are
-- looked at. At the places of each hart's list are messages whose packets describe the events of the hart.
pub record IsCaptureSurvey {A : Type 0} (range : HartRange) (words : Words) (harts : ℕ) (bytes : List ℕ)
    (found : CaptureSurvey A) : Type 0 where
  pub lists : List (List Event)
  pub decoded : IsDecodedOf range words harts bytes lists found.survey.closed.items found.survey.fault
  pub placed : ArePlacedLogs words found.messages.now found.survey.places.items lists
  pub never_memory : NeverMemory found.survey.fault
