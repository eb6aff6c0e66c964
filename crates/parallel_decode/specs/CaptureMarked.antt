-- What the first pass over a capture finds, with states of decoders on the way.
use Rattle.std.specs.Prelude.{ℕ, List}
use Rattle.message.specs.declared.range.HartRange.{HartRange}
use Rattle.retire.specs.declared.event.Event.{Event}
use Rattle.rvclass.specs.Words.{Words}
use Rattle.captures.specs.Decoded.{IsDecodedOf}
use Rattle.parallel_decode.specs.Marks.{AreMarkedLogs}
use Rattle.parallel_decode.specs.Surveyed.{NeverMemory}
use Rattle.parallel_decode.specs.declared.capturing.MarkedCaptureSurvey.{MarkedCaptureSurvey}

-- The flags and the fault are those of what the bytes of a capture decode to, where messages of these harts alone are
-- looked at. At the places are messages whose packets describe the events of the harts, and the marks are on the way.
pub record IsMarkedCaptureSurvey (range : HartRange) (words : Words) (harts : ℕ) (bytes : List ℕ)
    (found : MarkedCaptureSurvey) : Type 0 where
  pub lists : List (List Event)
  pub decoded : IsDecodedOf range words harts bytes lists found.survey.closed.items found.survey.fault
  pub marked : AreMarkedLogs words found.messages.now found.survey.places.items found.survey.marks.items lists
  pub never_memory : NeverMemory found.survey.fault
