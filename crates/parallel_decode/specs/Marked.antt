-- What the first pass over a capture's messages finds, with states of decoders on the way.
use Rattle.std.specs.Prelude.{ℕ, ◌≡◌, List, Option, length}
use Rattle.message.specs.Range.{selected}
use Rattle.message.specs.declared.range.HartRange.{HartRange}
use Rattle.retire.specs.declared.event.Event.{Event}
use Rattle.rvclass.specs.Words.{Words}
use Rattle.payload.specs.declared.mode.Mode.{Mode}
use Rattle.captures.specs.Decoded.{AreHartsDecoded}
use Rattle.parallel_decode.specs.Marks.{AreMarkedLogs}
use Rattle.parallel_decode.specs.Places.{ArePlaced}
use Rattle.parallel_decode.specs.Surveyed.{NeverMemory}
use Rattle.parallel_decode.specs.declared.surveying.MarkedSurvey.{MarkedSurvey}

-- The flags and the fault are those of what the bytes decode to. The places are those of the messages that are decoded,
-- all of these harts alone, and each hart's marks are on the way through them.
pub record IsMarkedSurvey (range : HartRange) (words : Words) (harts : ℕ) (announced : Option Mode) (bytes : List ℕ)
    (survey : MarkedSurvey) : Type 0 where
  pub lists : List (List Event)
  pub decoded : AreHartsDecoded range words harts announced bytes lists survey.closed.items survey.fault
  pub count : length survey.places.items ≡ harts
  pub placed : ArePlaced bytes survey.places.items (selected range decoded.messages)
  pub marked : AreMarkedLogs words bytes survey.places.items survey.marks.items lists
  pub never_memory : NeverMemory survey.fault
