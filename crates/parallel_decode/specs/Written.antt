-- What is written of the logs of a capture's harts.
use Rattle.std.specs.Prelude.{ℕ, Bool, List, Option}
use Rattle.std.specs.Io.KnownBytes.{Appends}
use Rattle.message.specs.declared.range.HartRange.{HartRange}
use Rattle.output.specs.Begun.{AppendsBeginning}
use Rattle.retire.specs.declared.event.Event.{Event}
use Rattle.captures.specs.declared.outcome.CaptureFault.{CaptureFault}
use Rattle.parallel_decode.specs.HartsText.{harts_text_of}

-- What is decoded: a list of events and a flag of each hart, and where decoding stops, if it stops before the end.
abbrev pub Decoding : Type 1
Decoding = List (List Event) → List Bool → Option (ℕ × CaptureFault) → Type 0

-- Lists are decoded with these flags and this stop, and the lines and the logs of these harts were appended.
pub record WritesHartsOf (range : HartRange) (IsDecoded : Decoding) (closed : List Bool) (stop : Option (ℕ × CaptureFault))
    (old new : Option (List ℕ)) : Type 0 where
  pub lists : List (List Event)
  pub decoded : IsDecoded lists closed stop
  pub appended : Appends old new (harts_text_of range 0 lists)

-- Lists are decoded, and a prefix of the lines and the logs of these harts was appended.
pub record BeginsHartsOf (range : HartRange) (IsDecoded : Decoding) (old new : Option (List ℕ)) : Type 0 where
  pub lists : List (List Event)
  pub closed : List Bool
  pub stop : Option (ℕ × CaptureFault)
  pub decoded : IsDecoded lists closed stop
  pub begun : AppendsBeginning (harts_text_of range 0 lists) old new
