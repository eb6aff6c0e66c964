-- What a call reports of events that are checked as a log.
use Rattle.std.specs.Prelude.{ℕ, ◌≡◌, ◌<◌, ◌≤◌, ◌+◌, ◌++◌, ◌∷◌, List, Result, Ok, Err, length, map}
use Rattle.legalpath.specs.FirstFault.{IsFirstFault}
use Rattle.legalpath.specs.Legal.{Legal}
use Rattle.legalpath.specs.declared.fault.PathFault.{PathFault}
use Rattle.retire.specs.Log.{most_rows}
use Rattle.retire.specs.declared.event.Event.{Event}
use Rattle.retire.specs.declared.fault.LogFault.TheVariants.{TooLong}
use Rattle.rvclass.specs.Fetch.{words_of}
use Rattle.rvclass.specs.Image.{Image}
use Rattle.rvclass.specs.Words.{Words}
use Rattle.ffi.specs.Checked.{IsReported}
use Rattle.ffi.specs.Events.{AreOfEvent, numbers_of_event}
use Rattle.ffi.specs.Images.{Judged}
use Rattle.ffi.specs.declared.events.EventNumbers.{EventNumbers}
use Rattle.ffi.specs.declared.fault.Fault.{Fault}
use Rattle.ffi.specs.declared.fault.Fault.TheVariants as fault
use Rattle.ffi.specs.declared.fault.ImageFault.{ImageFault}

-- The numbers are those of these events, each in its place.
abbrev pub AreOfEvents : List EventNumbers → List Event → Type 0
AreOfEvents numbers events = numbers ≡ map numbers_of_event events

-- No event has the numbers of this row, counted from 1. Those before it are the numbers of a legal log.
pub record IsNoEventAt (words : Words) (numbers : List EventNumbers) (row : ℕ) : Type 0 where
  pub front : List Event
  pub one : EventNumbers
  pub rest : List EventNumbers
  pub whole : numbers ≡ map numbers_of_event front ++ one ∷ rest
  pub legal : Legal words front
  pub none : ¬ AreOfEvent one
  pub counted : row ≡ length front + 1

-- This is the first illegal row: the numbers begin with those of events of which it is.
pub record IsIllegalAt (words : Words) (numbers : List EventNumbers) (fault : PathFault) : Type 0 where
  pub log : List Event
  pub rest : List EventNumbers
  pub whole : numbers ≡ map numbers_of_event log ++ rest
  pub first : IsFirstFault words log fault

-- The result for the numbers of so many events: they are a legal log; or the first row at fault has the numbers of no
-- event, or is illegal.
abbrev pub AreLegal : Words → List EventNumbers → Result ℕ Fault → Type 0
AreLegal words numbers (Ok count) =
    (log : List Event) × AreOfEvents numbers log × Legal words log × (count ≡ length numbers)
AreLegal words numbers (Err (fault.NoEvent row)) = IsNoEventAt words numbers row
AreLegal words numbers (Err (fault.Illegal why)) = IsIllegalAt words numbers why
AreLegal words numbers (Err other) = ⊥

-- The result for an image and the numbers of events: the image makes no program; or it makes one, and there are more
-- events than a log may have; or they were checked.
pub data AreChecked (image : Judged) (numbers : List EventNumbers) (checked : Result ℕ Fault) : Type 0 where
  NoProgram : (why : ImageFault) → image ≡ Err why → checked ≡ Err (fault.NoProgram why)
      → AreChecked image numbers checked
  TooMany : (program : Image) → image ≡ Ok program → most_rows < length numbers → checked ≡ Err (fault.Log TooLong)
      → AreChecked image numbers checked
  Checked : (program : Image) → image ≡ Ok program → length numbers ≤ most_rows
      → AreLegal (words_of program) numbers checked → AreChecked image numbers checked

-- Events were checked, and the result was reported.
abbrev pub EndsCheckEvents : Judged → List EventNumbers → ℕ → ℕ → Type 0
EndsCheckEvents image numbers status row =
    (checked : Result ℕ Fault) × AreChecked image numbers checked × IsReported checked status row
