-- How far a log is read and checked, and what is made of it.
use Rattle.std.specs.Prelude.{◌≡◌, ◌⊎◌, ◌++◌, ℕ, List, Option, Result, Ok, Err}
use Rattle.std.specs.Io.KnownBytes.{IsAtEnd}
use Rattle.legalpath.specs.FirstFault.{IsFirstFault}
use Rattle.retire.specs.HasRead.{HasRead, IsFirstFault as IsFirstFaultOfLog, given_to, left_to}
use Rattle.retire.specs.Log.{IsReadOrMemory, log_up_to, records_of}
use Rattle.retire.specs.declared.event.Event.{Event}
use Rattle.retire.specs.declared.fault.LogFault.{LogFault}
use Rattle.retire.specs.declared.fault.LogFault.TheVariants.{Memory}
use Rattle.retire.specs.declared.log_reader.LogReader.{LogReader}
use Rattle.rvclass.specs.Fetch.{words_of}
use Rattle.rvclass.specs.Image.{Image}
use Rattle.log_streams.specs.Illegal.{IsIllegalRow}
use Rattle.legalpath.specs.LegalUpTo.{IsLegalUpTo}
use Rattle.log_streams.specs.declared.illegal_row.IllegalRow.{IllegalRow}
use Rattle.log_streams.specs.declared.judging.Judging.{Judging}
use Rattle.log_streams.specs.steps.Judging.{HasJudged}
use Rattle.log_streams.specs.declared.stop.Stop.{Stop}
use Rattle.log_streams.specs.declared.stop.Stop.TheVariants as stop

-- A source has ended, and the log that it gave has these events.
pub record IsWholeLog {S : Type 0} (given : S → List ℕ) (left : S → Option (List ℕ)) (most : ℕ) (reader : LogReader S)
    (events : List Event) : Type 0 where
  pub ended : IsAtEnd (left_to left reader)
  pub log : log_up_to most (records_of (given_to given reader)) ≡ Ok events

-- This is made of a log with these events: it is legal for the program, or it has a first illegal row.
abbrev pub IsMadeOfEvents : {X : Type 0} → (ℕ → List Event → X → Type 0) → (List Event → IllegalRow → X → Type 0) → Image
    → ℕ → ℕ → List Event → X → Type 0
IsMadeOfEvents Makes OfIllegal program most hart events made =
    (IsLegalUpTo most program events × Makes hart events made)
    ⊎ ((row : IllegalRow) × IsIllegalRow (words_of program) events row × OfIllegal events row made)

-- A log was not read: its source failed, an allocation failed, or it has this fault.
abbrev pub IsNotRead : {S : Type 0} → (S → List ℕ) → (S → Option (List ℕ)) → ℕ → LogReader S → LogFault → Type 0
IsNotRead given left most reader why =
    IsReadOrMemory why ⊎ IsFirstFaultOfLog most (given_to given reader) (left_to left reader) why

-- This is made of the log that a source gave, or nothing for this reason.
abbrev pub IsMadeOfSource : {X S : Type 0} → (ℕ → List Event → X → Type 0) → (List Event → IllegalRow → X → Type 0)
    → Image → ℕ → ℕ → (S → List ℕ) → (S → Option (List ℕ)) → LogReader S → Result X Stop → Type 0
IsMadeOfSource Makes OfIllegal program most hart given left reader (Ok made) =
    (events : List Event) × IsWholeLog given left most reader events
    × IsMadeOfEvents Makes OfIllegal program most hart events made
IsMadeOfSource Makes OfIllegal program most hart given left reader (Err (stop.Unread why)) =
    IsNotRead given left most reader why
IsMadeOfSource Makes OfIllegal program most hart given left reader (Err (stop.Illegal fault)) =
    (events : List Event) × IsWholeLog given left most reader events × IsFirstFault (words_of program) events fault

-- A source has ended, and the log that it gave begins with these events.
pub record IsReadOn {S : Type 0} (given : S → List ℕ) (left : S → Option (List ℕ)) (most : ℕ) (reader : LogReader S)
    (seen : List Event) : Type 0 where
  pub more : List Event
  pub whole : IsWholeLog given left most reader (seen ++ more)

-- Of a log these events were read, and then others.
abbrev pub HasReadOn : {S : Type 0} → (S → List ℕ) → (S → Option (List ℕ)) → ℕ → List Event → LogReader S → Type 0
HasReadOn given left most seen reader = (more : List Event) × HasRead given left most (seen ++ more) reader

-- This is made of a legal log with these events, or an allocation failed.
abbrev pub IsFinished : {X : Type 0} → (ℕ → List Event → X → Type 0) → Image → ℕ → ℕ → List Event → Result X Stop → Type 0
IsFinished Makes program most hart events (Ok made) = IsLegalUpTo most program events × Makes hart events made
IsFinished Makes program most hart events (Err why) = why ≡ stop.Unread Memory

-- Some events of a log were read and checked, and no others.
pub record HasReadAndJudged {S K : Type 0} (Keeps : List Event → K → Type 0) (program : Image) (given : S → List ℕ)
    (left : S → Option (List ℕ)) (most : ℕ) (reader : LogReader S) (judging : Judging K) : Type 0 where
  pub seen : List Event
  pub read : HasRead given left most seen reader
  pub judged : HasJudged Keeps program seen judging
