-- What is kept of the events that were checked.
use Rattle.std.specs.Prelude.{◌≡◌, ◌≤◌, ◌++◌, All, ℕ, zero, suc, List, None, Some, Option, length, slice_get}
use Rattle.std.specs.List.{last_or}
use Rattle.legalpath.specs.Passed.{HasPassed}
use Rattle.retire.specs.Is64Bit.{Is64Bit}
use Rattle.retire.specs.Log.{most_long_rows}
use Rattle.retire.specs.declared.event.Event.{Event}
use Rattle.rvclass.specs.Fetch.{words_of}
use Rattle.rvclass.specs.Image.{Image}
use Rattle.log_streams.specs.Illegal.{IsIllegalRow}
use Rattle.log_streams.specs.declared.illegal_row.IllegalRow.{IllegalRow}
use Rattle.log_streams.specs.declared.judging.Judging.{Judging}

-- These events were checked and are legal, and the task keeps what it keeps of them.
pub record HasJudged {K : Type 0} (Keeps : List Event → K → Type 0) (program : Image) (seen : List Event)
    (judging : Judging K) : Type 0 where
  pub passed : HasPassed (words_of program) seen judging.check
  pub numbers : All Is64Bit seen
  pub keeps : Keeps seen judging.state
  pub last : judging.before ≡ last_or None seen

-- Events of a piece may be checked: those before were, and there are at most 4,294,967,295 with these.
pub record MayJudge {K : Type 0} (Keeps : ℕ → List Event → K → Type 0) (program : Image) (judging : Judging K)
    (piece : List Event) : Type 0 where
  pub hart : ℕ
  pub seen : List Event
  pub judged : HasJudged (Keeps hart) program seen judging
  pub few : length (seen ++ piece) ≤ most_long_rows

-- All these events are legal, or this is the first illegal row of a log with them.
abbrev pub IsJudged : {K : Type 0} → (List Event → K → Type 0) → Image → List Event → Judging K → Option IllegalRow
    → Type 0
IsJudged Keeps program events judging None = HasJudged Keeps program events judging
IsJudged Keeps program events judging (Some row) = IsIllegalRow (words_of program) events row

-- The event before that at a place of a piece, which comes after this event, if there is one.
abbrev pub before_at : Option Event → List Event → ℕ → Option Event
before_at before piece zero = before
before_at before piece (suc last) = slice_get piece last
