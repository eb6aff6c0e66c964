-- How far a log is read.
use Rattle.std.specs.Prelude.{◌≡◌, ◌⊎◌, ◌≤◌, ◌<◌, ◌++◌, ℕ, List, Option, length, true, Err}
use Rattle.std.specs.Io.KnownBytes.{IsAtEnd, prepend_known}
use Rattle.retire.specs.Log.{log_up_to, records_of}
use Rattle.retire.specs.steps.Stands.{IsFault, Stands}
use Rattle.retire.specs.declared.event.Event.{Event}
use Rattle.retire.specs.declared.fault.LogFault.{LogFault}
use Rattle.retire.specs.declared.log_reader.LogReader.{LogReader}

-- The bytes that a reader's source gave so far.
abbrev pub given_to : {S : Type 0} → (S → List ℕ) → LogReader S → List ℕ
given_to given reader = given reader.source

-- What a reader's source has left, where that is known.
abbrev pub left_to : {S : Type 0} → (S → Option (List ℕ)) → LogReader S → Option (List ℕ)
left_to left reader = left reader.source

-- All bytes of a reader's source, where they are known.
abbrev pub content_of : {S : Type 0} → (S → List ℕ) → (S → Option (List ℕ)) → LogReader S → Option (List ℕ)
content_of given left reader = prepend_known (given reader.source) (left reader.source)

-- Of the log whose bytes the source gives, of at most so many rows, these events were given.
pub record HasRead {S : Type 0} (given : S → List ℕ) (left : S → Option (List ℕ)) (most : ℕ) (seen : List Event)
    (reader : LogReader S) : Type 0 where
  pub limit : reader.most ≡ most
  pub room : 0 < length reader.room.items
  pub ended : reader.is_ended ≡ true → IsAtEnd (left reader.source)
  pub few : length seen ≤ most
  pub stands : Stands most (given reader.source) seen reader.is_ended reader.stage reader.rows reader.held.items

-- The events of the next piece were appended to those before, and follow on those that were given.
pub record GoesOn {S : Type 0} (given : S → List ℕ) (left : S → Option (List ℕ)) (most : ℕ)
    (seen before after : List Event) (reader : LogReader S) : Type 0 where
  pub piece : List Event
  pub appended : after ≡ before ++ piece
  pub read : HasRead given left most (seen ++ piece) reader

-- Reading a log failed with this fault.
pub record HasFailed {S : Type 0} (given : S → List ℕ) (left : S → Option (List ℕ)) (most : ℕ) (reader : LogReader S)
    (why : LogFault) : Type 0 where
  pub limit : reader.most ≡ most
  pub room : 0 < length reader.room.items
  pub ended : reader.is_ended ≡ true → IsAtEnd (left reader.source)
  pub fault : IsFault most (given reader.source) reader.is_ended why

-- A log has this fault: what was given is all of it, or its bytes begin with what was given and any others may follow.
abbrev pub IsFirstFault : ℕ → List ℕ → Option (List ℕ) → LogFault → Type 0
IsFirstFault most given left why =
    (IsAtEnd left × (log_up_to most (records_of given) ≡ Err why))
    ⊎ ((more : List ℕ) → log_up_to most (records_of (given ++ more)) ≡ Err why)
