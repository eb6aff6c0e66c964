-- What is read of the log in a file.
use Rattle.std.specs.Prelude.{◌≡◌, ◌⊎◌, ℕ, List, Result, Ok, Err}
use Rattle.retire.specs.Log.{log_up_to, records_of}
use Rattle.retire.specs.declared.event.Event.{Event}
use Rattle.retire.specs.declared.fault.LogFault.{LogFault}
use Rattle.retire.specs.declared.fault.LogFault.TheVariants.{Read}
use Rattle.log_streams.specs.Gave.{First, Gave, IsGiven, Whole}
use Rattle.log_streams.specs.Known.{Known, MayHold, MayLack}

-- A log of at most so many rows, in a file of which this is known, has these events, or this fault.
pub record IsReadIn (known : Known) (most : ℕ) (found : Result (List Event) LogFault) : Type 0 where
  pub bytes : List ℕ
  pub held : MayHold known bytes
  pub read : log_up_to most (records_of bytes) ≡ found

-- These bytes were read: all that a file gave until it had ended, where events are found, and for a fault those that it
-- gave so far.
abbrev pub AreReadFrom : (Gave → Type 0) → Result (List Event) LogFault → List ℕ → Type 0
AreReadFrom Gives (Ok events) bytes = IsGiven Gives (Whole bytes)
AreReadFrom Gives (Err why) bytes = IsGiven Gives (First bytes)

-- The bytes that calls gave of a file are a log of at most so many rows with these events, or they have this fault.
pub record IsReadFrom (Gives : Gave → Type 0) (most : ℕ) (found : Result (List Event) LogFault) : Type 0 where
  pub bytes : List ℕ
  pub gave : AreReadFrom Gives found bytes
  pub read : log_up_to most (records_of bytes) ≡ found

-- The log of at most so many rows, in a file of which this is known, has this fault, or the file may be lacking.
abbrev pub IsUnread : Known → ℕ → LogFault → Type 0
IsUnread known most why = ((why ≡ Read) × MayLack known) ⊎ IsReadIn known most (Err why)
