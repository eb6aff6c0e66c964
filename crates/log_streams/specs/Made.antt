-- What is made of the logs at some paths.
use Rattle.std.specs.Prelude.{⊤, ◌≡◌, ◌⊎◌, ◌≤◌, ℕ, List, Result, Some, Ok, Err, IfErr, slice_get, length}
use Rattle.std.specs.Borrow.{Bor}
use Rattle.legalpath.specs.FirstFault.{IsFirstFault}
use Rattle.retire.specs.declared.event.Event.{Event}
use Rattle.retire.specs.declared.fault.LogFault.{LogFault}
use Rattle.retire.specs.declared.fault.LogFault.TheVariants.{Memory, Read}
use Rattle.rvclass.specs.Fetch.{words_of}
use Rattle.rvclass.specs.Image.{Image}
use Rattle.log_streams.specs.Gave.{Gave}
use Rattle.log_streams.specs.Known.{Content, Known, MayLack}
use Rattle.log_streams.specs.Illegal.{IsIllegalRow}
use Rattle.legalpath.specs.LegalUpTo.{IsLegalUpTo}
use Rattle.log_streams.specs.Read.{IsReadFrom, IsReadIn}
use Rattle.log_streams.specs.declared.illegal_row.IllegalRow.{IllegalRow}
use Rattle.log_streams.specs.declared.logs_fault.LogsFault.{LogsFault}
use Rattle.log_streams.specs.declared.stop.Stop.{Stop}
use Rattle.log_streams.specs.declared.stop.Stop.TheVariants as stop

-- This is made of the legal log of a hart. What is read of it is given.
pub record IsMadeOfLegalRead {X : Type 0} (Makes : ℕ → List Event → X → Type 0)
    (Reads : Result (List Event) LogFault → Type 0) (program : Image) (most hart : ℕ) (made : X) : Type 0 where
  pub events : List Event
  pub read : Reads (Ok events)
  pub legal : IsLegalUpTo most program events
  pub makes : Makes hart events made

-- This is made of an illegal log. What is read of it is given.
pub record IsMadeOfIllegalRead {X : Type 0} (OfIllegal : List Event → IllegalRow → X → Type 0)
    (Reads : Result (List Event) LogFault → Type 0) (program : Image) (made : X) : Type 0 where
  pub events : List Event
  pub row : IllegalRow
  pub read : Reads (Ok events)
  pub illegal : IsIllegalRow (words_of program) events row
  pub makes : OfIllegal events row made

-- Of a log nothing is made for this reason. What is read of it is given, and whether its file may be lacking.
abbrev pub IsStoppedRead : (Result (List Event) LogFault → Type 0) → Type 0 → Image → Stop → Type 0
IsStoppedRead Reads Lacks program (stop.Unread why) = (why ≡ Memory) ⊎ (((why ≡ Read) × Lacks) ⊎ Reads (Err why))
IsStoppedRead Reads Lacks program (stop.Illegal fault) =
    (events : List Event) × Reads (Ok events) × IsFirstFault (words_of program) events fault

-- This is made of the log of a hart, or nothing for this reason. What is read of it is given, and whether its file may
-- be lacking.
abbrev pub IsMadeOfRead : {X : Type 0} → (ℕ → List Event → X → Type 0) → (List Event → IllegalRow → X → Type 0)
    → (Result (List Event) LogFault → Type 0) → Type 0 → Image → ℕ → ℕ → Result X Stop → Type 0
IsMadeOfRead Makes OfIllegal Reads Lacks program most hart (Ok made) =
    IsMadeOfLegalRead Makes Reads program most hart made ⊎ IsMadeOfIllegalRead OfIllegal Reads program made
IsMadeOfRead Makes OfIllegal Reads Lacks program most hart (Err why) = IsStoppedRead Reads Lacks program why

-- This is made of the legal log of a hart, in a file of which this is known.
abbrev pub IsMadeOfLegal : {X : Type 0} → (ℕ → List Event → X → Type 0) → Known → Image → ℕ → ℕ → X → Type 0
IsMadeOfLegal Makes known program most hart made =
    IsMadeOfLegalRead Makes (IsReadIn known most) program most hart made

-- This is made of an illegal log, in a file of which this is known.
abbrev pub IsMadeOfIllegal : {X : Type 0} → (List Event → IllegalRow → X → Type 0) → Known → Image → ℕ → X → Type 0
IsMadeOfIllegal OfIllegal known program most made = IsMadeOfIllegalRead OfIllegal (IsReadIn known most) program made

-- Of a log, in a file of which this is known, nothing is made for this reason.
abbrev pub IsStopped : Known → Image → ℕ → Stop → Type 0
IsStopped known program most why = IsStoppedRead (IsReadIn known most) (MayLack known) program why

-- This is made of the log of a hart, in a file of which this is known, or nothing for this reason.
abbrev pub IsMadeOf : {X : Type 0} → (ℕ → List Event → X → Type 0) → (List Event → IllegalRow → X → Type 0) → Known
    → Image → ℕ → ℕ → Result X Stop → Type 0
IsMadeOf Makes OfIllegal known program most hart made =
    IsMadeOfRead Makes OfIllegal (IsReadIn known most) (MayLack known) program most hart made

-- This is made of the log of a hart that calls gave of a file, or nothing for this reason. The file may be lacking.
abbrev pub IsMadeOfGiven : {X : Type 0} → (ℕ → List Event → X → Type 0) → (List Event → IllegalRow → X → Type 0)
    → (Gave → Type 0) → Image → ℕ → ℕ → Result X Stop → Type 0
IsMadeOfGiven Makes OfIllegal Gives program most hart made =
    IsMadeOfRead Makes OfIllegal (IsReadFrom Gives most) ⊤ program most hart made

-- This is made of the logs at these paths, the first of which is that of hart 0: something of each in order, up to the
-- first of which nothing is made. What is made of a log, or why nothing is, is given by its path and its hart.
pub record AreMadeBy {X : Type 0} (IsMade : List ℕ → ℕ → Result X Stop → Type 0) (paths : List (Bor (List ℕ)))
    (made : List X) (end : Result (Unit {0}) LogsFault) : Type 0 where
  pub few : length made ≤ length paths
  pub each : (hart : ℕ) (path : Bor (List ℕ)) (one : X) → slice_get paths hart ≡ Some path
      → slice_get made hart ≡ Some one → IsMade path.now hart (Ok one)
  pub all : end ≡ Ok tt → length made ≡ length paths
  pub fault : IfErr end (λ fault. (slice_get paths (length made) ≡ Some fault.path)
      × IsMade fault.path.now (length made) (Err fault.why))

-- The same of logs in files of which this is known.
abbrev pub AreMade : {X : Type 0} → (ℕ → List Event → X → Type 0) → (List Event → IllegalRow → X → Type 0) → Content
    → Image → ℕ → List (Bor (List ℕ)) → List X → Result (Unit {0}) LogsFault → Type 0
AreMade Makes OfIllegal content program most paths made end =
    AreMadeBy (λ path. IsMadeOf Makes OfIllegal (content path) program most) paths made end

-- The same of the logs that calls gave of the files.
abbrev pub AreMadeOfGiven : {X : Type 0} → (ℕ → List Event → X → Type 0) → (List Event → IllegalRow → X → Type 0)
    → (List ℕ → Gave → Type 0) → Image → ℕ → List (Bor (List ℕ)) → List X → Result (Unit {0}) LogsFault → Type 0
AreMadeOfGiven Makes OfIllegal Gives program most paths made end =
    AreMadeBy (λ path. IsMadeOfGiven Makes OfIllegal (Gives path) program most) paths made end
