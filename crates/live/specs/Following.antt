-- What is read of SENT from where it comes.
use Rattle.std.specs.Prelude.{ℕ, ◌≡◌, ◌≢◌, ◌+◌, ◌-◌, ◌^◌, ◌<◌, ◌≤◌, ◌++◌, true, Bool, List, [], ◌∷◌, Option, Some, None}
use Rattle.std.specs.Prelude.{Result, Ok, Err, if◌then◌else◌}
use Rattle.std.specs.Prelude.{drop, length, min, option_map, slice_get, take}
use Rattle.payload.specs.declared.by.By.{By}
use Rattle.message.specs.declared.fault.DemuxFault.{DemuxFault}
use Rattle.message.specs.declared.fault.MessageFault.{MessageFault}
use Rattle.message.specs.declared.message.Message.{Message}
use Rattle.auditing.specs.Sent.{AreInTurn, misplaced}
use Rattle.live.specs.Holding.{Holding}
use Rattle.live.specs.Holds.{Holds, is_wanted}
use Rattle.live.specs.View.{standing_of}
use Rattle.live.specs.declared.fault.LookFault.{LookFault}
use Rattle.live.specs.declared.fault.LookFault.TheVariants as look
use Rattle.live.specs.declared.fault.ReadFault.TheVariants as fault
use Rattle.live.specs.declared.fault.SourceFault.{SourceFault}
use Rattle.live.specs.declared.fault.SourceFault.TheVariants as source

-- What is left of a source of messages: whether that is known, the messages that it gives, and why there is no complete
-- message after them. There is no reason where its bytes end with the last message.
pub record Left : Type 0 where
  pub known : Bool
  pub messages : List Message
  pub ending : Option MessageFault

-- This message is left, and then what is left after it.
abbrev pub left_with : Message → Left → Left
left_with message left = record left { messages = message ∷ left.messages }

-- Why a source does not give the next message: where it says that there is no complete one, none is left, and that is the
-- reason. It may fail at any place.
abbrev pub IsSourceFault : SourceFault → Left → Type 0
IsSourceFault (source.Unread why) left = left ≡ record { known = true; messages = []; ending = Some why }
IsSourceFault other left = Unit {0}

-- The same is left, if that is known.
abbrev pub StaysLeft : Left → Left → Type 0
StaysLeft old new = new.known ≡ true → new ≡ old

-- What a source of messages gives, by what was left and what is.
abbrev pub Gives : Result (Option Message) SourceFault → Left → Left → Type 0
Gives (Ok (Some message)) old new = old ≡ left_with message new
Gives (Ok None) old new = (old ≡ record { known = true; messages = []; ending = None }) × (new ≡ old)
Gives (Err why) old new = IsSourceFault why old × StaysLeft old new

-- The same, where it is known what was left. Else nothing is said.
abbrev pub IsNext : Result (Option Message) SourceFault → Left → Left → Type 0
IsNext result old new = old.known ≡ true → Gives result old new

-- What is audited: how many harts there are, the window, by what payloads are compared, the messages of SENT, those that
-- follow them there, and why there is no complete message after all of them.
pub record Audited : Type 0 where
  pub harts : ℕ
  pub window : ℕ
  pub by : By
  pub sent : List Message
  pub rest : List Message
  pub ending : Option MessageFault

-- What is left of SENT after so many of its messages, with what follows it.
abbrev pub left_after : Audited → ℕ → Left
left_after all read = record { known = true; messages = drop read all.sent ++ all.rest; ending = all.ending }

-- SENT has no fault: no message follows, and no bytes that are none.
pub record EndsWell (all : Audited) : Type 0 where
  pub no_more : all.rest ≡ []
  pub no_reason : all.ending ≡ None

-- Nothing follows the messages of SENT, or a message that is not the next one of its hart.
abbrev pub IsCut : ℕ → List Message → List Message → Type 0
IsCut harts sent [] = Unit {0}
IsCut harts sent (message ∷ messages) = misplaced harts sent message ≢ None

-- Each message of SENT is the next one of its hart, up to what follows.
pub record IsAudited (all : Audited) : Type 0 where
  pub in_turn : AreInTurn all.harts [] all.sent
  pub cut : IsCut all.harts all.sent all.rest

-- So many messages of SENT were read, and these are left of it and what follows it. This is held of them.
pub record Reads (all : Audited) (read : ℕ) (came : List Message) (front : ℕ) (own : Holding) (left : Left)
    : Type 0 where
  pub holds : Holds (take read all.sent) came front own
  pub within : read ≤ length all.sent
  pub remains : left ≡ left_after all read
  pub harts : length own.harts ≡ all.harts
  pub window : own.window ≡ all.window
  pub by : own.by ≡ all.by

-- The first of these messages is not the next one of its hart after these, for this reason.
abbrev pub BeginsMisplaced : ℕ → List Message → List Message → DemuxFault → Type 0
BeginsMisplaced harts sent [] why = ⊥
BeginsMisplaced harts sent (message ∷ messages) why = misplaced harts sent message ≡ Some why

-- Why SENT is not read on after so many messages of it: its source does not give the next one; or all of it was read, and
-- what follows is not the next one of its hart; or the next one has number 2^64 - 1.
abbrev pub IsLookFault : Audited → ℕ → LookFault → Type 0
IsLookFault all read (look.Source why) = IsSourceFault why (left_after all read)
IsLookFault all read (look.Sent (fault.Misplaced why)) =
    (read ≡ length all.sent) × BeginsMisplaced all.harts all.sent all.rest why
IsLookFault all read (look.Sent fault.Full) =
    option_map (λ (message : Message). message.number) (slice_get all.sent read) ≡ Some (2 ^ 64 - 1)

-- What is left of SENT where it is not read on after so many messages: the others, if that is known and its source gave
-- none; else what follows the one that it gave.
abbrev pub IsLeftAt : Audited → ℕ → LookFault → Left → Type 0
IsLeftAt all read (look.Source why) left = StaysLeft (left_after all read) left
IsLeftAt all read (look.Sent why) left = (message : Message) × (left_after all read ≡ left_with message left)

-- How often SENT is asked for a message to look up one of this hart with this number, where these were read and those
-- follow: as long as it may be in view and not read yet. At SENT's end there is none.
abbrev pub asked_for : ℕ → ℕ → ℕ → ℕ → ℕ → List Message → List Message → ℕ
asked_for harts window front hart number sent [] = if is_wanted harts window sent front hart number then 1 else 0
asked_for harts window front hart number sent (message ∷ messages) =
    if is_wanted harts window sent front hart number then
    1 + asked_for harts window front hart number (sent ++ message ∷ []) messages else
    0

-- How often SENT was asked for a message after one of this hart with this number is looked up, if it was so often before.
abbrev pub looked_to : Audited → ℕ → ℕ → ℕ → ℕ → ℕ
looked_to all front hart number asked =
    asked + asked_for all.harts all.window front hart number (take asked all.sent) (drop asked all.sent)

-- SENT was asked for a message so often, and gave each: so many were read. If it was asked at its end, it has no fault.
pub record WasAsked (all : Audited) (asked read : ℕ) : Type 0 where
  pub count : read ≡ min asked (length all.sent)
  pub ended : length all.sent < asked → EndsWell all

-- SENT is not read on: it was asked so often before, from so often to less than so often.
pub record FailsAt (all : Audited) (from to : ℕ) (why : LookFault) (left : Left) : Type 0 where
  pub asked : ℕ
  pub more : from ≤ asked
  pub less : asked < to
  pub read : ℕ
  pub was : WasAsked all asked read
  pub fault : IsLookFault all read why
  pub remains : IsLeftAt all read why left

-- SENT was read from one place to another to look up a message of this hart with this number: no message before was read in
-- vain.
abbrev pub AllWanted : Audited → ℕ → ℕ → ℕ → ℕ → ℕ → Type 0
AllWanted all first read front hart number = (k : ℕ) → first ≤ k → k < read
    → is_wanted all.harts all.window (take k all.sent) front hart number ≡ true

-- SENT was read on until where a message of this hart with this number is does not depend on what follows.
pub record IsLooked (all : Audited) (first : ℕ) (came : List Message) (front hart number : ℕ) (own : Holding)
    (left : Left) : Type 0 where
  pub read : ℕ
  pub reads : Reads all read came front own left
  pub more : first ≤ read
  pub wanted : AllWanted all first read front hart number
  pub was : WasAsked all (looked_to all front hart number first) read
  pub settled : standing_of all.window (take read all.sent) front hart number
      ≡ standing_of all.window all.sent front hart number

-- SENT could not be read on. What was read before stays read.
pub record IsStopped (all : Audited) (first : ℕ) (came : List Message) (front hart number : ℕ) (own : Holding)
    (why : LookFault) (left : Left) : Type 0 where
  pub fails : FailsAt all first (looked_to all front hart number first) why left
  pub holds : Holds (take fails.read all.sent) came front own
  pub harts : length own.harts ≡ all.harts
  pub window : own.window ≡ all.window
  pub by : own.by ≡ all.by
  pub more : first ≤ fails.read
  pub wanted : AllWanted all first (fails.read + 1) front hart number

-- SENT was read on as far as a message of this hart with this number asks for, after so many messages of it.
abbrev pub Looks : {U : Type 0} → Audited → ℕ → List Message → ℕ → ℕ → ℕ → Result U LookFault → Holding → Left
    → Type 0
Looks all first came front hart number (Ok done) own left = IsLooked all first came front hart number own left
Looks all first came front hart number (Err why) own left = IsStopped all first came front hart number own why left
