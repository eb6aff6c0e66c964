-- RECEIVED's bytes are judged as far as they are held.
use Rattle.std.specs.Prelude.{ℕ, ◌≡◌, ◌<◌, ◌≤◌, ◌+◌, ◌++◌, Bool, true, false, if◌then◌else◌, List, Option, Some, None, Result, Ok, Err}
use Rattle.std.specs.Prelude.{drop, length, option_map}
use Rattle.frames.specs.Frame.{is_complete}
use Rattle.log_streams.specs.declared.fault.FileFault.TheVariants as lacks
use Rattle.message.specs.declared.message.Message.{Message}
use Rattle.live.specs.Following.{Audited, Left}
use Rattle.live.specs.Holding.{Holding}
use Rattle.payload.specs.declared.by.By.{By}
use Rattle.live.specs.Live.{are_near}
use Rattle.live.specs.Received.{Rule, is_seen_beyond, number_among, seen_beside}
use Rattle.live.specs.ReceivedLeft.{FailsFor, Follows, IsLeft, MayFollow, ReceivedHeld, most_sought}
use Rattle.live.specs.declared.fault.ReceivedFault.{ReceivedFault}
use Rattle.live.specs.declared.fault.ReceivedFault.TheVariants as received
use Rattle.live.specs.declared.held.SentMessage.{SentMessage}
use Rattle.live.specs.declared.received_seen.Pause.{Pause}
use Rattle.live.specs.declared.received_seen.Pause.TheVariants as pause
use Rattle.live.specs.declared.received_seen.Seen.{Seen}
use Rattle.live.specs.declared.received_seen.Seen.TheVariants as seen

-- This is so of the bytes that are held, whatever follows them.
abbrev pub Says : {X : Type 0} → (List ℕ → X) → List ℕ → Bool → X → Type 0
Says is bytes ended answer = (more : List ℕ) → MayFollow ended more → answer ≡ is (bytes ++ more)

-- What was found, by what is in view; or more bytes are looked at than are held; or SENT is not read on. Messages that begin
-- one of the first so many bytes were looked up.
abbrev pub Settles : {X : Type 0} → Audited → List Message → ℕ → ℕ → List ℕ → ℕ → (X → Type 0) → Result X Pause → Holding
    → Left → Type 0
Settles all came front first bytes most Is (Ok found) own left = Is found × Follows all came front first bytes most own left
Settles all came front first bytes most Is (Err pause.Bytes) own left = Follows all came front first bytes most own left
Settles all came front first bytes most Is (Err (pause.Sent why)) own left = FailsFor all front first bytes most why left

-- Where more bytes are looked at than are held, RECEIVED has not ended, and fewer are held than this.
abbrev pub IsFew : Bool → ℕ → ℕ → Pause → Type 0
IsFew ended count most pause.Bytes = (ended ≡ false) × (count < most)
IsFew ended count most (pause.Sent why) = Unit {0}

-- What is seen of a message, if there is one.
abbrev pub seen_first : (Message → Seen) → Option Message → Seen
seen_first sees None = seen.Neither
seen_first sees (Some message) = sees message

-- What is seen of a message beside what is held at its place.
abbrev pub seen_slot : By → Message → Option SentMessage → Seen
seen_slot how message None = seen.Neither
seen_slot how message (Some slot) = seen_beside how message (Some slot.message)

-- Whether a row ends with a message that is beyond the view, after these in it, and if so whether it is one. No answer where it
-- goes on.
abbrev pub near_by : ℕ → List Message → Option Message → Option Bool
near_by window before None = Some false
near_by window before (Some message) = option_map (are_near window message.number) (number_among before message.hart)

-- The same, whatever is seen of the message.
abbrev pub row_by : Rule → List Message → Option Message → Option Bool
row_by rule before message =
    if is_seen_beyond (seen_first rule.sees message) then near_by rule.window before message else Some false

-- A message that is taken is among the bytes that are held. Where none is, some byte is held, or RECEIVED has ended.
abbrev pub IsSure : List ℕ → Bool → Bool → Type 0
IsSure bytes ended true = is_complete bytes ≡ true
IsSure bytes ended false = length bytes ≡ 0 → ended ≡ true

-- The same bytes are left, of which this is so. Or RECEIVED or SENT is not read on.
abbrev pub IsDecided : Audited → List Message → ℕ → ℕ → (List ℕ → Bool) → List ℕ → ℕ → Result Bool ReceivedFault
    → ReceivedHeld → Option (List ℕ) → Holding → Left → Type 0
IsDecided all came front first is rest most (Ok found) new file held left =
    (found ≡ is rest) × IsLeft new file rest × Follows all came front first rest most held left
IsDecided all came front first is rest most (Err (received.File why)) new file held left = why ≡ lacks.Memory
IsDecided all came front first is rest most (Err (received.Sent why)) new file held left =
    IsLeft new file rest × FailsFor all front first rest most why left

-- Some bytes more were read: the same bytes are left. Or the file lacks memory.
abbrev pub ReadsSome : {X : Type 0} → List ℕ → Result X ReceivedFault → ReceivedHeld → Option (List ℕ) → Type 0
ReadsSome rest (Ok done) new file = IsLeft new file rest
ReadsSome rest (Err (received.File why)) new file = why ≡ lacks.Memory
ReadsSome rest (Err (received.Sent why)) new file = ⊥

-- So many bytes were passed over. Or RECEIVED or SENT is not read on.
abbrev pub IsPassed : Audited → List Message → ℕ → ℕ → ℕ → ReceivedHeld → List ℕ → Result ℕ ReceivedFault → ReceivedHeld
    → Option (List ℕ) → Holding → Left → Type 0
IsPassed all came front first count own rest (Ok found) new file held left =
    (found ≡ count) × IsLeft new file (drop count rest) × (new.offset ≡ own.offset + count) × (new.harts ≡ own.harts)
    × Follows all came front first rest (count + most_sought own.harts) held left
IsPassed all came front first count own rest (Err (received.File why)) new file held left = why ≡ lacks.Memory
IsPassed all came front first count own rest (Err (received.Sent why)) new file held left =
    (passed : ℕ) × (passed ≤ count) × IsLeft new file (drop passed rest) × (new.offset ≡ own.offset + passed)
    × (new.harts ≡ own.harts) × FailsFor all front first rest (passed + most_sought own.harts) why left
